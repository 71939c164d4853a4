-- Over steady disks of which none is armed, a load of the parts of a half wants memory alone.
use Rattle.std.proofs.Common.{◌≡◌, inl, inr, ℕ, ◌-◌, ◌<◌, ◌≤◌, ◌∷◌, ◌++◌, Bool, true, false, not, IsTrue, List, length, get_or, Option, ◌∙◌, sym, refl, ap, subst, arith}
use Rattle.std.specs.Option.{option_map_or}
use Rattle.std.proofs.lemmas.List.{get_or-append_right, get_or_past, length-append}
use Rattle.std.proofs.lemmas.List.Elements.{All-get_or}
use Rattle.std.proofs.lemmas.Bool.{cases_lt}
use Rattle.avs_seg.specs.Causes.{Rose}
use Rattle.avs_dev.specs.Seen.{Seen}
use Rattle.avs_dev.specs.declared.back.Why.{Why}
use Rattle.avs_dev.specs.declared.back.Why.TheVariants.{Size, BadRecord, NoMemory, Fault}
use Rattle.avs_bits.specs.BitSet.{LoadRefused as SetRefused}
use Rattle.avs_sync.specs.Note.{IsNote}
use Rattle.avs_sync.specs.Parts.{MirrorSet}
use Rattle.avs_halves.specs.SetBits.{SetBits, no_part, no_set, part_of, set_at}
use Rattle.avs_halves.specs.Loading.{IsOpenable, OneRefused, blocks_of_set, half_why}
use Rattle.avs_halves.proofs.Lying.{loaded_count, loaded_part}
use Rattle.avs_land.specs.Landing.{LandingLoadRefused}
use Rattle.avs_land.specs.Landed.{IsReadable, landing_blocks}
use Rattle.avs_receiver.specs.Held.{ReceiverHeld, ReceiverParts, parts_of}
use Rattle.avs_land.specs.Redo.{IsRoom}
use Rattle.avs_receiver.specs.Meaning.{Finds, is_redone, vols_of}
use Rattle.avs_receiver.specs.Going.{OneFailed}
use Rattle.avs_receiver.specs.Loading.{IsQuiet, IsQuietBelow, LoadRefused, MustLoad, OpensReceiver}
use Rattle.avs_receiver.proofs.Loaded.{fits_same}

never : (b : Bool) → IsTrue b → IsTrue (not b) → ⊥
never true on off = cc
never false on off = cc

-- a bitmap
set_sure : (d left : Seen) (blocks : ℕ) (sizes : List ℕ) (part : MirrorSet) (cause why : Why) → part.bits ≡ d → blocks_of_set sizes part ≡ blocks → why ≡ half_why cause → IsQuiet d → IsOpenable sizes part → SetRefused part.bits false (blocks_of_set sizes part) cause left → why ≡ NoMemory
set_sure d left blocks sizes part (Size need have) why same of told q o small = absurd (omega (arith, small.needs, small.has, small.less, o.fits))
set_sure d left blocks sizes part (BadRecord field) why same of told q o mis = let seen = subst IsQuiet (sym same) q in let l = o.label seen.told in absurd (mis.none seen.told l.0 l.1)
set_sure d left blocks sizes part NoMemory why same of told q o none = told
set_sure d left blocks sizes part Fault why same of told q o unread = let seen = subst IsQuiet (sym same) q in absurd (never part.bits.steady seen.steady unread.unsteady)

at_front : (front behind : List MirrorSet) (m d : MirrorSet) → get_or (front ++ m ∷ behind) (length front) d ≡ m
at_front front behind m d = get_or-append_right front (m ∷ behind) (length front) (length front) d refl (omega arith) ∙ ap (λ (k : ℕ). get_or (m ∷ behind) k d) (let none : length front - length front ≡ 0 = omega arith in none)

-- the landing volume
land_sure : (d left : Seen) (cause why : Why) → why ≡ half_why cause → IsQuiet d → landing_blocks ≤ d.size → IsReadable d.image → LandingLoadRefused d cause left → why ≡ NoMemory
land_sure d left (Size need have) why told q fits readable small = absurd (omega (arith, small.needs, small.has, small.less, fits))
land_sure d left (BadRecord field) why told q fits readable other = absurd (other.none q.told readable)
land_sure d left NoMemory why told q fits readable none = told
land_sure d left Fault why told q fits readable unread = absurd (never d.steady q.steady unread.unsteady)

module _ (p : ReceiverParts) (m : MustLoad p) where
  note_is : IsNote p.below.note m.finds.note
  note_is = subst (λ (o : Option (List ℕ)). IsNote (option_map_or (λ (b : List ℕ). b) o p.below.note) m.finds.note) m.below.stored m.finds.noted

  sets_sure : (why : Why) (back : List MirrorSet) → OneRefused p.below.sizes p.sets why back → why ≡ NoMemory
  sets_sure why back r =
      let here : get_or p.sets (length r.front) no_part ≡ r.part = ap (λ (l : List MirrorSet). get_or l (length r.front) no_part) r.given ∙ at_front r.front r.behind r.part no_part in
      let there : length r.front < length p.sets = subst (λ (l : List MirrorSet). length r.front < length l) (sym r.given) (in_front r.front r.behind r.part) in
      set_sure r.part.bits r.left.bits (blocks_of_set p.below.sizes r.part) p.below.sizes r.part r.refused.cause why refl refl r.refused.told
      (subst (λ (s : MirrorSet). IsQuiet s.bits) here (m.bits (length r.front) there))
      (subst (λ (s : MirrorSet). IsOpenable p.below.sizes s) here (All-get_or (IsOpenable p.below.sizes) p.sets (length r.front) no_part there m.sets))
      r.refused.refused
    where
      in_front : (front behind : List MirrorSet) (s : MirrorSet) → length front < length (front ++ s ∷ behind)
      in_front front behind s = let n = length-append front (s ∷ behind) in omega (arith, n)

  module _ (first : ReceiverHeld) (o : OpensReceiver p first) where
    below_is : first.below ≡ p.below
    below_is = ap (λ (q : ReceiverParts). q.below) o.parts_are

    found : Finds (parts_of first) m.half
    found = subst (λ (q : ReceiverParts). Finds q m.half) (sym o.parts_are) m.finds

    land_quiet : IsQuiet first.half.land.disk
    land_quiet = subst IsQuiet (sym (ap (λ (q : ReceiverParts). q.land) o.parts_are)) m.land

    below_quiet : IsQuietBelow first.below
    below_quiet = subst IsQuietBelow (sym below_is) m.below

    part_at_is : (set : ℕ) → get_or p.sets set no_part ≡ part_of (set_at first.half.sets set)
    part_at_is set = loaded_part p.below p.sets first.half.sets o.sets set

    set_quiet : (set : ℕ) → set < length first.half.sets → IsQuiet (set_at first.half.sets set).bits.disk
    set_quiet set there = subst (λ (s : MirrorSet). IsQuiet s.bits) (part_at_is set) (m.bits set (omega (arith, there, loaded_count p.below p.sets first.half.sets o.sets)))

    elsewhere_never : is_redone first.half.note first.half.land.header ≡ true → (IsRoom first.half.land.header (vols_of first.half.sets) first.below → ⊥) → ⊥
    elsewhere_never is none = none ((fits_same first (subst (λ (q : ReceiverParts). OpensReceiver q first) (sym o.parts_are) o) below_quiet.stored land_quiet.told m.half found).room is)

    past_never : (set : ℕ) (last : ReceiverHeld) → length last.half.sets ≡ length first.half.sets → length first.half.sets ≤ set → Rose (set_at first.half.sets set).bits.disk.faults (set_at last.half.sets set).bits.disk.faults → ⊥
    past_never set last count behind rose = none (subst (λ (s : SetBits). Rose 0 s.bits.disk.faults) (get_or_past last.half.sets set no_set (omega (arith, behind, count))) (subst (λ (s : SetBits). Rose s.bits.disk.faults (set_at last.half.sets set).bits.disk.faults) (get_or_past first.half.sets set no_set behind) rose))
      where
        none : Rose 0 0 → ⊥
        none up = let high : 1 ≤ 0 = up in omega (arith, high)

    stopped_never : (last : ReceiverHeld) → length last.half.sets ≡ length first.half.sets → OneFailed first last → ⊥
    stopped_never last count (inl b) = let u = b.failed.spent below_quiet.steady in below_quiet.unarmed u.device u.was_armed
    stopped_never last count (inr (inl s)) = elim (cases_lt s.failed.name (length first.half.sets)) [
      | inl there ↦ let q = set_quiet s.failed.name there in never (set_at first.half.sets s.failed.name).bits.disk.armed (s.failed.failed.spent q.steady).was_armed q.unarmed
      | inr behind ↦ past_never s.failed.name last count behind s.failed.failed.rose
    ]
    stopped_never last count (inr (inr l)) = never first.half.land.disk.armed (l.failed.spent land_quiet.steady).was_armed land_quiet.unarmed

  pub sure : (sound : Type 0) (why : Why) (back : ReceiverParts) → LoadRefused sound p why back → why ≡ NoMemory
  sure sound why back (inl bad) = absurd (bad.bad.none m.finds.note note_is)
  sure sound why back (inr (inl unopened)) = elim unopened.refused [
    | inl sets ↦ elim sets.refused [
      | inl none ↦ none.cause
      | inr one ↦ sets_sure why back.sets one
    ]
    | inr land ↦ land_sure p.land back.land land.behind.cause why land.behind.told m.land m.fits (record { header = m.finds.header; is = m.finds.landed }) land.behind.refused
  ]
  sure sound why back (inr (inr (inl e))) = absurd (elsewhere_never e.first e.opens e.redone e.none)
  sure sound why back (inr (inr (inr (inl none)))) = none.answer
  sure sound why back (inr (inr (inr (inr s)))) = absurd (stopped_never s.first s.opens s.last s.stays.count s.failed)
