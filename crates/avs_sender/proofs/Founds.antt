-- What is found of a half whose bits were changed, done or stopped.
use Rattle.std.proofs.Common.{◌≡◌, ◌⊎◌, inl, inr, ℕ, Bool, true, false, ◌&&◌, not, cond, [], length, map, get_or, Result, None, Some, ◌∙◌, sym, refl, ap, subst}
use Rattle.std.specs.Prelude.{nat_lt}
use Rattle.std.proofs.lemmas.Bool.{cases_Bool}
use Rattle.avs_dev.specs.Below.{BelowSeen}
use Rattle.avs_bits.specs.Bit.{IsPart}
use Rattle.avs_bits.specs.BitSet.{set_of, HoldsPart, IsOnDisk}
use Rattle.avs_mirrors.specs.Due.{Due, Keys, zero_of}
use Rattle.avs_mirrors.specs.Entries.{Images}
use Rattle.avs_mirrors.specs.Half.{Logging, no_sets}
use Rattle.avs_sync.specs.declared.note.Note.{Note}
use Rattle.avs_sync.specs.Parts.{MirrorSet}
use Rattle.avs_halves.specs.SetBits.{SetBits, AreInStep, set_at, disk_at, part_of, no_part}
use Rattle.avs_halves.specs.Changing.{ChangesSets}
use Rattle.avs_sender.specs.Held.{SenderHalf, held, parts_of}
use Rattle.avs_halves.specs.Over.{IsOver}
use Rattle.avs_halves.specs.Found.{bit_found, due_found, is_filled}
use Rattle.avs_halves.proofs.Lying.{found_held, part_is, there_is}
use Rattle.avs_sender.specs.Meaning.{found_by, found_of, images_found, segs_of, sender_of}

-- ---- one segment: whether it is there, had a bit, and has one on the disk

-- the bits that a change to false took
pub gone_one : (low was now : Bool) (k : ℕ) → (now ≡ was) ⊎ (now ≡ false) → cond (low && now) (Some 0) None ≡ zero_of (cond ((low && was) && not now) None (cond (low && was) (Some k) None))
gone_one true true true k which = refl
gone_one true true false k which = refl
gone_one true false true k (inl is) = absurd (no is)
  where
    no : true ≡ false → ⊥
    no is = cc
gone_one true false true k (inr is) = absurd (no is)
  where
    no : true ≡ false → ⊥
    no is = cc
gone_one true false false k which = refl
gone_one false was now k which = refl

pub gone_key : (low was now key : Bool) → ((low && was) && not now) ≡ true → (key ≡ false → now ≡ was) → ((low && was) ≡ true) × (key ≡ true)
gone_key true true false true gone others = (refl, refl)
gone_key true true false false gone others = absurd (no (others refl))
  where
    no : false ≡ true → ⊥
    no is = cc
gone_key true true true key gone others = absurd (no gone)
  where
    no : false ≡ true → ⊥
    no is = cc
gone_key true false now key gone others = absurd (no gone)
  where
    no : false ≡ true → ⊥
    no is = cc
gone_key false was now key gone others = absurd (no gone)
  where
    no : false ≡ true → ⊥
    no is = cc

-- one of them is either, whether it may have changed or not
part_at_one : (keys : ℕ → Bool) (on : Bool) (old new : ℕ → Bool) → IsPart keys on old new → (s : ℕ) → (new s ≡ old s) ⊎ (new s ≡ on)
part_at_one keys on old new p s = elim (cases_Bool (keys s)) [ inl in' ↦ p.inside s in' | inr out ↦ inl (p.outside s out) ]

-- ---- a half

module _ {T E : Type 0} (below new : BelowSeen) (h g : SenderHalf) (keys : Keys) (on : Bool) (r : Result T E) (c : ChangesSets keys on h.sets r g.sets) where
  -- whatever is due and lies below
  pub found_then : (n : Note) → n.session ≡ h.session.number → n.role ≡ h.note.role → n.empty ≡ h.note.empty → (images : Images) (due : Due) → images_found (parts_of (held new g)) ≡ images → due_found new (map part_of g.sets) ≡ due
      → found_by n (parts_of (held new g)) ≡ record (found_of (sender_of (held below h))) { images = images; due = due }
  found_then n number role empty images due images_are due_is = λ i. record {
    on = λ set. there set i;
    here = λ set. there set i;
    contents = λ set. there set i && is_filled (empty i) (slot set i);
    images = images_are i;
    number = number i;
    role = role i;
    state = Logging;
    last = 0;
    known = 0;
    taken = 0;
    applied = 0;
    due = due_is i;
    held = [];
    kept = no_sets;
  }
    where
      there : (set : ℕ) → nat_lt set (length (map part_of g.sets)) ≡ nat_lt set (length h.sets)
      there set = there_is g.sets set ∙ ap (λ (n : ℕ). nat_lt set n) c.count

      slot : (set : ℕ) → (get_or (map part_of g.sets) set no_part).slot ≡ (set_at h.sets set).slot
      slot set = ap (λ (p : MirrorSet). p.slot) (part_is g.sets set) ∙ ap (λ (s : SetBits). s.slot) (c.part set).rest

  -- the images, where those below are the same
  pub images_same : new.images ≡ below.images → images_found (parts_of (held new g)) ≡ (sender_of (held below h)).images
  images_same same = λ i. λ set. cond ((there_is g.sets set ∙ ap (λ (n : ℕ). nat_lt set n) c.count) i) (get_or (same i) (vol set i) []) []
    where
      vol : (set : ℕ) → (get_or (map part_of g.sets) set no_part).vol ≡ (set_at h.sets set).vol
      vol set = ap (λ (p : MirrorSet). p.vol) (part_is g.sets set) ∙ ap (λ (s : SetBits). s.vol) (c.part set).rest

  module _ (step : AreInStep h.sets) (over : IsOver new g.sets) where
    -- what the disk of each set holds
    pub on_disk : (set : ℕ) → HoldsPart (keys set) on (set_of (set_at h.sets set).bits) (disk_at g.sets set).image (set_at h.sets set).bits.segs
    on_disk set = (c.part set).disk (step.told set) (step.step set)

    abbrev pub bits : ℕ → ℕ → Bool
    bits set = (on_disk set).set

    segs_same : (set : ℕ) → segs_of g set ≡ segs_of h set
    segs_same set = ap (λ (s : SetBits). s.bits.segs) (c.part set).rest

    pub bit_is : (set seg : ℕ) → bit_found new (map part_of g.sets) set seg ≡ (nat_lt seg (segs_of h set) && bits set seg)
    bit_is set seg = found_held new g.sets (λ t s. (on_disk t).set s) (λ t. subst (λ (n : ℕ). IsOnDisk (disk_at g.sets t).image n (on_disk t).set) (sym (segs_same t)) (on_disk t).held) over set seg
        ∙ ap (λ (n : ℕ). nat_lt seg n && (on_disk set).set seg) (segs_same set)

    pub either : (set seg : ℕ) → (bits set seg ≡ set_of (set_at h.sets set).bits seg) ⊎ (bits set seg ≡ on)
    either set seg = part_at_one (keys set) on (set_of (set_at h.sets set).bits) ((on_disk set).set) (on_disk set).part seg

    pub others : (set seg : ℕ) → keys set seg ≡ false → bits set seg ≡ set_of (set_at h.sets set).bits seg
    others set seg out = (on_disk set).part.outside seg out
