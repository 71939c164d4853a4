-- A receiver is found on its parts, or they are handed back.
use Rattle.std.proofs.Common.{◌≡◌, inl, inr, ℕ, ◌<◌, List, length, map, get_or, Some, ◌∙◌, sym, refl, ap, subst, arith}
use Rattle.std.specs.List.{All}
use Rattle.std.proofs.lemmas.List.{get_or_past}
use Rattle.std.proofs.lemmas.List.Elements.{All-from_get_or}
use Rattle.std.proofs.lemmas.Bool.{cases_lt}
use Rattle.avs_dev.specs.Seen.{IsTold}
use Rattle.avs_dev.specs.Below.{BelowSeen, IsToldAt}
use Rattle.avs_dev.specs.declared.back.Why.{Why}
use Rattle.avs_bits.specs.BitSet.{IsInStep}
use Rattle.avs_code.specs.declared.land_headers.LandHeader.{LandHeader}
use Rattle.avs_mirrors.specs.Half.{HalfState}
use Rattle.avs_sync.specs.Note.{IsNote}
use Rattle.avs_sync.specs.Parts.{MirrorSet}
use Rattle.avs_sync.specs.declared.note.Note.{Note}
use Rattle.avs_sync.proofs.Notes.{note_at-is}
use Rattle.avs_halves.specs.SetBits.{SetBits, disk_at, no_part, no_set, part_of, set_at}
use Rattle.avs_halves.specs.Found.{stored_bytes}
use Rattle.avs_halves.specs.Loading.{HasVolume, IsOpenable, LoadsSets}
use Rattle.avs_halves.specs.Over.{AreLoadable}
use Rattle.avs_halves.proofs.Lying.{loaded_count, loaded_part, loaded_set}
use Rattle.avs_land.specs.Landing.{LoadsLanding}
use Rattle.avs_receiver.specs.Held.{ReceiverHeld, ReceiverParts, held, parts_of}
use Rattle.avs_receiver.specs.Meaning.{Finds, IsLandedFor, IsReceiverFound, vols_of}
use Rattle.avs_receiver.specs.CatchingUp.{HasSettled}
use Rattle.avs_receiver.specs.Loading.{AreToldParts, LeavesFound, LoadRefused, Loads, OpensReceiver, half_opened}
use Rattle.avs_receiver.proofs.Meanings.{part_vols, stored_is}
use Rattle.avs_receiver.proofs.Redone.{found_is}

-- the sets of a half that can be loaded have volumes
pub all_there : (below : BelowSeen) (parts : List MirrorSet) → AreLoadable below parts → All (HasVolume below.sizes) parts
all_there below parts loadable = All-from_get_or (HasVolume below.sizes) parts no_part (λ set there. (loadable.own set there).there)

-- each of the sets that were found can be
pub all_openable : (below : BelowSeen) (parts : List MirrorSet) (sets : List SetBits) → LoadsSets below.sizes parts sets → All (IsOpenable below.sizes) parts
all_openable below parts sets found = All-from_get_or (IsOpenable below.sizes) parts no_part (λ set there.
    subst (λ (m : MirrorSet). IsOpenable below.sizes m) (sym (loaded_part below parts sets found set))
    (loaded_set below parts sets found set (omega (arith, there, loaded_count below parts sets found))).openable)

-- a receiver that is made of what was found
pub opens_is : (p q : ReceiverParts) → q ≡ p → (sets : List SetBits) (n : Note) (first : ReceiverHeld) → first.below ≡ p.below → first.half ≡ half_opened q sets n first.half.land → IsNote p.below.note n
    → LoadsSets p.below.sizes p.sets sets → LoadsLanding q.land first.half.land → OpensReceiver p first
opens_is p q same sets n first below half is found landing = subst (λ (f : ReceiverHeld). OpensReceiver p f) (sym path) (record {
  parts_are = λ i. record p { sets = found.as_found i; land = (landing.kept ∙ ap (λ (z : ReceiverParts). z.land) same) i };
  note = is;
  sets = found;
  landing = subst (λ (z : ReceiverParts). LoadsLanding z.land first.half.land) same landing;
  place = refl;
})
  where
    path : first ≡ held p.below (half_opened p sets n first.half.land)
    path = λ i. held (below i) ((half ∙ ap (λ (z : ReceiverParts). half_opened z sets n first.half.land) same) i)

-- ---- what was found is in memory

-- what has landed is for its note, as it is found
pub fits_same : (h : ReceiverHeld) → OpensReceiver (parts_of h) h → h.below.stored ≡ Some h.below.note → IsTold h.half.land.disk → (x : HalfState) → Finds (parts_of h) x → IsLandedFor h.half.note h.half.land.header (vols_of h.half.sets) h.below
fits_same h o stored told x f =
    subst (λ (n : Note). IsLandedFor n h.half.land.header (vols_of h.half.sets) h.below) note_same
    (subst (λ (l : LandHeader). IsLandedFor f.note l (vols_of h.half.sets) h.below) (sym (o.landing.only told f.header f.landed))
    (subst (λ (v : List ℕ). IsLandedFor f.note f.header v h.below) (part_vols h.half.sets) f.fits))
  where
    note_same : f.note ≡ h.half.note
    note_same = sym (note_at-is (stored_bytes h.below) f.note f.noted) ∙ note_at-is (stored_bytes h.below) h.half.note (stored_is h.below h.below.note h.half.note stored o.note)

module _ (sound : Type 0) (h : ReceiverHeld) (o : OpensReceiver (parts_of h) h) (told : AreToldParts sound (parts_of h)) where
  part_found : (set : ℕ) → get_or (map part_of h.half.sets) set no_part ≡ part_of (set_at h.half.sets set)
  part_found set = loaded_part h.below (map part_of h.half.sets) h.half.sets o.sets set

  told_at : (set : ℕ) → IsTold (disk_at h.half.sets set)
  told_at set = subst (λ (m : MirrorSet). IsTold m.bits) (part_found set) (told.bits set)

  step_at : (set : ℕ) → IsInStep (set_at h.half.sets set).bits
  step_at set = elim (cases_lt set (length h.half.sets)) [
    | inl there ↦ (loaded_set h.below (map part_of h.half.sets) h.half.sets o.sets set there).step (told_at set)
    | inr behind ↦ subst (λ (s : SetBits). IsInStep s.bits) (sym (get_or_past h.half.sets set no_set behind)) (record { each = λ s low. absurd (none s low) })
  ]
    where
      none : (s : ℕ) → s < 0 → ⊥
      none s low = omega arith

  pub found_first : (x : HalfState) → Finds (parts_of h) x → IsReceiverFound sound h
  found_first x f = record {
    sound = told.sound;
    stored = told.stored;
    note = o.note;
    volumes = λ set there. subst (λ (m : MirrorSet). IsToldAt h.below m.vol) (part_found set) (told.volumes set (omega (arith, there, loaded_count h.below (map part_of h.half.sets) h.half.sets o.sets)));
    bits = record { told = told_at; step = step_at };
    landing = record { told = told.land; step = o.landing.step told.land; fits = fits_same h o told.stored told.land x f; place = o.place };
  }

-- ---- a load

module _ (sound : Type 0) (p : ReceiverParts) (first : ReceiverHeld) (o : OpensReceiver p first) where
  opens : OpensReceiver (parts_of first) first
  opens = subst (λ (q : ReceiverParts). OpensReceiver q first) (sym o.parts_are) o

  told_first : AreToldParts sound p → AreToldParts sound (parts_of first)
  told_first told = subst (λ (q : ReceiverParts). AreToldParts sound q) (sym o.parts_are) told

  finds_first : (x : HalfState) → Finds p x → Finds (parts_of first) x
  finds_first x f = subst (λ (q : ReceiverParts). Finds q x) (sym o.parts_are) f

  found_then : AreToldParts sound p → (x : HalfState) → Finds p x → IsReceiverFound sound first
  found_then told x f = found_first sound first opens (told_first told) x (finds_first x f)

  pub loads : (last : Type 0) (new : ReceiverHeld) → HasSettled sound last first new → Loads sound last p new
  loads last new s = record {
    first = first;
    opens = o;
    room = s.room;
    stays = s.stays;
    spared = s.spared;
    session = s.session;
    means = λ told x f. s.done (found_then told x f) x.kept ∙ found_is sound first (found_then told x f) x (finds_first x f);
    step = λ told x f. s.step (found_then told x f);
  }

  pub load_refused : (why : Why) (back : ReceiverParts) → LeavesFound sound first why back → LoadRefused sound p why back
  load_refused why back l = elim l.refused [
    | inl none ↦ inr (inr (inr (inl (record { answer = none.answer; kept = sym l.left ∙ ap parts_of none.kept ∙ o.parts_are }))))
    | inr (inl elsewhere) ↦ inr (inr (inl (record {
      first = first;
      opens = o;
      answer = elsewhere.answer;
      redone = elsewhere.redone;
      none = elsewhere.none;
      kept = sym l.left ∙ ap parts_of elsewhere.kept ∙ o.parts_are;
    })))
    | inr (inr stopped) ↦ inr (inr (inr (inr (record {
      first = first;
      last = l.last;
      opens = o;
      answer = stopped.answer;
      stays = stopped.stays;
      failed = stopped.failed;
      left = l.left;
      again = λ told x f. subst (λ (q : ReceiverParts). Finds q x) l.left (stopped.stopped (found_then told x f) x (finds_first x f));
    }))))
  ]
