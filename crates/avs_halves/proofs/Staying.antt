-- What calls leave of what lies below and of the sets of a half.
use Rattle.std.proofs.Common.{◌≡◌, ℕ, ◌<◌, ◌≤◌, ◌^◌, Bool, true, IsTrue, List, [], length, get_or, Result, Option, Some, is_some, sym, refl, ◌∙◌, ap, subst, arith}
use Rattle.avs_seg.specs.Image.{Image}
use Rattle.avs_seg.specs.Segment.{seg_count}
use Rattle.avs_dev.specs.Devices.{NoneFell}
use Rattle.avs_dev.specs.Below.{BelowSeen, IsNoteTold, SetsNote, WritesBelow}
use Rattle.avs_dev.proofs.Going.{lasts_same}
use Rattle.avs_mirrors.specs.Due.{Keys}
use Rattle.avs_mirrors.specs.Half.{HalfRole, Lone, Sender, Receiver, Logging}
use Rattle.avs_sync.specs.Note.{may_be}
use Rattle.avs_halves.specs.SetBits.{SetBits, set_at}
use Rattle.avs_halves.specs.Changing.{ChangesSets}
use Rattle.avs_halves.specs.Going.{BelowStays, SetStays}
use Rattle.avs_halves.specs.Over.{IsOver}

-- ---- what lies below

pub none_fell : (faults : List ℕ) → NoneFell faults faults
none_fell faults = record { same_length = refl; each = λ i. omega arith }

pub below_same : (sound : Type 0) (below : BelowSeen) → BelowStays sound below below
below_same sound below = record { sizes = refl; steady = refl; told = λ s vol told. told; noted = λ told. told; faults = none_fell below.faults }

pub below_noted : {T E : Type 0} (sound : Type 0) (old new : BelowSeen) (bytes : List ℕ) (result : Result T E) → SetsNote sound old bytes result new → BelowStays sound old new
below_noted sound old new bytes result w = record {
  sizes = w.sizes;
  steady = w.steady;
  told = λ s vol told. subst (λ (images : List Image). length (get_or images vol []) ≡ get_or new.sizes vol 0) (sym (w.images s)) (subst (λ (sizes : List ℕ). length (get_or old.images vol []) ≡ get_or sizes vol 0) (sym w.sizes) told);
  noted = w.told;
  faults = w.cause.later;
}

pub below_written : {T E : Type 0} (sound : Type 0) (old new : BelowSeen) (vol at : ℕ) (bytes : List ℕ) (r : Result T E) → WritesBelow sound old vol at bytes r new → BelowStays sound old new
below_written sound old new vol at bytes r w = record {
  sizes = w.sizes;
  steady = w.steady;
  told = λ s any. w.told any;
  noted = λ told. subst (λ (o : Option (List ℕ)). IsTrue (is_some o)) (sym w.stored) told;
  faults = w.cause.later;
}

-- a note that is on its disk is told
pub told_note : (below : BelowSeen) (bytes : List ℕ) → below.stored ≡ Some bytes → IsNoteTold below
told_note below bytes stored = rw stored refl

-- a half of any role may be in logging
pub may_leave : (r : HalfRole) → may_be r Logging ≡ true
may_leave Lone = refl
may_leave Sender = refl
may_leave Receiver = refl

-- ---- the sets

pub set_same : (s : SetBits) → SetStays s s
set_same s = record { vol = refl; slot = refl; segs = refl; disk = lasts_same s.bits.disk }

pub sets_stay : {T E : Type 0} (keys : Keys) (on : Bool) (old new : List SetBits) (r : Result T E) → ChangesSets keys on old r new → (set : ℕ) → SetStays (set_at old set) (set_at new set)
sets_stay keys on old new r c set = let p = c.part set in record {
  vol = ap (λ (s : SetBits). s.vol) p.rest;
  slot = ap (λ (s : SetBits). s.slot) p.rest;
  segs = ap (λ (s : SetBits). s.bits.segs) p.rest;
  disk = p.lasts;
}

-- they lie over the same volumes
pub over_changed : (below new : BelowSeen) (old sets : List SetBits) → new.sizes ≡ below.sizes → length sets ≡ length old → ((set : ℕ) → SetStays (set_at old set) (set_at sets set)) → IsOver below old → IsOver new sets
over_changed below new old sets sizes count stays over = record {
  few = subst (λ (n : ℕ). n ≤ 16) (sym count) over.few;
  each = λ set low.
      let v = over.each set (omega (arith, low, count)) in
      let s = stays set in
      record {
        there = subst (λ (vol : ℕ). vol < length new.sizes) (sym s.vol) (rw sizes v.there);
        small = subst (λ (vol : ℕ). get_or new.sizes vol 0 ≤ 2 ^ 31) (sym s.vol) (rw sizes v.small);
        segs = s.segs ∙ v.segs ∙ ap (λ (l : List ℕ). seg_count (get_or l (set_at old set).vol 0)) (sym sizes) ∙ ap (λ (vol : ℕ). seg_count (get_or new.sizes vol 0)) (sym s.vol);
        slot = subst (λ (slot : ℕ). slot < 16) (sym s.slot) v.slot;
      };
  apart = λ set other low there same. over.apart set other (omega (arith, low, count)) (omega (arith, there, count)) (sym (stays other).vol ∙ same ∙ (stays set).vol);
  slots = λ set other low there same. over.slots set other (omega (arith, low, count)) (omega (arith, there, count)) (sym (stays other).slot ∙ same ∙ (stays set).slot);
}

pub over_sizes : (below new : BelowSeen) (sets : List SetBits) → new.sizes ≡ below.sizes → IsOver below sets → IsOver new sets
over_sizes below new sets sizes over = over_changed below new sets sets sizes refl (λ set. set_same (set_at sets set)) over
