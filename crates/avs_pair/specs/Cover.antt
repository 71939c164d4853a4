-- Which segments are due: every one that differs, and in a session no one longer than it must be.
use Rattle.std.specs.Prelude.{◌≡◌, ◌⊎◌, ℕ, ◌/◌, ◌<◌, ◌≤◌, true, false, Some, slice_get}
use Rattle.std.specs.List.{Contains}
use Rattle.avs_seg.specs.Segment.{differ}
use Rattle.avs_model.specs.declared.entry.Entry.{Entry}
use Rattle.avs_mirrors.specs.Entries.{SameSize, block_in, touches}
use Rattle.avs_mirrors.specs.Due.{Due, has, is_zero}
use Rattle.avs_mirrors.specs.Half.{HalfState, is_sending}
use Rattle.avs_mirrors.specs.Pair.{PairState, on_both}
use Rattle.avs_mirrors.specs.Allowed.{IsLast}

-- a set of both halves: every segment in which their blocks differ is due in one of them, also where the blocks are no contents
pub record Covers (p : PairState) : Type 0 where
  pub each : (set seg : ℕ) → on_both p.source p.target set ≡ true → Contains (differ (p.source.images set) (p.target.images set)) seg
      → (has p.source.due set seg ≡ true) ⊎ (has p.target.due set seg ≡ true)

-- and so block by block: a set has as many blocks in both, and outside what is due of them the same ones
pub record SharesBlocks (p : PairState) : Type 0 where
  pub size : (set : ℕ) → on_both p.source p.target set ≡ true → SameSize p.source.images p.target.images set
  pub each : (set i : ℕ) → on_both p.source p.target set ≡ true → has p.source.due set (i / 64) ≡ false → has p.target.due set (i / 64) ≡ false
      → block_in p.source.images set i ≡ block_in p.target.images set i

-- no place frees a segment yet
pub record HasNoPlaces (due : Due) : Type 0 where
  pub each : (set seg place : ℕ) → due set seg ≡ Some place → place ≡ 0

-- while a half sends, a place that frees a segment is not known yet, and is the greatest that touches it; and a segment that is not
-- due is touched by no place that the other half, where it is of the same session, has still to apply. A half that does not send, so
-- the target always, has no places
pub record IsTight (p : PairState) : Type 0 where
  pub each : is_sending p.source ≡ true → (set seg place : ℕ) → p.source.due set seg ≡ Some place → 0 < place
      → IsLast p.session.order p.source.known set seg place
  pub applied : is_sending p.source ≡ true → p.source.number ≡ p.target.number → (j : ℕ) (e : Entry) (set seg : ℕ) → p.source.on set ≡ true
      → p.target.applied ≤ j → slice_get p.session.order j ≡ Some e → has p.source.due set seg ≡ false → touches e set seg ≡ false
  pub source_away : is_sending p.source ≡ false → HasNoPlaces p.source.due
  pub target_away : HasNoPlaces p.target.due

-- no segment waits to be copied
pub record NoneWaits (p : PairState) : Type 0 where
  pub each : (set seg : ℕ) → p.source.on set ≡ true → is_zero (p.source.due set seg) ≡ false

-- a place that frees a segment is the same in both
pub record KeepsPlaces (old new : HalfState) : Type 0 where
  pub each : (set seg place : ℕ) → old.due set seg ≡ Some place → 0 < place → new.due set seg ≡ Some place
