-- What each call makes of two areas.
use Rattle.std.specs.Prelude.{◌≡◌, ◌⊎◌, ℕ, ◌+◌, ◌*◌, ◌==◌, Bool, ◌&&◌, true, not, IsTrue, if◌then◌else◌, Option, None, Some, Result, OnOk, OnErr, slice_set}
use Rattle.avs_seg.specs.Image.{Block, Image, block_at, ChangesWithin}
use Rattle.avs_seg.specs.Causes.{HasCause}
use Rattle.avs_dev.specs.Seen.{IsTold, Reads, Writes, with_tear}
use Rattle.avs_dev.specs.declared.disk.Tear.{Tear}
use Rattle.avs_flip.specs.Areas.{Areas, live, staged, live_from, staged_from}

-- one block of an area is set, and where that fails it is set or as it was
pub record SetsBlock {T E : Type 0} (old : Image) (at : ℕ) (block : Block) (result : Result T E) (new : Image) : Type 0 where
  pub done : OnOk result (new ≡ slice_set old at block)
  pub failed : OnErr result ((new ≡ old) ⊎ (new ≡ slice_set old at block))

-- a block is staged by one write, and the live area is kept
pub record Stages {T E : Type 0} (old : Areas) (at : ℕ) (block : Block) (result : Result T E) (new : Areas) : Type 0 where
  pub place : new ≡ record old { disk = new.disk }
  pub len : new.len ≡ old.len
  pub told : IsTold old.disk → IsTold new.disk
  pub cause : HasCause old.disk.faults new.disk.faults result
  pub writes : Writes old.disk (staged_from old + at) block result new.disk
  pub kept : IsTold old.disk → live new ≡ live old
  pub sets : IsTold old.disk → SetsBlock (staged old) at block result (staged new)
  pub within : IsTold old.disk → ChangesWithin old.first (2 * old.len) old.disk.image new.disk.image

-- a block of the live area is written by one write, and the other area is kept
pub record PutsLive {T E : Type 0} (old : Areas) (at : ℕ) (block : Block) (result : Result T E) (new : Areas) : Type 0 where
  pub place : new ≡ record old { disk = new.disk }
  pub len : new.len ≡ old.len
  pub told : IsTold old.disk → IsTold new.disk
  pub cause : HasCause old.disk.faults new.disk.faults result
  pub writes : Writes old.disk (live_from old + at) block result new.disk
  pub kept : IsTold old.disk → staged new ≡ staged old
  pub sets : IsTold old.disk → SetsBlock (live old) at block result (live new)
  pub within : IsTold old.disk → ChangesWithin old.first (2 * old.len) old.disk.image new.disk.image

-- a block of the live area is read by one read, and both areas are kept
pub record ReadsLive {T E : Type 0} (old : Areas) (at : ℕ) (out : Block) (result : Result T E) (new : Areas) : Type 0 where
  pub place : new ≡ record old { disk = new.disk }
  pub len : new.len ≡ old.len
  pub told : IsTold old.disk → IsTold new.disk
  pub cause : HasCause old.disk.faults new.disk.faults result
  pub reads : Reads old.disk (live_from old + at) out result new.disk
  pub shows : IsTold old.disk → OnOk result (out ≡ block_at (live old) at)
  pub live_kept : live new ≡ live old
  pub staged_kept : staged new ≡ staged old

-- the areas change places, and nothing else does
pub record Turns (old new : Areas) : Type 0 where
  pub place : new ≡ record old { live_b = not old.live_b }
  pub len : new.len ≡ old.len
  pub now_live : live new ≡ staged old
  pub now_staged : staged new ≡ live old

-- exactly this tear is armed, exactly on the disk with number 0, and where it lets one be armed; where none is, nothing
-- changes
pub record ArmsDisk (old : Areas) (disk : ℕ) (tear : Tear) (result : Bool) (new : Areas) : Type 0 where
  pub answer : result ≡ ((disk == 0) && old.disk.arms)
  pub armed : IsTrue result → new ≡ record old { disk = with_tear tear old.disk }
  pub unarmed : IsTrue (not result) → new ≡ old
  pub len : new.len ≡ old.len
  pub sure : disk ≡ 0 → IsTrue old.disk.steady → IsTrue result

-- the blocks written on a disk, whose number is 0
abbrev pub written_of : Areas → ℕ → Option ℕ
written_of a disk = if disk == 0 then Some a.disk.written else None
