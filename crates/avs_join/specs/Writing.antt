-- Reads and writes of an import, and what a write leaves that stops.
use Rattle.std.specs.Prelude.{◌≡◌, ◌⊎◌, ℕ, ◌+◌, ◌/◌, true, List, length, Result, OnOk, OnErr}
use Rattle.avs_seg.specs.Image.{Image, blocks_of, IsMix}
use Rattle.avs_seg.specs.Segment.{touch, first_segment, touch_count}
use Rattle.avs_dev.specs.Seen.{Seen, IsTold, Reads}
use Rattle.avs_dev.specs.Devices.{AllGoOn, Adds}
use Rattle.avs_bits.specs.Bit.{due_count}
use Rattle.avs_bits.specs.BitSet.{set_of, IsInStep, IsZeroBehind}
use Rattle.avs_model.specs.ShadowSets.{chunks_among}
use Rattle.avs_model.specs.HostStages.{ArePartly}
use Rattle.avs_join.specs.Imported.{ImportDisks, ImportState, import_of, IsReadable, IsKnown, marked, written, Covers}

-- the two disks of an import
pub data ImportDisk : Type 0 where
  Volume : ImportDisk
  Bitmap : ImportDisk

abbrev pub disk_at : ImportDisks → ImportDisk → Seen
disk_at i Volume = i.volume
disk_at i Bitmap = i.bits.disk

-- a read is one of the volume's disk, and nothing else changes
pub record ReadsImport {T E : Type 0} (old : ImportDisks) (at : ℕ) (out : List ℕ) (result : Result T E) (new : ImportDisks) : Type 0 where
  pub rest : new ≡ record old { volume = new.volume }
  pub reads : Reads old.volume at out result new.volume

-- a write stopped before its blocks: some of its segments are marked, in any part
pub record MarksInPart (old : ImportState) (at : ℕ) (blocks : Image) (new : ImportState) : Type 0 where
  pub image : new.image ≡ old.image
  pub stamp : new.stamp ≡ old.stamp
  pub segments : ArePartly old.segments (chunks_among (touch at (length blocks))) new.segments

-- it stopped in its blocks: all of its segments are marked, and each of its blocks is old or new
pub record PutsInPart (old : ImportState) (at : ℕ) (blocks : Image) (new : ImportState) : Type 0 where
  pub image : IsMix old.image at blocks new.image
  pub stamp : new.stamp ≡ old.stamp
  pub segments : new.segments ≡ marked old at blocks

abbrev pub StopsWrite : ImportState → ℕ → Image → ImportState → Type 0
StopsWrite old at blocks new = MarksInPart old at blocks new ⊎ PutsInPart old at blocks new

-- what a write keeps of an import whatever it answers, in step or not: it is found again, and the bits of its last block behind
-- the last segment stay zeros
pub record KeepsImport (old new : ImportDisks) : Type 0 where
  pub size : new.volume.size ≡ old.volume.size
  pub segs : new.bits.segs ≡ old.bits.segs
  pub stamp : new.bits.stamp ≡ old.bits.stamp
  pub readable : IsReadable old → IsReadable new
  pub zeros : IsTold old.bits.disk → IsInStep old.bits → IsZeroBehind old.bits.disk.image old.bits.segs
      → IsZeroBehind new.bits.disk.image old.bits.segs

-- the blocks that a write of so many writes: on the bitmap's disk those in which a segment of the write is not marked yet
abbrev pub write_work : ImportDisks → ℕ → ℕ → ImportDisk → ℕ
write_work i at len Volume = len
write_work i at len Bitmap = due_count (set_of i.bits) (first_segment at) (first_segment at + touch_count at len) true

-- A write marks its segments, and then its blocks are written. Where it stops the disks stand for the import as `StopsWrite` says.
-- Whatever it answers, the segments in which the volume came to differ from some image are marked, if they were before.
pub record WritesImport {T E : Type 0} (old : ImportDisks) (at : ℕ) (bytes : List ℕ) (result : Result T E) (new : ImportDisks) : Type 0 where
  pub goes : AllGoOn (disk_at old) result (disk_at new)
  pub keeps : KeepsImport old new
  pub done : IsTold old.volume → IsKnown old → OnOk result (import_of new ≡ written (import_of old) at (blocks_of bytes))
  pub stopped : IsTold old.volume → IsKnown old → OnErr result (StopsWrite (import_of old) at (blocks_of bytes) (import_of new))
  pub known : IsKnown old → OnOk result (IsKnown new)
  pub covers : IsTold old.volume → IsKnown old → (base : Image) → Covers base (import_of old) → Covers base (import_of new)
  pub adds : Adds (disk_at old) (write_work old at (length bytes / 512)) result (disk_at new)
