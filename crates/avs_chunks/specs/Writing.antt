-- Writes to the shadow: the chunks of a range are saved, one after another, and then it is written on the shadow's disk.
use Rattle.std.specs.Prelude.{◌≡◌, ℕ, ◌+◌, ◌-◌, ◌/◌, ◌<◌, List, length, Result, OnOk, OnErr}
use Rattle.avs_seg.specs.Image.{Image, put, blocks_of, IsMix}
use Rattle.avs_seg.specs.Segment.{first_segment, seg_count, touch_count}
use Rattle.avs_dev.specs.Seen.{Seen, IsTold}
use Rattle.avs_dev.specs.Devices.{AllGoOn}
use Rattle.avs_chunks.specs.States.{Splits, SplitsFirst}
use Rattle.avs_chunks.specs.ChunkSet.{ChunkSet, disk_of, state_of, disk_state, chunks_of, shadow_image, master_image, IsAlike, IsKnown}
use Rattle.avs_chunks.specs.Disks.{disk_at, range_work, write_work, Adds}
use Rattle.avs_chunks.specs.Calls.{IsSameShape, KeepsBitmap, KeepsBehind, KeepsSet}

-- the chunks from `first` up to `end` are saved, and where that fails some of them, from the first on
pub record SavesRange {T E : Type 0} (old : ChunkSet) (m : Seen) (first end : ℕ) (result : Result T E) (new : ChunkSet) (m_new : Seen) : Type 0 where
  pub keeps : KeepsSet old m result new m_new
  pub done : IsKnown old → OnOk result (Splits (disk_state old) (disk_state new) (chunks_of old) first end)
  pub stopped : IsKnown old → OnErr result (SplitsFirst (disk_state old) (disk_state new) (chunks_of old) first end)
  pub known : IsKnown old → OnOk result (IsKnown new)
  pub memory : OnOk result (Splits (state_of old) (state_of new) (chunks_of old) first end)
  pub some : OnErr result (SplitsFirst (state_of old) (state_of new) (chunks_of old) first end)
  pub adds : Adds (disk_at old m) (range_work old first (end - first)) result (disk_at new m_new)

-- the end of the chunks that a range touches
abbrev pub chunks_end : ℕ → ℕ → ℕ
chunks_end at len = seg_count (at + len)

-- the master's image stays, and what is the same on both disks stays so
pub record KeepsMaster (old : ChunkSet) (m : Image) (new : ChunkSet) (m_new : Image) : Type 0 where
  pub image : master_image new m_new ≡ master_image old m
  pub alike : IsAlike old m → IsAlike new m_new

-- what a write to the shadow leaves: the blocks put into its image, and the chunks of the range split
pub record WritesAll (old : ChunkSet) (m : Image) (at : ℕ) (bs : Image) (new : ChunkSet) (m_new : Image) : Type 0 where
  pub image : shadow_image new m_new ≡ put (shadow_image old m) at bs
  pub split : Splits (disk_state old) (disk_state new) (chunks_of old) (first_segment at) (chunks_end at (length bs))
  pub known : IsKnown new

-- What one leaves that stopped: some chunks of the range are split, from the first on, and of its blocks each is old or new.
pub record StopsWrite (old : ChunkSet) (m : Image) (at : ℕ) (bs : Image) (new : ChunkSet) (m_new : Image) : Type 0 where
  pub saved : SplitsFirst (disk_state old) (disk_state new) (chunks_of old) (first_segment at) (chunks_end at (length bs))
  pub before : saved.upto < chunks_end at (length bs) → shadow_image new m_new ≡ shadow_image old m
  pub mix : IsMix (shadow_image old m) at bs (shadow_image new m_new)

-- the chunks of a range are saved, and last the range is written on the shadow's disk
pub record WritesShadow {T E : Type 0} (old : ChunkSet) (m : Seen) (at : ℕ) (bytes : List ℕ) (result : Result T E) (new : ChunkSet) (m_new : Seen) : Type 0 where
  pub shape : IsSameShape old new
  pub goes : AllGoOn (disk_at old m) result (disk_at new m_new)
  pub bitmap : IsTold old.areas.disk → KeepsBitmap old new
  pub behind : IsTold (disk_of old.shadow) → KeepsBehind old new
  pub master : IsKnown old → IsTold m → KeepsMaster old m.image new m_new.image
  pub done : IsKnown old → IsTold m → OnOk result (WritesAll old m.image at (blocks_of bytes) new m_new.image)
  pub stopped : IsKnown old → IsTold m → OnErr result (StopsWrite old m.image at (blocks_of bytes) new m_new.image)
  pub adds : Adds (disk_at old m) (write_work old (first_segment at) (touch_count at (length bytes / 512)) (length bytes / 512)) result (disk_at new m_new)
