-- What a write to a master makes of it and of one set of it: the set's chunks are saved, and last the master is written.
use Rattle.std.specs.Prelude.{◌≡◌, ◌≢◌, ℕ, ◌+◌, ◌-◌, ◌/◌, ◌<◌, ◌^◌, min, List, length, Result, OnOk, OnErr}
use Rattle.avs_seg.specs.Image.{Image, blocks_of, put, IsMix}
use Rattle.avs_seg.specs.Segment.{first_segment}
use Rattle.avs_dev.specs.Seen.{Seen, IsTold}
use Rattle.avs_chunk.specs.States.{on_shadow, Splits, SplitsFirst}
use Rattle.avs_chunk.specs.Disks.{AreSameDisks, HasCauses}
use Rattle.avs_chunk.specs.ChunkSet.{ChunkSet, chunks_of, state_of, disk_state, shadow_image, IsKnown}
use Rattle.avs_chunk.specs.Calls.{Stays, disks_of, chunks_end}

-- no chunk stands on the shadow alone, by the memory
pub record IsSettledInMemory (s : ChunkSet) : Type 0 where
  pub none : (c : ℕ) → c < chunks_of s → state_of s c ≢ on_shadow

-- a write to the master that stopped: some chunks of its range were saved, from the first on, and only behind the last one the
-- range is written, each of its blocks or not
pub record StopsMaster (old : ChunkSet) (master : Image) (at : ℕ) (bs : Image) (new : ChunkSet) (master_new : Image) : Type 0 where
  pub saved : SplitsFirst (disk_state old) (disk_state new) (chunks_of old) (first_segment at) (chunks_end at (length bs))
  pub before : saved.upto < chunks_end at (length bs) → master_new ≡ master
  pub mix : IsMix master at bs master_new

pub record WritesMaster {T E : Type 0} (old : ChunkSet) (m : Seen) (at : ℕ) (bytes : List ℕ) (result : Result T E) (new : ChunkSet) (m_new : Seen) : Type 0 where
  pub stays : Stays old new
  pub disks : AreSameDisks (disks_of old m) (disks_of new m_new)
  pub causes : HasCauses (disks_of old m) result (disks_of new m_new)
  pub settled : IsSettledInMemory new
  pub done : IsTold m → OnOk result (m_new.image ≡ put m.image at (blocks_of bytes))
  pub failed : IsTold m → OnErr result (IsMix m.image at (blocks_of bytes) m_new.image)
  pub shadow : IsKnown old → IsTold m → shadow_image new m_new.image ≡ shadow_image old m.image
  pub split : IsKnown old → IsTold m → OnOk result (Splits (disk_state old) (disk_state new) (chunks_of old) (first_segment at) (chunks_end at (length bytes / 512)))
  pub known : IsKnown old → IsTold m → OnOk result (IsKnown new)
  pub stopped : IsKnown old → IsTold m → OnErr result (StopsMaster old m.image at (blocks_of bytes) new m_new.image)
  pub counted : OnOk result (m_new.written ≡ min (m.written + length bytes / 512) (2 ^ 64 - 1))
