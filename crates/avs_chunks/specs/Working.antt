-- The stages of a group write what is written here: of one of its sets, chunk by chunk.
use Rattle.std.specs.Prelude.{◌≡◌, ℕ, ◌<◌, ◌==◌, not, ◌&&◌, None}
use Rattle.avs_model.specs.ShadowSets.{ShadowState, Online, is_independent}
use Rattle.avs_model.specs.GroupWork.{GroupSpot, VolumeDisk, ShadowDisk, BitmapDisk}
use Rattle.avs_chunks.specs.States.{on_master, split, on_shadow}
use Rattle.avs_chunks.specs.ChunkSet.{ChunkSet, chunks_of, state_of}
use Rattle.avs_chunks.specs.Disks.{ChunkDisk, Master, Shadow, Bitmap}

-- the lists that a chunk of a set is in, by its state
pub record IsListed (set : ShadowState) (c state : ℕ) : Type 0 where
  pub left : set.lists.left c ≡ (is_independent set.kind && state == on_master)
  pub back : set.lists.back c ≡ (state == on_shadow)
  pub moved : set.lists.moved c ≡ (state == split)
  pub touched : set.lists.touched c ≡ (not (is_independent set.kind) && not (state == on_master))

-- a set of a group that is online and has no overflow volume, and its chunks by the states in memory
pub record StandsFor (s : ChunkSet) (set : ShadowState) : Type 0 where
  pub kind : set.kind ≡ s.kind
  pub blocks : set.size.blocks ≡ s.blocks
  pub online : set.standing ≡ Online
  pub over : set.over ≡ None
  pub lists : (c : ℕ) → c < chunks_of s → IsListed set c (state_of s c)

-- the disks of a group that are those of a set and its master
abbrev pub spot_of : ShadowState → ChunkDisk → GroupSpot
spot_of set Master = VolumeDisk set.master
spot_of set Shadow = ShadowDisk set.slot
spot_of set Bitmap = BitmapDisk set.slot
