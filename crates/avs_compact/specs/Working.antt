-- The stages of a group name what is written here: of one of its compact sets, chunk by chunk.
use Rattle.std.specs.Prelude.{◌≡◌, ℕ, ◌<◌, ◌==◌, not, false, Option, Some}
use Rattle.std.specs.Option.{option_map}
use Rattle.avs_model.specs.declared.shadow.Kind.TheVariants.{Compact}
use Rattle.avs_model.specs.ShadowSets.{ShadowState}
use Rattle.avs_model.specs.GroupWork.{GroupSpot, VolumeDisk, ShadowDisk, BitmapDisk, OverDisk}
use Rattle.avs_entries.specs.Entries.{on_master, split, on_shadow, state_by}
use Rattle.avs_compact.specs.CompactSet.{CompactSet, chunks_of, entry_of}
use Rattle.avs_compact.specs.Disks.{CompactDisk, Master, Shadow, Bitmap, Over}

-- the lists that a chunk of a set is in, by its state
pub record IsListed (set : ShadowState) (c state : ℕ) : Type 0 where
  pub left : set.lists.left c ≡ false
  pub back : set.lists.back c ≡ (state == on_shadow)
  pub moved : set.lists.moved c ≡ (state == split)
  pub touched : set.lists.touched c ≡ not (state == on_master)

-- a compact set of a group, and its chunks by the entries in memory
pub record StandsFor (s : CompactSet) (set : ShadowState) : Type 0 where
  pub kind : set.kind ≡ Compact
  pub blocks : set.size.blocks ≡ s.blocks
  pub lists : (c : ℕ) → c < chunks_of s → IsListed set c (state_by (entry_of s c))

-- the disks of a group that are those of a set, its master, and its overflow volume where it has one
abbrev pub spot_of : ShadowState → CompactDisk → Option GroupSpot
spot_of set Master = Some (VolumeDisk set.master)
spot_of set Shadow = Some (ShadowDisk set.slot)
spot_of set Bitmap = Some (BitmapDisk set.slot)
spot_of set Over = option_map OverDisk set.over
