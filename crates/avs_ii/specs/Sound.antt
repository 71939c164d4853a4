-- A group whose disks tell their blocks and are in step with its memory: so it is after each call that answers Ok.
use Rattle.std.specs.Prelude.{◌≡◌, ◌≢◌, ℕ, ◌<◌, false, All, List}
use Rattle.avs_seg.specs.Image.{block_at}
use Rattle.avs_dev.specs.Seen.{Seen, IsTold}
use Rattle.avs_code.specs.Label.{IsLabel, label_for}
use Rattle.avs_code.specs.GroupBlock.{IsGroupBlock}
use Rattle.avs_code.specs.declared.labels.Label.{Label}
use Rattle.avs_code.specs.declared.labels.LabelUse.{LabelUse}
use Rattle.avs_code.specs.declared.slot_table.Slot.{Slot}
use Rattle.avs_code.specs.declared.group_blocks.GroupBlock.{GroupBlock}
use Rattle.avs_chunk.specs.States.{on_master, on_shadow}
use Rattle.avs_chunk.specs.ChunkSet.{ChunkSet, chunks_of, disk_state, IsKnown, HasLabel}
use Rattle.avs_ii.specs.Held.{HeldSet, IiDisks, slot_in, has_flag, area_b, enabled_in}

-- what the label of a state disk says that it serves as, and the label
abbrev pub state_use : LabelUse
state_use = record { kind = 2; blocks = 0; segments = 0 }

abbrev pub state_label : Label
state_label = label_for state_use 0

-- a state disk has its label, and holds a block
pub record HoldsBlock (state : Seen) (block : GroupBlock) : Type 0 where
  pub told : IsTold state
  pub label : IsLabel (block_at state.image 0) state_label
  pub holds : IsGroupBlock (block_at state.image 1) block

-- no chunk stands on the shadow alone
pub record HasNoneBack (s : ChunkSet) : Type 0 where
  pub none : (c : ℕ) → c < chunks_of s → disk_state s c ≢ on_shadow

-- a set that is found again where it is enabled: its bitmap tells its blocks and has its label, and no chunk stands on the
-- shadow alone. So it is also behind calls that failed
pub record IsFindable (s : HeldSet) : Type 0 where
  pub told : IsTold s.chunks.areas.disk
  pub label : HasLabel s.chunks
  pub none_back : HasNoneBack s.chunks

-- an enabled set is known, and the area is live that its slot says. None of the calls so far puts a chunk onto the shadow alone
pub record IsSoundSet (slots : List Slot) (s : HeldSet) : Type 0 where
  pub known : IsKnown s.chunks
  pub label : HasLabel s.chunks
  pub area : s.chunks.areas.live_b ≡ has_flag area_b (slot_in slots s.slot)
  pub none_back : HasNoneBack s.chunks

-- a pending set as `enable` makes it: all its chunks stand on the master alone
pub record IsFresh (s : HeldSet) : Type 0 where
  pub known : IsKnown s.chunks
  pub label : HasLabel s.chunks
  pub area : s.chunks.areas.live_b ≡ false
  pub states : (c : ℕ) → c < chunks_of s.chunks → disk_state s.chunks c ≡ on_master

-- the disks of all volumes and of all enabled sets
pub record AreSound (slots : List Slot) (volumes : List Seen) (sets : List HeldSet) : Type 0 where
  pub told : All IsTold volumes
  pub each : All (IsSoundSet slots) (enabled_in slots sets)

-- all of a group
pub record IsSound (g : IiDisks) : Type 0 where
  pub holds : HoldsBlock g.state g.block
  pub disks : AreSound g.block.slots g.volumes g.sets
