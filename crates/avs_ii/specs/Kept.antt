-- What the memory of a group keeps.
use Rattle.std.specs.Prelude.{◌≡◌, ◌⊎◌, ℕ, ◌^◌, ◌<◌, ◌≤◌, true, false, IsTrue, All, List, length, is_some}
use Rattle.avs_dev.specs.Seen.{Seen}
use Rattle.avs_code.specs.GroupBlock.{GroupBlockKeeps, GroupBlockFits}
use Rattle.avs_code.specs.declared.slot_table.Slot.{Slot}
use Rattle.avs_code.specs.declared.group_blocks.GroupBlock.{GroupBlock}
use Rattle.avs_model.specs.Shadows.{slot_count}
use Rattle.avs_model.specs.declared.shadow.Kind.TheVariants.{Ind, Dep}
use Rattle.avs_ii.specs.Held.{HeldSet, is_live, has_flag, area_b, slot_in}
use Rattle.avs_ii.specs.Saved.{IsSettledInMemory}
use Rattle.avs_ii.specs.Parts.{size_of}
use Rattle.avs_ii.specs.Making.{state_blocks, fits_slot}
use Rattle.avs_ii.specs.Opening.{IsOnDisks}

-- of a set: its slot and its master are there, the shadow's disk too, its disks have room for it, it is as large as its
-- master, which has a block, no chunk stands on the shadow alone; where it is pending the first area is live; and where it
-- is enabled the area is live that its slot says, which fits its kind
pub record IsHeld (slots : List Slot) (volumes : List Seen) (s : HeldSet) : Type 0 where
  pub slot : s.slot < slot_count
  pub master : s.master < length volumes
  pub there : IsTrue (is_some s.chunks.shadow)
  pub blocks : size_of volumes s.master ≡ s.chunks.blocks
  pub whole : (s.chunks.kind ≡ Ind) ⊎ (s.chunks.kind ≡ Dep)
  pub area : is_live slots s.slot ≡ true → s.chunks.areas.live_b ≡ has_flag area_b (slot_in slots s.slot)
  pub first : is_live slots s.slot ≡ false → s.chunks.areas.live_b ≡ false
  pub fits : is_live slots s.slot ≡ true → fits_slot (slot_in slots s.slot) s.chunks.kind ≡ true
  pub settled : IsSettledInMemory s.chunks
  pub some : 0 < s.chunks.blocks
  pub on : IsOnDisks s

-- of a group: its state disk is large enough, and its block can be written
pub record IsKept (disk : Seen) (block : GroupBlock) (volumes : List Seen) (sets : List HeldSet) : Type 0 where
  pub room : state_blocks ≤ disk.size
  pub keeps : GroupBlockKeeps block
  pub fits : GroupBlockFits block
  pub count : length volumes < 2 ^ 32
  pub held : All (IsHeld block.slots volumes) sets

-- the room to take a group apart: it is empty, and has a place for each set; and no overflow volume is held
pub record HasRoom (used capacity overs : ℕ) (sets : List HeldSet) : Type 0 where
  pub empty : used ≡ 0
  pub place : length sets ≤ capacity
  pub none : overs ≡ 0
