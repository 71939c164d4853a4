-- The block of a state volume.
use Rattle.std.specs.Prelude.{◌≡◌, ℕ, ◌<◌, ◌^◌, ◌==◌, nat_eq, Bool, true, All, List, [], ◌∷◌, ◌++◌, length, take, drop, slice_index, codes}
use Rattle.std.specs.List.{starts_with, flat_map}
use Rattle.avs_seg.specs.Image.{Block}
use Rattle.avs_code.specs.Bytes.{zeros, all_zero, u32_bytes, u64_bytes, u32_at, u64_at}
use Rattle.avs_code.specs.Slot.{SlotKeeps, SlotFits, slot_bytes, slots_at, slots_hold}
use Rattle.avs_code.specs.declared.group_blocks.GroupBlock.{GroupBlock}

-- the block that stands for a group's state
unfoldable pub group_block : GroupBlock → Block
group_block x = codes "AVSG" ++ u32_bytes x.version ++ u64_bytes x.sequence ++ flat_map slot_bytes x.slots ++ x.note ++ zeros 48

-- each field keeps its rule
pub record GroupBlockKeeps (x : GroupBlock) : Type 0 where
  pub version : x.version ≡ 1
  pub slots : All SlotKeeps x.slots

-- the fields fit their bytes, where no rule says so
pub record GroupBlockFits (x : GroupBlock) : Type 0 where
  pub sequence : x.sequence < 2 ^ 64
  pub slot_count : length x.slots ≡ 16
  pub slots : All SlotFits x.slots
  pub note_len : length x.note ≡ 64
  pub note : (i : ℕ) → slice_index x.note i < 256

-- the block stands for the group's state
pub record IsGroupBlock (block : Block) (x : GroupBlock) : Type 0 where
  pub keeps : GroupBlockKeeps x
  pub fits : GroupBlockFits x
  pub spelled : block ≡ group_block x

-- the fields as they lie in a block
abbrev pub group_block_at : Block → GroupBlock
group_block_at block = record { version = u32_at 4 block; sequence = u64_at 8 block; slots = slots_at block; note = take 64 (drop 400 block) }

-- Whether each field keeps its rule, from the magic bytes to the rest of the block. The slots are one
-- field, with the bytes between their parts; the note has no rule here.
abbrev pub group_block_rules : Block → List Bool
group_block_rules block = starts_with nat_eq block (codes "AVSG") ∷ (u32_at 4 block == 1) ∷ true ∷ slots_hold block ∷ true ∷ all_zero (drop 464 block) ∷ []
