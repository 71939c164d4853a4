-- What the block of a state disk says of its slots and of its group.
use Rattle.std.specs.Prelude.{◌≡◌, ◌≢◌, ℕ, ◌/◌, ◌%◌, ◌==◌, Bool, true, if◌then◌else◌, Option, None, Some, slice_index_or}
use Rattle.avs_seg.specs.Image.{block_at}
use Rattle.avs_dev.specs.Seen.{Seen, shown}
use Rattle.avs_code.specs.Slot.{no_slot}
use Rattle.avs_code.specs.GroupBlock.{group_block_at}
use Rattle.avs_code.specs.declared.slot_table.Slot.{Slot}
use Rattle.avs_code.specs.declared.group_blocks.GroupBlock.{GroupBlock}
use Rattle.avs_model.specs.ShadowSets.{Standing, Online, Offline, Exported}
use Rattle.avs_model.specs.declared.shadow.Kind.{Kind}
use Rattle.avs_model.specs.declared.shadow.Kind.TheVariants.{Ind, Dep, Compact}
use Rattle.avs_sets.specs.Says.{SlotSays, BlockSays}
use Rattle.avs_state.specs.declared.slot_states.Standing.{Standing as StandingSaid}
use Rattle.avs_state.specs.declared.slot_states.Standing.TheVariants as said
use Rattle.avs_state.specs.declared.slot_states.SlotState.{SlotState}

-- ---- the bytes of a slot

-- a flag of a slot: 1 tells that a set is enabled, 2 that its second area is live, 4 that its copying is stopped, 8 that it is offline, 16 that its
-- shadow is given away
abbrev pub has_flag : ℕ → Slot → Bool
has_flag flag slot = slot.flags / flag % 2 == 1

-- the kind of a number, and the standing by the flags
abbrev pub kind_by : ℕ → Kind
kind_by number = if number == 2 then Dep else if number == 3 then Compact else Ind

abbrev pub standing_by : Slot → Standing
standing_by slot = if has_flag 16 slot then Exported slot.stamp else if has_flag 8 slot then Offline slot.need slot.slots else Online

-- what a slot says
abbrev pub slot_says : Slot → SlotSays
slot_says slot = record {
  enabled = has_flag 1 slot;
  area_b = has_flag 2 slot;
  stopped = has_flag 4 slot;
  standing = standing_by slot;
  kind = kind_by slot.kind;
}

-- a slot of a block, what a block says, and what the block of a state disk says
abbrev pub slot_at : GroupBlock → ℕ → Slot
slot_at block number = slice_index_or block.slots number no_slot

abbrev pub says_of : GroupBlock → BlockSays
says_of block = record { slots = λ number. slot_says (slot_at block number); note = block.note; sequence = block.sequence }

abbrev pub said_on : Seen → BlockSays
said_on state = says_of (group_block_at (block_at (shown state) 1))

-- ---- what is said of a set, by its type

abbrev pub standing_of : StandingSaid → Standing
standing_of said.Online = Online
standing_of (said.Offline need slots) = Offline need slots
standing_of (said.Exported stamp) = Exported stamp

abbrev pub said_of : SlotState → SlotSays
said_of s = record { enabled = true; area_b = s.area_b; stopped = s.stopped; standing = standing_of s.standing; kind = s.kind }

-- the flag of a standing
abbrev pub standing_flag : StandingSaid → ℕ
standing_flag said.Online = 0
standing_flag (said.Offline need slots) = 8
standing_flag (said.Exported stamp) = 16

-- of no set
abbrev pub said_none : SlotSays
said_none = slot_says no_slot

abbrev pub said_in : Option SlotState → SlotSays
said_in None = said_none
said_in (Some s) = said_of s

-- the stamp of a standing, 0 where it has none
abbrev pub stamp_of : StandingSaid → ℕ
stamp_of said.Online = 0
stamp_of (said.Offline need slots) = 0
stamp_of (said.Exported stamp) = stamp

abbrev pub stamp_in : Option SlotState → ℕ
stamp_in None = 0
stamp_in (Some s) = stamp_of s.standing

-- of one slot another thing is said
pub record SaysOne (old : BlockSays) (number : ℕ) (what : SlotSays) (new : BlockSays) : Type 0 where
  pub slot : new.slots number ≡ what
  pub others : (k : ℕ) → k ≢ number → new.slots k ≡ old.slots k
  pub note : new.note ≡ old.note
  pub sequence : new.sequence ≡ old.sequence
