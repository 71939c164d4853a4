-- What a group holds: its disks, its sets, and what it has in memory of the state disk.
use Rattle.std.specs.Prelude.{ℕ, ◌/◌, ◌%◌, ◌==◌, Bool, not, List, ◌∷◌, ◌++◌, filter, find, Option, slice_index_or}
use Rattle.std.specs.List.{flat_map}
use Rattle.avs_dev.specs.Seen.{Seen}
use Rattle.avs_code.specs.Slot.{no_slot}
use Rattle.avs_code.specs.declared.slot_table.Slot.{Slot}
use Rattle.avs_code.specs.declared.group_blocks.GroupBlock.{GroupBlock}
use Rattle.avs_chunk.specs.ChunkSet.{ChunkSet, disks_there}

-- a set: its slot, the place of its master among the volumes, and its disks
pub record HeldSet : Type 0 where
  pub slot : ℕ
  pub master : ℕ
  pub chunks : ChunkSet

-- the state disk; the block in memory, whose slots it holds unless a commit has failed; the volumes in order; and the sets in
-- order of enabling, with those that are pending
pub record IiDisks : Type 0 where
  pub state : Seen
  pub block : GroupBlock
  pub volumes : List Seen
  pub sets : List HeldSet

-- the flags of a slot
abbrev pub live : ℕ
live = 1

abbrev pub area_b : ℕ
area_b = 2

abbrev pub stopped : ℕ
stopped = 4

abbrev pub offline : ℕ
offline = 8

abbrev pub exported : ℕ
exported = 16

abbrev pub has_flag : ℕ → Slot → Bool
has_flag flag slot = slot.flags / flag % 2 == 1

-- a slot by its number
abbrev pub slot_in : List Slot → ℕ → Slot
slot_in slots slot = slice_index_or slots slot no_slot

-- whether the slots say that the set with that number is enabled
abbrev pub is_live : List Slot → ℕ → Bool
is_live slots slot = has_flag live (slot_in slots slot)

-- the sets that the slots say are enabled, and the others, which are pending
abbrev pub enabled_in : List Slot → List HeldSet → List HeldSet
enabled_in slots sets = filter (λ s. is_live slots s.slot) sets

abbrev pub pending_in : List Slot → List HeldSet → List HeldSet
pending_in slots sets = filter (λ s. not (is_live slots s.slot)) sets

-- the enabled set with that slot, and the pending one
abbrev pub set_at : IiDisks → ℕ → Option HeldSet
set_at g slot = find (λ s. s.slot == slot) (enabled_in g.block.slots g.sets)

abbrev pub pending_at : IiDisks → ℕ → Option HeldSet
pending_at g slot = find (λ s. s.slot == slot) (pending_in g.block.slots g.sets)

-- a volume by its place
abbrev pub volume_at : IiDisks → ℕ → Seen
volume_at g volume = slice_index_or g.volumes volume g.state

-- all disks, in order: the state disk, the volumes, and of each set the shadow's and the bitmap's
abbrev pub disks_of : IiDisks → List Seen
disks_of g = g.state ∷ g.volumes ++ flat_map (λ s. disks_there s.chunks) g.sets
