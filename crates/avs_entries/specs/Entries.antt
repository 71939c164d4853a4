-- The entries of chunks: where the contents of each stand, and in which slot.
use Rattle.std.specs.Prelude.{◌≡◌, ◌⊎◌, ℕ, ◌+◌, ◌-◌, ◌*◌, ◌/◌, ◌%◌, ◌^◌, ◌<◌, List}
use Rattle.avs_seg.specs.Image.{Image, block_at}
use Rattle.avs_code.specs.Bytes.{u32_at}
use Rattle.avs_entries.specs.declared.entries.ChunkState.{ChunkState}
use Rattle.avs_entries.specs.declared.entries.ChunkState.TheVariants.{OnMaster, OnBoth, Split, OnShadow}

-- on the master alone: such a chunk has no slot
abbrev pub on_master : ℕ
on_master = 0

-- the same on the master and in its slot
abbrev pub on_both : ℕ
on_both = 1

-- split: the shadow's in its slot, and the master's on the master
abbrev pub split : ℕ
split = 2

-- in its slot alone
abbrev pub on_shadow : ℕ
on_shadow = 3

-- the code of a state
abbrev pub code_of : ChunkState → ℕ
code_of OnMaster = on_master
code_of OnBoth = on_both
code_of Split = split
code_of OnShadow = on_shadow

-- the state that an entry tells, and the slot
abbrev pub state_by : ℕ → ℕ
state_by entry = entry / 2 ^ 30

abbrev pub slot_by : ℕ → ℕ
slot_by entry = entry % 2 ^ 30 - 1

-- the entry of a chunk that has a slot
abbrev pub entry_for : ℕ → ℕ → ℕ
entry_for state slot = 2 ^ 30 * state + slot + 1

-- an entry: 0, or a state from 1 to 3 with a slot
abbrev pub IsEntry : ℕ → Type 0
IsEntry entry = (entry ≡ 0) ⊎ ((0 < entry / 2 ^ 30) × (0 < entry % 2 ^ 30))

-- the entry of a chunk in bytes: four for each
unfoldable pub entry_in : List ℕ → ℕ → ℕ
entry_in bytes c = u32_at (4 * c) bytes

-- the entry of a chunk in an area: each block has 128
unfoldable pub entry_on : Image → ℕ → ℕ
entry_on area c = entry_in (block_at area (c / 128)) (c % 128)

-- the blocks of an area with the entries of so many chunks
abbrev pub area_len : ℕ → ℕ
area_len chunks = (chunks + 127) / 128

-- the label, area A and area B
abbrev pub blocks_for : ℕ → ℕ
blocks_for chunks = 1 + 2 * area_len chunks
