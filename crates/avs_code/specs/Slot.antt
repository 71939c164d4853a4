-- The slots of a group's shadow sets.
use Rattle.std.specs.Prelude.{ℕ, ◌+◌, ◌*◌, ◌<◌, ◌≤◌, ◌^◌, nat_lt, nat_le, Bool, ◌&&◌, List, [], ◌∷◌, ◌++◌, map, take, drop, slice_index}
use Rattle.std.specs.List.{list_all, range_with_len}
use Rattle.avs_seg.specs.Image.{Block}
use Rattle.avs_code.specs.Bytes.{zeros, all_zero, u32_bytes, u64_bytes, u32_at, u64_at}
use Rattle.avs_code.specs.declared.slot_table.Slot.{Slot}

-- the 24 bytes of a slot
unfoldable pub slot_bytes : Slot → List ℕ
slot_bytes s = s.flags ∷ s.kind ∷ [] ++ zeros 2 ++ u32_bytes s.need ++ u32_bytes s.slots ++ u64_bytes s.stamp ++ zeros 4

-- each field keeps its rule: the flags are of the five that have a name
pub record SlotKeeps (s : Slot) : Type 0 where
  pub flags : s.flags < 32
  pub kind : s.kind ≤ 3
  pub stamp : s.stamp ≤ 2 ^ 62

-- the fields without a rule fit their bytes
pub record SlotFits (s : Slot) : Type 0 where
  pub need : s.need < 2 ^ 32
  pub slots : s.slots < 2 ^ 32

-- a slot that no set has
abbrev pub no_slot : Slot
no_slot = record { flags = 0; kind = 0; need = 0; slots = 0; stamp = 0 }

-- the fields of a slot as they lie at a place
abbrev pub slot_at : ℕ → List ℕ → Slot
slot_at at bytes = record { flags = slice_index bytes at; kind = slice_index bytes (at + 1); need = u32_at (at + 4) bytes; slots = u32_at (at + 8) bytes; stamp = u64_at (at + 12) bytes }

-- each field of a slot keeps its rule
abbrev pub slot_keeps_rules : Slot → Bool
slot_keeps_rules s = nat_lt s.flags 32 && nat_le s.kind 3 && nat_le s.stamp (2 ^ 62)

-- each field of the slot at a place keeps its rule, and the bytes between them are zeros
abbrev pub slot_holds : ℕ → List ℕ → Bool
slot_holds at bytes = all_zero (take 2 (drop (at + 2) bytes)) && all_zero (take 4 (drop (at + 20) bytes)) && slot_keeps_rules (slot_at at bytes)

-- the place of slot i in a block
abbrev pub slot_place : ℕ → ℕ
slot_place i = 16 + 24 * i

-- the slots as they lie in a block
unfoldable pub slots_at : Block → List Slot
slots_at block = map (λ i. slot_at (slot_place i) block) (range_with_len 0 16)

-- each slot of a block keeps its rules
unfoldable pub slots_hold : Block → Bool
slots_hold block = list_all (λ i. slot_holds (slot_place i) block) (range_with_len 0 16)
