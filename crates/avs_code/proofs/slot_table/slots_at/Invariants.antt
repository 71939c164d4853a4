use Rattle.std.proofs.Common.{◌≡◌, ◌<◌, length, get_or, ℕ}
use Rattle.avs_code.specs.Slot.{slot_at, slot_place, no_slot}
use Rattle.avs_code.proofs.slot_table.slots_at.Given as goal

abbrev pub invariant-loop-i : goal.invariant-loop-i
invariant-loop-i l = (length l.items ≡ 16) × ((k : ℕ) → k < l.i → get_or l.items k no_slot ≡ slot_at (slot_place k) l.block)
