use Rattle.std.proofs.Common.{◌≡◌, ◌+◌, ◌*◌, ◌++◌, List, length, take, drop, ℕ}
use Rattle.std.specs.List.{flat_map}
use Rattle.avs_code.specs.Slot.{slot_bytes}
use Rattle.avs_code.proofs.slot_table.put_slots.Given as goal

-- the first i slots are written, and the block is whole
pub record Written (old out : List ℕ) (written : List ℕ) (i : ℕ) : Type 0 where
  pub bytes : out ≡ (take 16 old ++ written) ++ drop (16 + 24 * i) old
  pub whole : length out ≡ 512

abbrev pub invariant-loop-i : goal.invariant-loop-i
invariant-loop-i l = Written l.fn.out l.out (flat_map slot_bytes (take l.i l.slots)) l.i
