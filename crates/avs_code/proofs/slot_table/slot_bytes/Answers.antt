use Rattle.std.proofs.Common.{refl}
use Rattle.avs_code.specs.Bytes.{zeros, u32_bytes, u64_bytes}
use Rattle.avs_code.specs.Slot.{slot_bytes}
use Rattle.avs_code.proofs.slot_table.slot_bytes.Goals as goal

pub returns : goal.returns
unfolding zeros u32_bytes u64_bytes slot_bytes
returns c = rw (c.put_u64.ensures.after, c.put_u32-2.ensures.after, c.put_u32.ensures.after) refl
