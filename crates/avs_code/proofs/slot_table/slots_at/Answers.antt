use Rattle.std.proofs.Common.{arith}
use Rattle.std.proofs.lemmas.List.Elements.{All-same}
use Rattle.avs_code.specs.Slot.{SlotFits, slots_at}
use Rattle.avs_code.proofs.SlotBytes.{slots_at-filled, slots_at-fit}
use Rattle.avs_code.proofs.slot_table.slots_at.Goals as goal

pub invariant_of-result : goal.invariant_of-result
invariant_of-result c =
    let filled = slots_at-filled c.args.block.now c.loop-i.items c.loop-i.i (omega arith) c.loop-i.invariant.0 c.loop-i.invariant.1 in
    All-same SlotFits c.loop-i.items (slots_at c.args.block.now) filled (slots_at-fit c.args.block.now c.fits-block)

pub returns : goal.returns
returns c = slots_at-filled c.args.block.now c.loop-i.items c.loop-i.i (omega arith) c.loop-i.invariant.0 c.loop-i.invariant.1
