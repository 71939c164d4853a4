use Rattle.std.proofs.Common.{length, ap, arith}
use Rattle.avs_seg.proofs.Bytes.{length-blocks_of}
use Rattle.avs_model.proofs.blocks.Blocks.as_slice.Goals as goal

pub returns-clause-whole : goal.returns-clause-whole
returns-clause-whole c =
    let count = ap length c.self.view_is in
    omega (arith, count, length-blocks_of c.self.inside.bytes.items, c.self.invariant, c.deref.ensures.len, ap length c.deref.ensures.value)
