use Rattle.std.proofs.Common.{arith}
use Rattle.avs_seg.specs.Segment.{seg_count}
use Rattle.avs_chunks.specs.States.{state_in}
use Rattle.avs_chunks.proofs.Counted.{few_of}
use Rattle.avs_chunks.proofs.chunks.Chunks.left.Goals as goal

pub returns-in-Ind-clause-most : goal.returns-in-Ind-clause-most
returns-in-Ind-clause-most g c =
    let i = c.self.inside in
    omega (arith, c.self.invariant.0.small, c.self.invariant.1.alone, few_of (state_in i.memory.items) (seg_count i.blocks) 0)
