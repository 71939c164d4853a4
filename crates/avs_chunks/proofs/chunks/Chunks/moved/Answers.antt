use Rattle.std.proofs.Common.{◌≡◌, arith}
use Rattle.avs_seg.specs.Segment.{seg_count}
use Rattle.avs_chunks.specs.States.{state_in}
use Rattle.avs_chunks.proofs.Counted.{few_of}
use Rattle.avs_chunks.proofs.chunks.Chunks.moved.Goals as goal

pub returns-clause-counted : goal.returns-clause-counted
returns-clause-counted g c = rw (← c.self.view_is) c.self.invariant.1.halves

pub returns-clause-most : goal.returns-clause-most
returns-clause-most g c =
    let i = c.self.inside in
    omega (arith, c.self.invariant.0.small, c.self.invariant.1.halves, few_of (state_in i.memory.items) (seg_count i.blocks) 2)
