use Rattle.std.proofs.Common.{ap, arith}
use Rattle.avs_compact.specs.CompactSet.{CompactSet}
use Rattle.avs_compact.proofs.compact.Compact.moved_part.Goals as goal

pub overflow_mul-first : goal.overflow_mul-first
overflow_mul-first g c =
    let blocks = ap (λ (s : CompactSet). s.blocks) c.self.view_is in
    omega (arith, c.requires, blocks, c.self.invariant.0.small)

pub returns-clause-behind : goal.returns-clause-behind
returns-clause-behind g c =
    let blocks = ap (λ (s : CompactSet). s.blocks) c.self.view_is in
    λ i past. c.tell_split.ensures.behind i (omega (arith, past, blocks, c.min-count.ensures, c.seg_count-chunks.ensures))
