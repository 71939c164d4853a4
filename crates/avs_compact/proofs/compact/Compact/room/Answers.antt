use Rattle.std.proofs.Common.{is_some, arith}
use Rattle.std.proofs.lemmas.List.Sums.{count_by-le-length}
use Rattle.avs_seg.specs.Segment.{seg_count}
use Rattle.avs_entries.specs.Entries.{entry_in}
use Rattle.avs_entries.specs.Counting.{is_over}
use Rattle.avs_entries.proofs.Counted.{count_most}
use Rattle.avs_entries.proofs.Marking.{given_most}
use Rattle.avs_compact.specs.CompactSet.{over_of}
use Rattle.avs_compact.proofs.compact.Compact.room.Goals as goal

pub overflow_add-result : goal.overflow_add-result
overflow_add-result g c =
    let i = c.self.inside in
    let m = c.self.invariant.1 in
    omega (arith, m.over_count, count_most (λ k. is_over i.own (entry_in i.memory.items k)) (seg_count i.blocks), c.self.invariant.0.small, c.self.invariant.0.few)

pub overflow_add-result-2 : goal.overflow_add-result-2
overflow_add-result-2 g c =
    let i = c.self.inside in
    let m = c.self.invariant.1 in
    omega (arith, m.over_count, count_most (λ k. is_over i.own (entry_in i.memory.items k)) (seg_count i.blocks), c.self.invariant.0.small, c.self.invariant.0.few, c.free_of.ensures.few)

pub returns-clause-by_rule : goal.returns-clause-by_rule
returns-clause-by_rule g c =
    let i = c.self.inside in
    let m = c.self.invariant.1 in
    let o = over_of c.args.over.now in
    rw (← c.self.view_is) (λ taken. omega (arith, taken, m.over_count, c.free_of.ensures.is, given_most i.set o.owners, count_by-le-length is_some o.owners))

pub returns-clause-is : goal.returns-clause-is
returns-clause-is g c = rw (← c.self.view_is) (omega (arith, c.self.invariant.1.over_count, c.free_of.ensures.is))
