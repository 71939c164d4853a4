use Rattle.std.proofs.Common.{◌≡◌, ◌+◌, ◌≤◌, is_some, arith}
use Rattle.std.proofs.lemmas.List.Sums.{count_by-le-length}
use Rattle.avs_seg.specs.Segment.{seg_count}
use Rattle.avs_entries.specs.Entries.{entry_in}
use Rattle.avs_entries.specs.Counting.{is_touched, is_own, is_over, count_of}
use Rattle.avs_entries.proofs.Counted.{count_most}
use Rattle.avs_entries.proofs.Marking.{need_is}
use Rattle.avs_compact.proofs.OwnFirst.{over_beyond}
use Rattle.avs_compact.proofs.compact.Compact.need.Goals as goal

pub overflow_add-result : goal.overflow_add-result
overflow_add-result g c =
    let i = c.self.inside in
    let m = c.self.invariant.1 in
    omega (arith, m.own_count, m.over_count, need_is i.own (entry_in i.memory.items) (seg_count i.blocks), count_most (λ k. is_touched (entry_in i.memory.items k)) (seg_count i.blocks), c.self.invariant.0.small)

pub returns-clause-counted : goal.returns-clause-counted
returns-clause-counted g c =
    let i = c.self.inside in
    let m = c.self.invariant.1 in
    rw (← c.self.view_is) (omega (arith, m.own_count, m.over_count, need_is i.own (entry_in i.memory.items) (seg_count i.blocks)))

pub returns-clause-most : goal.returns-clause-most
returns-clause-most g c =
    let i = c.self.inside in
    let m = c.self.invariant.1 in
    rw (← c.self.view_is) (omega (arith, m.own_count, m.over_count, need_is i.own (entry_in i.memory.items) (seg_count i.blocks), count_most (λ k. is_touched (entry_in i.memory.items k)) (seg_count i.blocks)))

pub returns-clause-beyond : goal.returns-clause-beyond
returns-clause-beyond g c =
    let i = c.self.inside in
    let m = c.self.invariant.1 in
    let sum : c.self.inside.counts.own + c.self.inside.counts.over ≡ count_of (is_own i.own) (entry_in i.memory.items) (seg_count i.blocks) + count_of (is_over i.own) (entry_in i.memory.items) (seg_count i.blocks) = omega (arith, m.own_count, m.over_count) in
    let most : count_of (is_own i.own) (entry_in i.memory.items) (seg_count i.blocks) ≤ i.own = omega (arith, m.own_count, m.in_table, m.long, count_by-le-length is_some i.table.items) in
    rw (← c.self.view_is) (λ first none. over_beyond _ _ i.own i.ahead (i.counts.own + i.counts.over) sum most first none)
