use Rattle.avs_seg.specs.Segment.{seg_count}
use Rattle.avs_entries.specs.Entries.{entry_in}
use Rattle.avs_entries.proofs.Tallied.{none_back}
use Rattle.avs_compact.proofs.compact.Compact.next_due.Goals as goal

pub returns-then-self-eq0-clause-finds : goal.returns-then-self-eq0-clause-finds
returns-then-self-eq0-clause-finds g c =
    let i = c.self.inside in
    rw (← c.self.view_is) (record { there = tt; due = tt; least = tt; none = none_back (entry_in i.memory.items) i.own (seg_count i.blocks) i.tally c.self.invariant.3 c.if-self-eq0.true })
