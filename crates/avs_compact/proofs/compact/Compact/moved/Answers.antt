use Rattle.avs_seg.specs.Segment.{seg_count}
use Rattle.avs_entries.specs.Entries.{entry_in}
use Rattle.avs_entries.proofs.Tallied.{split_most}
use Rattle.avs_compact.proofs.compact.Compact.moved.Goals as goal

pub returns-clause-counted : goal.returns-clause-counted
returns-clause-counted g c = rw (← c.self.view_is) c.self.invariant.3.halves

pub returns-clause-most : goal.returns-clause-most
returns-clause-most g c = (let i = c.self.inside in rw (← c.self.view_is) (split_most (entry_in i.memory.items) i.own (seg_count i.blocks) i.tally c.self.invariant.3))
