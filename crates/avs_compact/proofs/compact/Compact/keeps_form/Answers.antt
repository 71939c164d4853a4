use Rattle.avs_seg.specs.Segment.{seg_count}
use Rattle.avs_entries.specs.Entries.{entry_in}
use Rattle.avs_entries.proofs.Marking.{marks_apart}
use Rattle.avs_compact.proofs.compact.Compact.keeps_form.Goals as goal

pub returns : goal.returns
returns g c =
    let i = c.self.inside in
    rw (← c.self.view_is) (marks_apart (entry_in i.memory.items) i.own (seg_count i.blocks) i.table.items i.counts c.self.invariant.1)
