use Rattle.std.proofs.Common.{rules, refl}
use Rattle.avs_entries.specs.Entries.{entry_in}
use Rattle.avs_entries.proofs.Formatting.{IsClean-zeros, entries_none}
use Rattle.avs_entries.proofs.Marking.{marks_zeros}
use Rattle.avs_compact.proofs.Making.{Makes-format}
use Rattle.avs_compact.proofs.compact.Compact.make.Goals as goal

pub over-requires-clause-kept : goal.over-requires-clause-kept
over-requires-clause-kept g c = record {
  room = search rules;
  first = search rules;
  len = search rules;
  fits = search rules;
  small = search rules;
  few = search rules;
}

pub over-requires-clause-held : goal.over-requires-clause-held
over-requires-clause-held g c = record {
  entries = search rules;
  clean = IsClean-zeros c.in-Ok.room.memory.items _ _ c.in-Ok.ensures.memory;
  staged = search rules;
  staged_clean = IsClean-zeros c.in-Ok.room.next.items _ _ c.in-Ok.ensures.next;
}

pub over-requires-clause-marked : goal.over-requires-clause-marked
over-requires-clause-marked g c = marks_zeros (entry_in c.in-Ok.room.memory.items) _ _ c.in-Ok.room.table.items _ c.in-Ok.ensures.table c.in-Ok.ensures.table_long (entries_none c.in-Ok.room.memory.items _ c.in-Ok.ensures.memory) refl refl

pub returns-in-Ok-format-clause-made : goal.returns-in-Ok-format-clause-made
returns-in-Ok-format-clause-made g c =
    Makes-format c.args.set (g.D.Disk.seen c.args.shadow) (g.D.Disk.seen c.args.bitmap) (g.D.Disk.seen c.format.new.disk) c.args.blocks c.in-Ok.room.memory.items c.in-Ok.room.next.items (search rules)
    (search rules) c.in-Ok.ensures.memory c.format.result _ c.over.result c.in-Ok-format.is c.format.ensures (search rules)
