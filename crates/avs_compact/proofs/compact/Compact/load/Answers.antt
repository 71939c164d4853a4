use Rattle.std.proofs.Common.{rules}
use Rattle.std.specs.Option.{option_map}
use Rattle.avs_entries.specs.Entries.{entry_in}
use Rattle.avs_entries.proofs.Formatting.{IsClean-zeros}
use Rattle.avs_entries.proofs.Marking.{marks_apart}
use Rattle.avs_compact.proofs.Making.{Loads-found}
use Rattle.avs_compact.proofs.compact.Compact.load.Goals as goal

pub returns-in-Ok-clause-loaded : goal.returns-in-Ok-clause-loaded
returns-in-Ok-clause-loaded g c =
    Loads-found c.args.set c.own_of-own.result (option_map g.D.Disk.seen c.args.shadow) (g.D.Disk.seen c.args.bitmap) (g.D.Disk.seen c.find.new.disk) c.args.blocks c.args.live_b c.in-Ok.found.room.memory.items c.in-Ok.found.room.next.items c.over.result
    c.own_of-own.ensures.is c.in-Ok.ensures.fits c.in-Ok.ensures.kept c.in-Ok.ensures.label c.in-Ok.ensures.area (marks_apart (entry_in c.in-Ok.found.room.memory.items) _ _ c.in-Ok.found.room.table.items c.in-Ok.found.counts c.in-Ok.ensures.marked) c.over.ensures

pub over-requires-clause-kept : goal.over-requires-clause-kept
over-requires-clause-kept g c = record {
  room = search rules;
  first = search rules;
  len = search rules;
  fits = search rules;
  small = search rules;
  few = search rules;
}

pub over-requires-clause-held : goal.over-requires-clause-held
over-requires-clause-held g c = record {
  entries = search rules;
  clean = c.in-Ok.ensures.clean;
  staged = search rules;
  staged_clean = IsClean-zeros c.in-Ok.found.room.next.items _ _ c.in-Ok.ensures.next;
}
