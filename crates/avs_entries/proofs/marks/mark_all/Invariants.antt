use Rattle.std.proofs.Common.{length}
use Rattle.avs_entries.specs.Entries.{entry_in}
use Rattle.avs_entries.specs.Slots.{Marks}
use Rattle.avs_entries.proofs.marks.mark_all.Given as goal

abbrev pub invariant-loop-chunk : goal.invariant-loop-chunk
invariant-loop-chunk l = record { so_far : Marks (entry_in l.bytes) (length l.fn.table) l.chunk l.table l.counts }
