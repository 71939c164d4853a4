use Rattle.std.proofs.Common.{◌≡◌, ◌*◌, length}
use Rattle.avs_entries.specs.Entries.{entry_in}
use Rattle.avs_entries.specs.Staging.{AreSetTo}
use Rattle.avs_entries.specs.Parts.{split_to}
use Rattle.avs_entries.proofs.parts.fill_split.Given as goal

abbrev pub invariant-loop-chunk : goal.invariant-loop-chunk
invariant-loop-chunk l = record {
  len : length l.next ≡ length l.fn.next;
  set : AreSetTo (entry_in l.fn.next) (entry_in l.next) (split_to l.chunks l.split l.part (entry_in l.memory) (entry_in l.fn.next)) (128 * l.at) l.chunk;
}
