use Rattle.std.proofs.Common.{◌≡◌, ◌*◌, length}
use Rattle.avs_entries.specs.Entries.{entry_in}
use Rattle.avs_entries.specs.Staging.{AreSetTo, updated}
use Rattle.avs_entries.proofs.staging.fill_block.Given as goal

abbrev pub invariant-loop-chunk : goal.invariant-loop-chunk
invariant-loop-chunk l = record {
  len : length l.next ≡ length l.fn.next;
  set : AreSetTo (entry_in l.fn.next) (entry_in l.next) (λ c. updated l.update (entry_in l.memory c)) (128 * l.at) l.chunk;
}
