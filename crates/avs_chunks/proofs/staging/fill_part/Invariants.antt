use Rattle.std.proofs.Common.{◌≡◌, ◌*◌, length}
use Rattle.avs_chunks.specs.States.{state_in}
use Rattle.avs_chunks.specs.Counted.{AreCounted}
use Rattle.avs_chunks.specs.Staging.{AreSetTo, updated}
use Rattle.avs_chunks.proofs.staging.fill_part.Given as goal

abbrev pub invariant-loop-chunk : goal.invariant-loop-chunk
invariant-loop-chunk l = record {
  len : length l.next ≡ length l.fn.next;
  counted : AreCounted (state_in l.next) l.end l.counts;
  set : AreSetTo (state_in l.fn.next) (state_in l.next) (λ c. updated l.update (state_in l.memory c)) (2048 * l.part) l.chunk;
}
