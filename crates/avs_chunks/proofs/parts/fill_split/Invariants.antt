use Rattle.std.proofs.Common.{◌≡◌, ◌*◌, length}
use Rattle.avs_chunks.specs.States.{state_in}
use Rattle.avs_chunks.specs.Counted.{AreCounted}
use Rattle.avs_chunks.specs.Staging.{AreSetTo, split_to}
use Rattle.avs_chunks.proofs.parts.fill_split.Given as goal

abbrev pub invariant-loop-chunk : goal.invariant-loop-chunk
invariant-loop-chunk l = record {
  len : length l.next ≡ length l.fn.next;
  counted : AreCounted (state_in l.next) l.end l.counts;
  set : AreSetTo (state_in l.fn.next) (state_in l.next) (split_to l.end l.split (2048 * l.part) (state_in l.memory)) (2048 * l.part) l.chunk;
}
