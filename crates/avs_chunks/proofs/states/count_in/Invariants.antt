use Rattle.std.proofs.Common.{◌≡◌, ◌≤◌, ◌==◌, filter, length}
use Rattle.std.specs.List.{range_with_len}
use Rattle.avs_chunks.specs.States.{state_in, code_of}
use Rattle.avs_chunks.proofs.states.count_in.Given as goal

abbrev pub invariant-loop-chunk : goal.invariant-loop-chunk
invariant-loop-chunk l = record {
  counted : l.count ≡ length (filter (λ c. state_in l.bytes c == code_of l.state) (range_with_len 0 l.chunk));
  small : l.count ≤ l.chunk;
}
