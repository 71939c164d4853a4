use Rattle.std.proofs.Common.{◌≡◌, ◌≤◌, ◌<◌, ◌-◌, ℕ, nat_eq}
use Rattle.avs_chunks.specs.States.{state_in}
use Rattle.avs_chunks.proofs.states.run_end.Given as goal

abbrev pub decreases-loop-chunk : goal.decreases-loop-chunk
decreases-loop-chunk l = l.end - l.chunk

abbrev pub invariant-loop-chunk : goal.invariant-loop-chunk
invariant-loop-chunk l = record {
  low : l.first < l.chunk;
  high : l.chunk ≤ l.end;
  same : (c : ℕ) → l.first ≤ c → c < l.chunk → nat_eq (state_in l.bytes c) 0 ≡ l.alone;
}
