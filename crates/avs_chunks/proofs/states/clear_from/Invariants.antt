use Rattle.std.proofs.Common.{◌≡◌, ◌≤◌, ◌<◌, ℕ, length}
use Rattle.avs_chunks.specs.States.{state_in}
use Rattle.avs_chunks.proofs.states.clear_from.Given as goal

abbrev pub invariant-loop-chunk : goal.invariant-loop-chunk
invariant-loop-chunk l = record {
  len : length l.bytes ≡ length l.fn.bytes;
  before : (c : ℕ) → c < l.first → state_in l.bytes c ≡ state_in l.fn.bytes c;
  behind : (c : ℕ) → l.first ≤ c → c < l.chunk → state_in l.bytes c ≡ 0;
}
