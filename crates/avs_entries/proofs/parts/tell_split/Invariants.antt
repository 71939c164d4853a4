use Rattle.std.proofs.Common.{◌≡◌, ◌+◌, ◌<◌, ◌≤◌, ℕ, false, nat_eq}
use Rattle.avs_bits.specs.Bit.{bit_of}
use Rattle.avs_entries.specs.Entries.{entry_in, state_by}
use Rattle.avs_entries.proofs.parts.tell_split.Given as goal

abbrev pub invariant-loop-place : goal.invariant-loop-place
invariant-loop-place l = record {
  told : (i : ℕ) → i < l.place → bit_of l.out i ≡ nat_eq (state_by (entry_in l.memory (l.first + i))) 2;
  rest : (i : ℕ) → l.place ≤ i → bit_of l.out i ≡ false;
}
