use Rattle.std.proofs.Common.{◌≡◌, ◌≤◌, ◌<◌, ◌-◌, ◌^◌, ℕ, false}
use Rattle.avs_bits.specs.Bit.{bit_of}
use Rattle.avs_bits.proofs.bit_bytes.next_bit.Given as goal

abbrev pub decreases-loop-place : goal.decreases-loop-place
decreases-loop-place l = l.end - l.place

abbrev pub invariant-loop-place : goal.invariant-loop-place
invariant-loop-place l = record {
  fits : l.place < 2 ^ 32;
  after : l.from ≤ l.place;
  zeros : (q : ℕ) → l.from ≤ q → q < l.place → bit_of l.bytes q ≡ false;
}
