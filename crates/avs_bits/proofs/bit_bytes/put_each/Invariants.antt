use Rattle.std.proofs.Common.{◌≡◌, ◌≤◌, ◌<◌, ℕ, false, length}
use Rattle.avs_bits.specs.Bit.{bit_of, IsPut}
use Rattle.avs_bits.proofs.bit_bytes.put_each.Given as goal

abbrev pub invariant-loop-place : goal.invariant-loop-place
invariant-loop-place l = record {
  len : length l.bytes.items ≡ length l.fn.bytes.items;
  put : IsPut (bit_of l.fn.bytes.items) (bit_of l.bytes.items) l.from l.place l.on;
  kept : l.changed ≡ false → l.bytes.items ≡ l.fn.bytes.items;
  idle : ((p : ℕ) → l.from ≤ p → p < l.place → bit_of l.fn.bytes.items p ≡ l.on) → l.changed ≡ false;
}
