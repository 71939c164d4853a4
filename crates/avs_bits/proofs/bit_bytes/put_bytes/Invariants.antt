use Rattle.std.proofs.Common.{◌≡◌, ◌≤◌, ◌<◌, ◌*◌, ℕ, false, length}
use Rattle.avs_bits.specs.Bit.{bit_of, IsPut}
use Rattle.avs_bits.proofs.bit_bytes.put_bytes.Given as goal

abbrev pub invariant-loop-index : goal.invariant-loop-index
invariant-loop-index l = record {
  len : length l.bytes.items ≡ length l.fn.bytes.items;
  put : IsPut (bit_of l.fn.bytes.items) (bit_of l.bytes.items) (8 * l.first) (8 * l.index) l.on;
  kept : l.changed ≡ false → l.bytes.items ≡ l.fn.bytes.items;
  idle : ((p : ℕ) → 8 * l.first ≤ p → p < 8 * l.index → bit_of l.fn.bytes.items p ≡ l.on) → l.changed ≡ false;
}
