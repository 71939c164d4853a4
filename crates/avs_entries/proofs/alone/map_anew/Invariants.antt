use Rattle.std.proofs.Common.{◌≡◌, ◌<◌, ◌≤◌, ℕ, false, length}
use Rattle.avs_bits.specs.Bit.{bit_of}
use Rattle.avs_entries.specs.Entries.{entry_in, on_shadow}
use Rattle.avs_entries.specs.Counting.{is_in}
use Rattle.avs_entries.proofs.alone.map_anew.Given as goal

abbrev pub invariant-loop-chunk : goal.invariant-loop-chunk
invariant-loop-chunk l = record {
  len : length l.map ≡ length l.fn.map;
  mapped : (c : ℕ) → c < l.chunk → bit_of l.map c ≡ is_in on_shadow (entry_in l.bytes c);
  rest : (c : ℕ) → l.chunk ≤ c → bit_of l.map c ≡ false;
}
