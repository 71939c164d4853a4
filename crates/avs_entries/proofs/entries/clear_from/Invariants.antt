use Rattle.std.proofs.Common.{◌≡◌, ◌≤◌, ◌<◌, ℕ, length}
use Rattle.avs_entries.specs.Entries.{entry_in}
use Rattle.avs_entries.proofs.entries.clear_from.Given as goal

abbrev pub invariant-loop-chunk : goal.invariant-loop-chunk
invariant-loop-chunk l = record {
  len : length l.bytes ≡ length l.fn.bytes;
  before : (c : ℕ) → c < l.first → entry_in l.bytes c ≡ entry_in l.fn.bytes c;
  behind : (c : ℕ) → l.first ≤ c → c < l.chunk → entry_in l.bytes c ≡ 0;
}
