use Rattle.std.proofs.Common.{◌≡◌, ◌≤◌, ◌<◌, ℕ, false}
use Rattle.avs_entries.specs.Entries.{entry_in}
use Rattle.avs_entries.specs.Counting.{is_over}
use Rattle.avs_entries.proofs.search.first_over.Given as goal

abbrev pub invariant-loop-chunk : goal.invariant-loop-chunk
invariant-loop-chunk l = (c : ℕ) → l.from ≤ c → c < l.chunk → is_over l.own (entry_in l.bytes c) ≡ false
