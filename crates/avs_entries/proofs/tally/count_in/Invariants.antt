use Rattle.std.proofs.Common.{◌≡◌, ◌≤◌}
use Rattle.avs_entries.specs.Entries.{entry_in, code_of}
use Rattle.avs_entries.specs.Counting.{count_of, is_in}
use Rattle.avs_entries.proofs.tally.count_in.Given as goal

abbrev pub invariant-loop-chunk : goal.invariant-loop-chunk
invariant-loop-chunk l = record {
  counted : l.count ≡ count_of (is_in (code_of l.state)) (entry_in l.bytes) l.chunk;
  small : l.count ≤ l.chunk;
}
