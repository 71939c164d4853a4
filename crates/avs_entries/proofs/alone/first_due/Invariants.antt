use Rattle.std.proofs.Common.{◌≢◌, ◌<◌, ◌-◌, ◌^◌, ℕ}
use Rattle.avs_entries.specs.Entries.{entry_in, state_by, on_shadow}
use Rattle.avs_entries.proofs.alone.first_due.Given as goal

abbrev pub decreases-loop-chunk : goal.decreases-loop-chunk
decreases-loop-chunk l = l.end - l.chunk

abbrev pub invariant-loop-chunk : goal.invariant-loop-chunk
invariant-loop-chunk l = record {
  fits : l.chunk < 2 ^ 32;
  passed : (c : ℕ) → c < l.chunk → c < l.end → state_by (entry_in l.bytes c) ≢ on_shadow;
}
