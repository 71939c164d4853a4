use Rattle.std.proofs.Common.{◌≡◌, ◌≤◌, ◌<◌, ℕ}
use Rattle.avs_entries.specs.Entries.{state_by, split}
use Rattle.avs_compact.specs.CompactSet.{entry_of}
use Rattle.avs_shadows.proofs.calls.are_split.Given as goal

abbrev pub invariant-loop-chunk : goal.invariant-loop-chunk
invariant-loop-chunk l = record { each : (c : ℕ) → l.first ≤ c → c < l.chunk → state_by (entry_of l.set c) ≡ split }
