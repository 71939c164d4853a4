use Rattle.avs_entries.specs.Entries.{entry_in}
use Rattle.avs_entries.specs.Tallied.{IsReach}
use Rattle.avs_entries.proofs.tally.reach_in.Given as goal

abbrev pub invariant-loop-chunk : goal.invariant-loop-chunk
invariant-loop-chunk l = record { reaches : IsReach (entry_in l.bytes) l.own l.chunk l.reach }
