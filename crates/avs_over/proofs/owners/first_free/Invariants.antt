use Rattle.std.proofs.Common.{◌≢◌, ℕ, ◌<◌, ◌≤◌, None}
use Rattle.avs_over.specs.Slots.{owner_at}
use Rattle.avs_over.proofs.owners.first_free.Given as goal

abbrev pub invariant-loop-slot : goal.invariant-loop-slot
invariant-loop-slot l = (k : ℕ) → l.from ≤ k → k < l.slot → owner_at l.owners k ≢ None
