use Rattle.std.proofs.Common.{◌≢◌, ℕ, ◌<◌, ◌≤◌, None}
use Rattle.avs_over.specs.Slots.{owner_at}
use Rattle.avs_compact.proofs.taking.first_free.Given as goal

abbrev pub invariant-loop-slot : goal.invariant-loop-slot
invariant-loop-slot l = (k : ℕ) → l.from ≤ k → k < l.slot → owner_at l.table k ≢ None
