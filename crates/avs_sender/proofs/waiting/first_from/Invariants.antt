use Rattle.std.proofs.Common.{◌≡◌, ℕ, ◌<◌, ◌≤◌, false}
use Rattle.avs_sender.specs.Waits.{waits_at}
use Rattle.avs_sender.proofs.waiting.first_from.Given as goal

abbrev pub invariant-loop-i : goal.invariant-loop-i
invariant-loop-i l = (k : ℕ) → l.from ≤ k → k < l.i → waits_at l.waits k ≡ false
