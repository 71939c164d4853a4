use Rattle.std.proofs.Common.{ℕ, ◌-◌, ◌*◌, ◌<◌, ◌≤◌, length, List}
use Rattle.avs_model.proofs.HeldRuns.{EqualFirst}
use Rattle.avs_model.proofs.equal_runs.first_run.Given as goal

-- so many blocks are equal so far
pub record RunSoFar (bytes : List ℕ) (count : ℕ) : Type 0 where
  pub some : 0 < count
  pub within : 512 * count ≤ length bytes
  pub equal : EqualFirst bytes count

abbrev pub invariant-loop-count : goal.invariant-loop-count
invariant-loop-count l = RunSoFar l.bytes l.count

abbrev pub decreases-loop-count : goal.decreases-loop-count
decreases-loop-count l = length l.bytes - l.count
