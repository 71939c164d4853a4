use Rattle.std.proofs.Common.{◌≡◌, ◌*◌, ◌/◌, ◌++◌, length}
use Rattle.avs_seg.specs.Image.{blocks_of}
use Rattle.avs_model.proofs.equal_runs.EqualRuns.push.Given as goal

abbrev pub invariant-loop-rest : goal.invariant-loop-rest
invariant-loop-rest l = (512 * (length l.rest / 512) ≡ length l.rest) × (l.self ++ blocks_of l.rest ≡ l.initial.self ++ blocks_of l.bytes)

abbrev pub decreases-loop-rest : goal.decreases-loop-rest
decreases-loop-rest l = length l.rest
