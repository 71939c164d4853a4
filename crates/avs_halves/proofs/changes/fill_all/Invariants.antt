use Rattle.std.proofs.Common.{true, map}
use Rattle.avs_halves.specs.MirrorView.{set_bits}
use Rattle.avs_halves.specs.Changing.{every}
use Rattle.avs_halves.proofs.Changed.{SoFar}
use Rattle.avs_halves.proofs.changes.fill_all.Given as goal

abbrev pub invariant-loop-i : goal.invariant-loop-i
invariant-loop-i g l = SoFar (every (map set_bits l.fn.sets)) true (map set_bits l.fn.sets) l.i (map set_bits l.sets)
