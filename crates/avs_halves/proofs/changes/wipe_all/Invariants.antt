use Rattle.std.proofs.Common.{false, map}
use Rattle.avs_halves.specs.MirrorView.{set_bits}
use Rattle.avs_halves.specs.Changing.{every}
use Rattle.avs_halves.proofs.Changed.{SoFar}
use Rattle.avs_halves.proofs.changes.wipe_all.Given as goal

abbrev pub invariant-loop-i : goal.invariant-loop-i
invariant-loop-i g l = SoFar (every (map set_bits l.fn.sets)) false (map set_bits l.fn.sets) l.i (map set_bits l.sets)
