use Rattle.std.proofs.Common.{◌≡◌, ◌-◌, ◌*◌, length, min}
use Rattle.avs_world.specs.Views.{view_of}
use Rattle.avs_world.specs.declared.ranges.TheConstants.{PIECE}
use Rattle.avs_world.proofs.Pieces.{ReadSoFar}
use Rattle.avs_world.proofs.world.World.read_runs.Given as goal

abbrev pub invariant-loop-done : goal.invariant-loop-done
invariant-loop-done g l =
    ReadSoFar (view_of g.D.Disk.seen l.initial.self) l.target l.at l.len l.done l.runs (view_of g.D.Disk.seen l.self)
    × (length l.piece ≡ 512 * min l.len PIECE)
    × (l.self.up ≡ l.initial.self.up)
    × (l.self.stopped ≡ l.initial.self.stopped)

abbrev pub decreases-loop-done : goal.decreases-loop-done
decreases-loop-done g l = l.len - l.done
