use Rattle.std.proofs.Common.{map}
use Rattle.avs_sender.specs.SenderView.{set_places}
use Rattle.avs_sender.proofs.Trackings.{SetsWaitBelow}
use Rattle.avs_sender.proofs.tracking.wait_all.Given as goal

abbrev pub invariant-loop-set : goal.invariant-loop-set
invariant-loop-set g l = SetsWaitBelow l.sets l.set (map set_places l.fn.tracked.items) (map set_places l.tracked.items)
