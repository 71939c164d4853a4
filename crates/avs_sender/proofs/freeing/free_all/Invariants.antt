use Rattle.std.proofs.Common.{map}
use Rattle.avs_sender.specs.SenderView.{set_places}
use Rattle.avs_sender.specs.Freeing.{FreesBelow}
use Rattle.avs_sender.proofs.freeing.free_all.Given as goal

abbrev pub invariant-loop-set : goal.invariant-loop-set
invariant-loop-set g l = FreesBelow l.copying l.fn.sets (map set_places l.fn.tracked) l.upto l.set l.sets (map set_places l.tracked)
