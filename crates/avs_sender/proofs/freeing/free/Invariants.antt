use Rattle.avs_refs.specs.Places.{touched_count}
use Rattle.avs_sender.specs.SenderView.{set_places}
use Rattle.avs_sender.specs.Freeing.{FreesSoFar}
use Rattle.avs_sender.proofs.freeing.free.Given as goal

abbrev pub invariant-loop-seg : goal.invariant-loop-seg
invariant-loop-seg g l = FreesSoFar l.set l.copying l.fn.sets (set_places l.fn.tracked) l.upto l.sets (set_places l.tracked)

abbrev pub decreases-loop-seg : goal.decreases-loop-seg
decreases-loop-seg g l = touched_count l.tracked.touched
