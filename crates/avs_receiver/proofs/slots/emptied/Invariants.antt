use Rattle.avs_receiver.proofs.Slotting.{Marked}
use Rattle.avs_receiver.proofs.slots.emptied.Given as goal

abbrev pub invariant-loop-set : goal.invariant-loop-set
invariant-loop-set g l = Marked 1 l.sets l.fn.empty l.set l.slots
