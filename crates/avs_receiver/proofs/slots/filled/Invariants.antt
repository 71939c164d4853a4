use Rattle.avs_receiver.proofs.Slotting.{Marked}
use Rattle.avs_receiver.proofs.slots.filled.Given as goal

abbrev pub invariant-loop-set : goal.invariant-loop-set
invariant-loop-set g l = Marked 0 l.sets l.fn.empty l.set l.slots
