use Rattle.std.proofs.Common.{take}
use Rattle.avs_halves.specs.Marks.{AreNamedFilled}
use Rattle.avs_halves.proofs.marking.filled_slots.Given as goal

abbrev pub invariant-loop-set : goal.invariant-loop-set
invariant-loop-set g l = AreNamedFilled l.sets (take l.set-index l.marks) l.fn.empty l.slots
