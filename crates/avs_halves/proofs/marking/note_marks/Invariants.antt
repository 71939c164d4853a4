use Rattle.std.proofs.Common.{true, take, Ok}
use Rattle.avs_seg.specs.declared.fault.Failed.{Failed}
use Rattle.avs_halves.specs.Changing.{ChangesSets}
use Rattle.avs_halves.specs.Marks.{marked}
use Rattle.avs_halves.proofs.marking.note_marks.Given as goal

abbrev pub invariant-loop-set : goal.invariant-loop-set
invariant-loop-set g l = ChangesSets {T = Unit {0}} {E = Failed} (marked (take l.set-index l.marks)) true l.fn.sets (Ok tt) l.sets
