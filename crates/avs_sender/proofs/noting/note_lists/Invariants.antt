use Rattle.std.proofs.Common.{true, Ok}
use Rattle.avs_seg.specs.declared.fault.Failed.{Failed}
use Rattle.avs_halves.specs.Changing.{ChangesSets}
use Rattle.avs_sender.proofs.Notings.{lists_below}
use Rattle.avs_sender.proofs.noting.note_lists.Given as goal

abbrev pub invariant-loop-set : goal.invariant-loop-set
invariant-loop-set g l = ChangesSets {T = Unit {0}} {E = Failed} (lists_below l.lists l.set) true l.fn.sets (Ok tt) l.sets
