use Rattle.std.proofs.Common.{true, take, Ok}
use Rattle.avs_seg.specs.declared.fault.Failed.{Failed}
use Rattle.avs_halves.specs.Changing.{ChangesSets, keys_of}
use Rattle.avs_halves.specs.Marks.{in_list}
use Rattle.avs_halves.proofs.marking.note_list.Given as goal

abbrev pub invariant-loop-seg : goal.invariant-loop-seg
invariant-loop-seg g l = ChangesSets {T = Unit {0}} {E = Failed} (keys_of l.set (in_list (take l.seg-index l.list))) true l.fn.sets (Ok tt) l.sets
