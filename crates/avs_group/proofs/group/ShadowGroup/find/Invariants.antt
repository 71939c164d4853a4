use Rattle.avs_group.specs.Group.{group_of, seen}
use Rattle.avs_group.proofs.ByName.{NoneBelow}
use Rattle.avs_group.proofs.group.ShadowGroup.find.Given as goal

abbrev pub invariant-loop-place : goal.invariant-loop-place
invariant-loop-place g l = NoneBelow (group_of (seen l.fn.self)) l.slot l.place
