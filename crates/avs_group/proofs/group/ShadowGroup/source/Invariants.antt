use Rattle.avs_group.specs.Group.{group_of, seen}
use Rattle.avs_group.proofs.Picks.{NoneBack}
use Rattle.avs_group.proofs.group.ShadowGroup.source.Given as goal

abbrev pub invariant-loop-place : goal.invariant-loop-place
invariant-loop-place g l = NoneBack (group_of (seen l.fn.self)) l.volume l.chunk l.place
