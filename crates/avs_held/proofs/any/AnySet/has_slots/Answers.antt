use Rattle.avs_held.proofs.any.AnySet.has_slots.Goals as goal

pub returns-in-Compact-clause-has : goal.returns-in-Compact-clause-has
returns-in-Compact-clause-has g c = rw c.in-Compact.is c.has_slots.ensures.has

pub returns-in-Compact-clause-lacks : goal.returns-in-Compact-clause-lacks
returns-in-Compact-clause-lacks g c = rw c.in-Compact.is c.has_slots.ensures.lacks
