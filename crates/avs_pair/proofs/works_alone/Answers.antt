use Rattle.avs_pair.proofs.Apart.{source_alone, source_away, source_left, source_own, target_alone, target_left, target_own}
use Rattle.avs_pair.proofs.works_alone.Goals as goal

pub returns-clause-source : goal.returns-clause-source
returns-clause-source c = source_alone

pub returns-clause-away : goal.returns-clause-away
returns-clause-away c = source_away

pub returns-clause-target : goal.returns-clause-target
returns-clause-target c = target_alone

pub returns-clause-own_source : goal.returns-clause-own_source
returns-clause-own_source c = source_own

pub returns-clause-own_target : goal.returns-clause-own_target
returns-clause-own_target c = target_own

pub returns-clause-left_source : goal.returns-clause-left_source
returns-clause-left_source c = source_left

pub returns-clause-left_target : goal.returns-clause-left_target
returns-clause-left_target c = target_left
