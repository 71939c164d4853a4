use Rattle.avs_pair.proofs.Steps.{step_allowed, steps_allowed}
use Rattle.avs_pair.proofs.events_are_moves.Goals as goal

pub returns-clause-one : goal.returns-clause-one
returns-clause-one c = step_allowed

pub returns-clause-all : goal.returns-clause-all
returns-clause-all c = steps_allowed
