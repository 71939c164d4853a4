use Rattle.avs_pair.proofs.Stopping.{step_kept, steps_kept}
use Rattle.avs_pair.proofs.events_are_stages.Goals as goal

pub returns-clause-one : goal.returns-clause-one
returns-clause-one c = step_kept

pub returns-clause-all : goal.returns-clause-all
returns-clause-all c = steps_kept
