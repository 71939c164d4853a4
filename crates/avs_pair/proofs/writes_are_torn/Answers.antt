use Rattle.avs_pair.proofs.Torn.{dropped_torn, source_torn, target_torn}
use Rattle.avs_pair.proofs.writes_are_torn.Goals as goal

pub returns-clause-source : goal.returns-clause-source
returns-clause-source c = source_torn

pub returns-clause-target : goal.returns-clause-target
returns-clause-target c = target_torn

pub returns-clause-dropped : goal.returns-clause-dropped
returns-clause-dropped c = dropped_torn
