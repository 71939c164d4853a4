use Rattle.avs_pair.proofs.AtRest.{rest_changed, rest_put}
use Rattle.avs_pair.proofs.rests_are_written.Goals as goal

pub returns-clause-image : goal.returns-clause-image
returns-clause-image c = rest_changed

pub returns-clause-entry : goal.returns-clause-entry
returns-clause-entry c = rest_put
