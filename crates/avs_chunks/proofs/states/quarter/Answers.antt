use Rattle.avs_chunks.proofs.Quarters.{quarter_is}
use Rattle.avs_chunks.proofs.states.quarter.Goals as goal

pub returns-clause-is : goal.returns-clause-is
returns-clause-is c = quarter_is c.args.byte c.args.place
