use Rattle.avs_chunk.proofs.Quarters.{quarter_is}
use Rattle.avs_chunk.proofs.states.quarter.Goals as goal

pub returns : goal.returns
returns c = quarter_is c.args.byte c.args.place
