use Rattle.std.proofs.Common.{◌∙◌}
use Rattle.avs_chunks.proofs.Quarters.{state_in_is}
use Rattle.avs_chunks.proofs.states.state_in.Goals as goal

pub returns : goal.returns
returns c = c.of_code.ensures ∙ c.quarter.ensures.is ∙ state_in_is c.args.bytes.now c.args.chunk
