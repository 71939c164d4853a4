use Rattle.avs_chunk.proofs.Quarters.{set_now, set_others}
use Rattle.avs_chunk.proofs.states.set_state.Goals as goal

pub returns-clause-now : goal.returns-clause-now
returns-clause-now c = set_now c.args.bytes.now c.args.chunk c.with_quarter.result c.requires.inside c.args.state c.with_quarter.ensures.now

pub returns-clause-others : goal.returns-clause-others
returns-clause-others c = set_others c.args.bytes.now c.args.chunk c.with_quarter.result c.requires.inside c.with_quarter.ensures.others
