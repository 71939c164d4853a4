use Rattle.std.proofs.Common.{◌∙◌}
use Rattle.avs_chunks.proofs.Quarters.{set_now, set_others}
use Rattle.avs_chunks.proofs.states.set_state.Goals as goal

pub returns-clause-now : goal.returns-clause-now
returns-clause-now c = set_now c.args.bytes.now c.args.chunk c.with_quarter.result c.requires _ (c.with_quarter.ensures.now ∙ c.code.ensures.is)

pub returns-clause-others : goal.returns-clause-others
returns-clause-others c = set_others c.args.bytes.now c.args.chunk c.with_quarter.result c.requires c.with_quarter.ensures.others
