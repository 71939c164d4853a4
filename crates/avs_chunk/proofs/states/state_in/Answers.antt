use Rattle.std.proofs.Common.{◌∙◌, subst, sym, ◌<◌, ℕ}
use Rattle.avs_chunk.proofs.Quarters.{state_in_is, quarter_small}
use Rattle.avs_chunk.proofs.states.state_in.Goals as goal

pub returns-clause-is : goal.returns-clause-is
returns-clause-is c = c.quarter.ensures ∙ state_in_is c.args.bytes.now c.args.chunk

pub returns-clause-small : goal.returns-clause-small
returns-clause-small c = subst (λ (k : ℕ). k < 4) (sym c.quarter.ensures) (quarter_small _ _)
