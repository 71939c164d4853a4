use Rattle.std.proofs.Common.{refl, sym, ◌∙◌}
use Rattle.avs_ii.proofs.OpenSets.{back_none, none_back}
use Rattle.avs_ii.proofs.held.settled.Goals as goal

pub returns-then-back-eq0-clause-settled : goal.returns-then-back-eq0-clause-settled
returns-then-back-eq0-clause-settled g c = (refl, back_none c.args.chunks (sym c.back.ensures.counted ∙ c.if-back-eq0.true))

pub returns-clause-refused : goal.returns-clause-refused
returns-clause-refused g c = (refl, λ s. c.if-back-eq0.false (c.back.ensures.counted ∙ none_back c.args.chunks s))
