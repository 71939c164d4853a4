use Rattle.std.proofs.Common.{◌∙◌, sym}
use Rattle.avs_held.proofs.Counted.{count_is}
use Rattle.avs_held.proofs.held.HeldSet.back.Goals as goal

pub returns-clause-counted : goal.returns-clause-counted
returns-clause-counted g c = rw (← c.self.view_is) (c.back.ensures.counted ∙ sym (count_is c.self.inside.chunks 3))
