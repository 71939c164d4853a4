use Rattle.std.proofs.Common.{◌∙◌, sym}
use Rattle.avs_held.proofs.Counted.{left_is}
use Rattle.avs_held.proofs.held.HeldSet.left.Goals as goal

pub returns-clause-counted : goal.returns-clause-counted
returns-clause-counted g c = rw (← c.self.view_is) (c.left.ensures.counted ∙ sym (left_is c.self.inside.chunks c.self.inside.chunks.kind))
