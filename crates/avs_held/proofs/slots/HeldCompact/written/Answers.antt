use Rattle.std.proofs.Common.{◌∙◌}
use Rattle.avs_held.proofs.SlotArmed.{written_is}
use Rattle.avs_held.proofs.slots.HeldCompact.written.Goals as goal

pub returns : goal.returns
returns g c = rw (← c.self.view_is) (c.written.ensures ∙ written_is c.self.inside.seat c.self.inside.compact c.args.disk)
