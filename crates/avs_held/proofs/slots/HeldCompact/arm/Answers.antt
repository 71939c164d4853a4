use Rattle.avs_held.proofs.SlotArmed.{arms_set, seated_armed}
use Rattle.avs_held.proofs.slots.HeldCompact.arm.Goals as goal

pub invariant_of-self : goal.invariant_of-self
invariant_of-self g c = seated_armed c.self.inside.seat c.self.inside.compact c.arm.new.self c.args.disk c.args.tear c.arm.result c.arm.ensures c.self.invariant

pub returns : goal.returns
returns g c = rw (← c.self.view_is) (arms_set c.self.inside.seat c.self.inside.compact c.arm.new.self c.args.disk c.args.tear c.arm.result c.arm.ensures)
