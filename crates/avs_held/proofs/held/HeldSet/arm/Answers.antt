use Rattle.avs_held.proofs.Armed.{arms_set, room_armed}
use Rattle.avs_held.proofs.held.HeldSet.arm.Goals as goal

pub invariant_of-self : goal.invariant_of-self
invariant_of-self g c = room_armed c.self.inside.seat c.self.inside.chunks c.arm.new.self c.args.disk c.args.tear c.arm.result c.arm.ensures c.self.invariant

pub returns : goal.returns
returns g c = rw (← c.self.view_is) (arms_set c.self.inside.seat c.self.inside.chunks c.arm.new.self c.args.disk c.args.tear c.arm.result c.arm.ensures)
