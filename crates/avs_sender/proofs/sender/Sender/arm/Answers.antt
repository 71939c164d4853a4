use Rattle.avs_sender.proofs.Arming.{arms_means}
use Rattle.avs_sender.proofs.sender.Sender.arm.Goals as goal

pub returns-clause-same : goal.returns-clause-same
returns-clause-same g c = rw (← c.self.view_is) (arms_means (g.B.Below.seen c.self.inside.below) c.self.inside.half c.arm.new.self c.args.disk c.args.tear c.arm.result c.arm.ensures)
