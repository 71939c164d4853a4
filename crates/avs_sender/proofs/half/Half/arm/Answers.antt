use Rattle.std.proofs.Common.{map}
use Rattle.avs_sender.specs.SenderView.{set_places}
use Rattle.avs_sender.proofs.Arming.{arms_kept}
use Rattle.avs_sender.proofs.half.Half.arm.Goals as goal

pub invariant_of-self-2 : goal.invariant_of-self-2
invariant_of-self-2 g c = (
  arms_kept (record {
    host = c.self.inside.host;
    sets = c.self.inside.sets;
    places = map set_places c.self.inside.tracked.items;
    land = g.D.Disk.seen c.self.inside.land;
    note = c.self.inside.note;
    session = c.self.inside.session;
    queue = c.self.inside.queue;
  }) c.args.disk c.args.tear c.arm-2.result c.arm-2.new.self c.arm-2.ensures c.self.invariant.0,
  c.self.invariant.1,
)
