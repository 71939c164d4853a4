use Rattle.std.proofs.Common.{map}
use Rattle.avs_sender.specs.Held.{SenderHalf}
use Rattle.avs_sender.specs.SenderView.{set_places}
use Rattle.avs_sender.proofs.Beginnings.{entered_kept}
use Rattle.avs_sender.proofs.half.Half.enter.Goals as goal

pub invariant_of-self : goal.invariant_of-self
invariant_of-self g c =
    let h : SenderHalf = record {
      host = c.self.inside.host;
      sets = c.self.inside.sets;
      places = map set_places c.self.inside.tracked.items;
      land = g.D.Disk.seen c.self.inside.land;
      note = c.self.inside.note;
      session = c.self.inside.session;
      queue = c.self.inside.queue;
    } in
    let away = rw (← c.self.view_is) at c.requires.away in
    let note = rw (← c.self.view_is) at c.requires.note in
    let places = rw (← c.self.view_is) at c.requires.places in
    let waits = rw (places) at c.wait_all.ensures in
    (entered_kept h c.args.note c.begin-self-inside.result (map set_places c.wait_all.new.tracked.items) c.self.invariant.0 away waits c.requires.keeps note c.begin-self-inside.ensures, c.self.invariant.1)
