use Rattle.std.proofs.Common.{rules, ◌≡◌, None, map}
use Rattle.avs_sender.specs.Held.{SenderHalf, parts_of, held}
use Rattle.avs_sender.specs.PartsView.{seen_parts}
use Rattle.avs_sender.specs.SenderView.{set_places}
use Rattle.avs_sender.proofs.Leavings.{found_parts}
use Rattle.avs_sender.proofs.sender.Sender.into_parts.Goals as goal

pub returns-clause-found : goal.returns-clause-found
returns-clause-found g c =
    let inside : SenderHalf = record {
      host = c.half.inside.host;
      sets = c.half.inside.sets;
      places = map set_places c.half.inside.tracked.items;
      land = g.D.Disk.seen c.half.inside.land;
      note = c.half.inside.note;
      session = c.half.inside.session;
      queue = c.half.inside.queue;
    } in
    let same : seen_parts g.D.Disk.seen g.B.Below.seen (record { host = c.half.inside.host; below = c.self.inside.below; sets = c.into_sets.result; queue = None; land = c.half.inside.land }) ≡ parts_of (held (g.B.Below.seen c.self.inside.below) inside) = search rules in
    found_parts g.B.Below.seen g.B.Below.IsSound c.self.inside.below inside c.self.inside.half c.args.self _ c.half.view_is c.self.view_is c.half.invariant.0 c.self.invariant same
