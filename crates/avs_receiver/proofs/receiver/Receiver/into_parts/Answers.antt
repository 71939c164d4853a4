use Rattle.std.proofs.Common.{rules, ◌≡◌, sym, subst}
use Rattle.avs_mirrors.specs.Half.{left_receiver}
use Rattle.avs_halves.specs.Over.{IsOver}
use Rattle.avs_receiver.specs.Held.{ReceiverOf, ReceiverParts, parts_of, seen_of}
use Rattle.avs_receiver.specs.Meaning.{Finds, receiver_of}
use Rattle.avs_receiver.specs.PartsView.{seen_parts}
use Rattle.avs_receiver.proofs.Meanings.{finds_left}
use Rattle.avs_receiver.proofs.receiver.Receiver.into_parts.Goals as goal

pub returns-clause-found : goal.returns-clause-found
returns-clause-found g c = λ st kept.
    let same : seen_parts g.D.Disk.seen g.B.Below.seen (record { host = c.half.inside.host; below = c.self.inside.below; sets = c.into_sets.result; queue = c.half.inside.queue; land = c.into_disk.result }) ≡ parts_of (seen_of g.B.Below.seen c.args.self) = search rules in
    let over : IsOver (g.B.Below.seen c.args.self.below) c.args.self.half.sets = subst (λ (r : ReceiverOf g.row.B.Denot). IsOver (g.B.Below.seen r.below) r.half.sets) c.self.view_is c.self.invariant in
    subst (λ (p : ReceiverParts). Finds p (left_receiver (receiver_of kept (seen_of g.B.Below.seen c.args.self)))) (sym same)
    (finds_left (g.B.Below.IsSound c.args.self.below) (g.B.Below.seen c.args.self.below) c.args.self.half over st kept)
