use Rattle.std.proofs.Common.{sym, subst, map}
use Rattle.avs_halves.specs.Over.{IsOver}
use Rattle.avs_sender.specs.Held.{SenderHalf}
use Rattle.avs_sender.specs.PartsView.{seen_parts}
use Rattle.avs_sender.specs.SenderView.{set_places}
use Rattle.avs_sender.proofs.Askings.{parts_there}
use Rattle.avs_sender.proofs.Loadings.{kept, loads, over}
use Rattle.avs_sender.proofs.sender.Sender.load.Goals as goal

pub open-requires-clause-volumes : goal.open-requires-clause-volumes
open-requires-clause-volumes g c = parts_there (seen_parts g.D.Disk.seen g.B.Below.seen c.args.parts) c.requires.loadable

pub found-requires-clause-kept : goal.found-requires-clause-kept
found-requires-clause-kept g c =
    let is = rw (c.note.ensures) at c.in-Ok.ensures.ok in
    kept (seen_parts g.D.Disk.seen g.B.Below.seen c.args.parts) c.args.limits c.in-Ok.note c.in-Ok-open.opened.sets (map set_places c.in-Ok-open.opened.tracked.items) c.in-Ok-open.opened.queue c.requires.loadable is c.in-Ok-open.ensures.opens

pub invariant_of-result : goal.invariant_of-result
invariant_of-result g c =
    let is = rw (c.note.ensures) at c.in-Ok.ensures.ok in
    subst (λ (h : SenderHalf). IsOver (g.B.Below.seen c.args.parts.below) h.sets) (sym c.found.ensures)
    (over (seen_parts g.D.Disk.seen g.B.Below.seen c.args.parts) c.args.limits c.in-Ok.note c.in-Ok-open.opened.sets (map set_places c.in-Ok-open.opened.tracked.items) c.in-Ok-open.opened.queue c.requires.loadable is c.in-Ok-open.ensures.opens)

pub returns-in-Ok-open-clause-loads : goal.returns-in-Ok-open-clause-loads
returns-in-Ok-open-clause-loads g c =
    let is = rw (c.note.ensures) at c.in-Ok.ensures.ok in
    rw (c.found.ensures)
    (loads (seen_parts g.D.Disk.seen g.B.Below.seen c.args.parts) c.args.limits c.in-Ok.note c.in-Ok-open.opened.sets (map set_places c.in-Ok-open.opened.tracked.items) c.in-Ok-open.opened.queue c.requires.loadable is c.in-Ok-open.ensures.opens (g.B.Below.IsSound c.args.parts.below))
