use Rattle.std.proofs.Common.{inl, inr, sym}
use Rattle.avs_sender.proofs.Copyings.{no_room}
use Rattle.avs_sender.proofs.sender.Sender.copy.Goals as goal

pub returns-in-Some-clause-syncs : goal.returns-in-Some-clause-syncs
returns-in-Some-clause-syncs g c =
    let may = rw (← c.self.view_is) at c.requires.may in
    let kept = rw (← c.self.view_is) at c.requires.kept in
    let first = rw (← c.self.view_is) at c.requires.first in
    let span = rw (← c.self.view_is) at c.span_of-span.ensures.span in
    rw (← c.self.view_is) (inl (inr (inl (no_room (g.B.Below.seen c.self.inside.below) c.self.inside.half kept c.self.invariant may c.args.waits.set c.args.waits.seg first c.span_of-span.result.at c.span_of-span.result.len span
    c.in-Some.full c.refuse_full.result c.refuse_full.ensures c.in-Some.ensures.numbers (sym c.in-Some.ensures.full)))))
