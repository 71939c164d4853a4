use Rattle.std.proofs.Common.{inl, inr, sym}
use Rattle.avs_sender.proofs.Copyings.{marks_is, mark_room, no_room_mark}
use Rattle.avs_sender.proofs.sender.Sender.mark.Goals as goal

pub returns-in-Some-clause-syncs : goal.returns-in-Some-clause-syncs
returns-in-Some-clause-syncs g c =
    let may = rw (← c.self.view_is) at c.requires.may in
    let kept = rw (← c.self.view_is) at c.requires.kept in
    let none = rw (← c.self.view_is) at c.requires.none in
    rw (← c.self.view_is) (inl (inr (inl (no_room_mark (g.B.Below.IsSound c.self.inside.below) (g.B.Below.seen c.self.inside.below) c.self.inside.half kept may none c.in-Some.full c.refuse_full.result c.refuse_full.ensures c.in-Some.ensures.numbers (sym c.in-Some.ensures.full)))))

pub place_mark-place-requires-clause-room : goal.place_mark-place-requires-clause-room
place_mark-place-requires-clause-room g c =
    let may = rw (← c.self.view_is) at c.requires.may in
    let kept = rw (← c.self.view_is) at c.requires.kept in
    let none = rw (← c.self.view_is) at c.requires.none in
    let place = rw (← c.self.view_is) at c.requires.place in
    mark_room (g.B.Below.IsSound c.self.inside.below) (g.B.Below.seen c.self.inside.below) c.self.inside.half kept may none c.make_mark.result c.make_mark.ensures place (sym c.in_default.ensures.full)

pub returns-clause-syncs : goal.returns-clause-syncs
returns-clause-syncs g c =
    let may = rw (← c.self.view_is) at c.requires.may in
    let kept = rw (← c.self.view_is) at c.requires.kept in
    let none = rw (← c.self.view_is) at c.requires.none in
    rw (← c.self.view_is, c.place_mark-place.ensures.place) (marks_is (g.B.Below.IsSound c.self.inside.below) (g.B.Below.seen c.self.inside.below) c.self.inside.half kept may none c.place_mark-place.new.self c.place_mark-place.ensures.marked (sym c.in_default.ensures.full))
