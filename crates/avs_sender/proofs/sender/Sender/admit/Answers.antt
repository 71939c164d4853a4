use Rattle.std.proofs.Common.{◌≡◌, inl, inr, true, sym, arith}
use Rattle.avs_mirrors.specs.Half.{is_session}
use Rattle.avs_halves.specs.SetBits.{set_at}
use Rattle.avs_halves.specs.Found.{is_filled}
use Rattle.avs_sender.proofs.Admittings.{has_no_entry, has_no_room, has_room, made_over, may_place_made}
use Rattle.avs_sender.proofs.sender.Sender.admit.Goals as goal

pub returns-in-Some-clause-admits : goal.returns-in-Some-clause-admits
returns-in-Some-clause-admits g c =
    let there = rw (← c.self.view_is) at c.requires.set in
    let on : is_session c.self.inside.half.session.state ≡ true = grind arith in
    let full : is_filled c.self.inside.half.note.empty (set_at c.self.inside.half.sets c.args.set).slot ≡ true = grind arith in
    rw (← c.self.view_is) (inl (inr (inl (has_no_room (g.B.Below.seen c.self.inside.below) c.self.inside.half c.args.set c.args.at c.args.bytes.now on there full c.in-Some.full c.refuse_full.result c.refuse_full.ensures c.in-Some.ensures.numbers (sym c.in-Some.ensures.full)))))

pub returns-in-Err-make_write-clause-admits : goal.returns-in-Err-make_write-clause-admits
returns-in-Err-make_write-clause-admits g c =
    let there = rw (← c.self.view_is) at c.requires.set in
    let on : is_session c.self.inside.half.session.state ≡ true = grind arith in
    let full : is_filled c.self.inside.half.note.empty (set_at c.self.inside.half.sets c.args.set).slot ≡ true = grind arith in
    rw (← c.self.view_is) (inl (inr (inr (has_no_entry (g.B.Below.seen c.self.inside.below) c.self.inside.half c.args.set c.args.at c.args.bytes.now on there full (sym c.in_default.ensures.full)))))

pub place-requires-clause-may : goal.place-requires-clause-may
place-requires-clause-may g c =
    let there = rw (← c.self.view_is) at c.requires.set in
    let on : is_session c.self.inside.half.session.state ≡ true = grind arith in
    let full : is_filled c.self.inside.half.note.empty (set_at c.self.inside.half.sets c.args.set).slot ≡ true = grind arith in
    rw (← c.self.view_is) (may_place_made (g.B.Below.seen c.self.inside.below) c.self.inside.half c.args.set c.args.at c.args.bytes.now on there full (sym c.in_default.ensures.full) c.in-Ok-make_write.entry c.in-Ok-make_write.ensures)

pub place-requires-clause-room : goal.place-requires-clause-room
place-requires-clause-room g c =
    let there = rw (← c.self.view_is) at c.requires.set in
    let place = rw (← c.self.view_is) at c.requires.place in
    let on : is_session c.self.inside.half.session.state ≡ true = grind arith in
    let full : is_filled c.self.inside.half.note.empty (set_at c.self.inside.half.sets c.args.set).slot ≡ true = grind arith in
    rw (← c.self.view_is) (has_room (g.B.Below.seen c.self.inside.below) c.self.inside.half c.args.set c.args.at c.args.bytes.now on there full (sym c.in_default.ensures.full) c.in-Ok-make_write.entry c.in-Ok-make_write.ensures (place on))

pub place-requires-clause-over : goal.place-requires-clause-over
place-requires-clause-over g c =
    let there = rw (← c.self.view_is) at c.requires.set in
    let range = rw (← c.self.view_is) at c.requires.range in
    rw (← c.self.view_is) (made_over (g.B.Below.seen c.self.inside.below) c.self.inside.half c.args.set c.args.at c.args.bytes.now c.in-Ok-make_write.entry c.in-Ok-make_write.ensures c.self.invariant there range)
