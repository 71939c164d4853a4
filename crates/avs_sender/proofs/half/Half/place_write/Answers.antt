use Rattle.std.proofs.Common.{◌≡◌, ◌<◌, ◌∙◌, length, map, sym, ap, arith}
use Rattle.std.proofs.lemmas.List.{length-map, map-set}
use Rattle.std.proofs.lemmas.List.{get_or-map as within}
use Rattle.avs_sender.specs.Held.{SenderHalf}
use Rattle.avs_sender.specs.Meaning.{no_places}
use Rattle.avs_sender.specs.Places.{places_in}
use Rattle.avs_sender.specs.SenderView.{set_places}
use Rattle.avs_sender.proofs.PlacedWrites.{rises, room_left, stops_kept, stops_placed, writes_kept, writes_placed}
use Rattle.avs_sender.proofs.half.Half.place_write.Goals as goal

pub invariant_of-self : goal.invariant_of-self
invariant_of-self g c =
    let h : SenderHalf = record { host = c.self.inside.host; sets = c.self.inside.sets; places = map set_places c.self.inside.tracked.items; land = g.D.Disk.seen c.self.inside.land; note = c.self.inside.note; session = c.self.inside.session; queue = c.self.inside.queue } in
    let room = rw (← c.self.view_is) at c.requires.room in
    let over = rw (← c.self.view_is) at c.requires.over in
    stops_kept h c.self.inside.writes c.args.entry c.args.span.at c.args.span.len c.segments-first.result.0 c.segments-first.result.1 c.self.invariant room over c.segments-first.ensures.first c.segments-first.ensures.count
    c.note.new.self c.left-self-inside.result c.advance.new.self c.in-Err.field-0 c.in-Err.ensures c.advance.ensures.advances c.left-self-inside.ensures

pub returns-in-Err : goal.returns-in-Err
returns-in-Err g c =
    let h : SenderHalf = record { host = c.self.inside.host; sets = c.self.inside.sets; places = map set_places c.self.inside.tracked.items; land = g.D.Disk.seen c.self.inside.land; note = c.self.inside.note; session = c.self.inside.session; queue = c.self.inside.queue } in
    let room = rw (← c.self.view_is) at c.requires.room in
    let over = rw (← c.self.view_is) at c.requires.over in
    rw (← c.self.view_is) (stops_placed h c.self.inside.writes c.args.entry c.args.span.at c.args.span.len c.segments-first.result.0 c.segments-first.result.1 c.self.invariant room over c.segments-first.ensures.first c.segments-first.ensures.count
    c.note.new.self c.left-self-inside.result c.advance.new.self c.in-Err.field-0 c.in-Err.ensures c.advance.ensures.advances c.left-self-inside.ensures)

pub add-requires-clause-rises : goal.add-requires-clause-rises
add-requires-clause-rises g c =
    let h : SenderHalf = record { host = c.self.inside.host; sets = c.self.inside.sets; places = map set_places c.self.inside.tracked.items; land = g.D.Disk.seen c.self.inside.land; note = c.self.inside.note; session = c.self.inside.session; queue = c.self.inside.queue } in
    let room = rw (← c.self.view_is) at c.requires.room in
    let over = rw (← c.self.view_is) at c.requires.over in
    let there : c.args.entry.set < length c.self.inside.tracked.items = omega (arith, over.there, c.self.invariant.0.count, length-map c.self.inside.tracked.items set_places) in
    let is : places_in (map set_places c.self.inside.tracked.items) c.args.entry.set ≡ set_places c.index_mut.result.now =
    within set_places c.self.inside.tracked.items c.args.entry.set c.index_mut.result.now no_places there ∙ ap (λ t. set_places t) (sym c.index_mut.ensures.value) in
    rises h c.args.entry (set_places c.index_mut.result.now) c.self.invariant.0 room over.there is

pub add-requires-clause-room : goal.add-requires-clause-room
add-requires-clause-room g c =
    let h : SenderHalf = record { host = c.self.inside.host; sets = c.self.inside.sets; places = map set_places c.self.inside.tracked.items; land = g.D.Disk.seen c.self.inside.land; note = c.self.inside.note; session = c.self.inside.session; queue = c.self.inside.queue } in
    let room = rw (← c.self.view_is) at c.requires.room in
    let over = rw (← c.self.view_is) at c.requires.over in
    let there : c.args.entry.set < length c.self.inside.tracked.items = omega (arith, over.there, c.self.invariant.0.count, length-map c.self.inside.tracked.items set_places) in
    let is : places_in (map set_places c.self.inside.tracked.items) c.args.entry.set ≡ set_places c.index_mut.result.now =
    within set_places c.self.inside.tracked.items c.args.entry.set c.index_mut.result.now no_places there ∙ ap (λ t. set_places t) (sym c.index_mut.ensures.value) in
    room_left h c.args.entry (set_places c.index_mut.result.now) c.self.invariant.0 room over.there is

pub invariant_of-self-2 : goal.invariant_of-self-2
invariant_of-self-2 g c =
    let h : SenderHalf = record { host = c.self.inside.host; sets = c.self.inside.sets; places = map set_places c.self.inside.tracked.items; land = g.D.Disk.seen c.self.inside.land; note = c.self.inside.note; session = c.self.inside.session; queue = c.self.inside.queue } in
    let room = rw (← c.self.view_is) at c.requires.room in
    let over = rw (← c.self.view_is) at c.requires.over in
    let there : c.args.entry.set < length c.self.inside.tracked.items = omega (arith, over.there, c.self.invariant.0.count, length-map c.self.inside.tracked.items set_places) in
    let is : places_in (map set_places c.self.inside.tracked.items) c.args.entry.set ≡ set_places c.index_mut.result.now =
    within set_places c.self.inside.tracked.items c.args.entry.set c.index_mut.result.now no_places there ∙ ap (λ t. set_places t) (sym c.index_mut.ensures.value) in
    writes_kept h c.self.inside.writes c.args.entry c.args.span.at c.args.span.len c.segments-first.result.0 c.segments-first.result.1 c.self.invariant room over c.segments-first.ensures.first c.segments-first.ensures.count
    c.note.new.self c.placed-self-inside.result c.add-2.new.self (set_places c.index_mut.result.now) c.add.new.self _ c.in_default.field-0 is c.in_default.ensures c.add.ensures c.add-2.ensures.pushes c.placed-self-inside.ensures
    (map-set set_places c.self.inside.tracked.items c.args.entry.set (record { touched = c.add.new.self; waiting = c.index_mut.result.now.waiting }))

pub returns : goal.returns
returns g c =
    let h : SenderHalf = record { host = c.self.inside.host; sets = c.self.inside.sets; places = map set_places c.self.inside.tracked.items; land = g.D.Disk.seen c.self.inside.land; note = c.self.inside.note; session = c.self.inside.session; queue = c.self.inside.queue } in
    let room = rw (← c.self.view_is) at c.requires.room in
    let over = rw (← c.self.view_is) at c.requires.over in
    let there : c.args.entry.set < length c.self.inside.tracked.items = omega (arith, over.there, c.self.invariant.0.count, length-map c.self.inside.tracked.items set_places) in
    let is : places_in (map set_places c.self.inside.tracked.items) c.args.entry.set ≡ set_places c.index_mut.result.now =
    within set_places c.self.inside.tracked.items c.args.entry.set c.index_mut.result.now no_places there ∙ ap (λ t. set_places t) (sym c.index_mut.ensures.value) in
    rw (← c.self.view_is) (writes_placed h c.self.inside.writes c.args.entry c.args.span.at c.args.span.len c.segments-first.result.0 c.segments-first.result.1 c.self.invariant room over c.segments-first.ensures.first c.segments-first.ensures.count
    c.note.new.self c.placed-self-inside.result c.add-2.new.self (set_places c.index_mut.result.now) c.add.new.self _ c.in_default.field-0 is c.in_default.ensures c.add.ensures c.add-2.ensures.pushes c.placed-self-inside.ensures
    (map-set set_places c.self.inside.tracked.items c.args.entry.set (record { touched = c.add.new.self; waiting = c.index_mut.result.now.waiting })))
