use Rattle.std.proofs.Common.{◌≡◌, ◌<◌, ◌∙◌, length, map, sym, ap, arith}
use Rattle.std.proofs.lemmas.List.{length-map, map-set}
use Rattle.std.proofs.lemmas.List.{get_or-map as within}
use Rattle.avs_sender.specs.Held.{SenderHalf}
use Rattle.avs_sender.specs.Meaning.{no_places}
use Rattle.avs_sender.specs.Places.{places_in}
use Rattle.avs_sender.specs.SenderView.{set_places}
use Rattle.avs_sender.proofs.PlacedCopies.{copies_kept, copies_placed}
use Rattle.avs_sender.proofs.half.Half.place_copy.Goals as goal

pub invariant_of-self : goal.invariant_of-self
invariant_of-self g c =
    let h : SenderHalf = record { host = c.self.inside.host; sets = c.self.inside.sets; places = map set_places c.self.inside.tracked.items; land = g.D.Disk.seen c.self.inside.land; note = c.self.inside.note; session = c.self.inside.session; queue = c.self.inside.queue } in
    let room = rw (← c.self.view_is) at c.requires.room in
    let over = rw (← c.self.view_is) at c.requires.over in
    let copy = rw (← c.self.view_is) at c.requires.copy in
    let there : c.args.entry.set < length c.self.inside.tracked.items = omega (arith, over.there, c.self.invariant.0.count, length-map c.self.inside.tracked.items set_places) in
    let is : places_in (map set_places c.self.inside.tracked.items) c.args.entry.set ≡ set_places c.index_mut-tracked.result.now =
    within set_places c.self.inside.tracked.items c.args.entry.set c.index_mut-tracked.result.now no_places there ∙ ap (λ t. set_places t) (sym c.index_mut-tracked.ensures.value) in
    copies_kept h c.self.inside.writes c.args.entry c.args.seg c.args.span.at c.args.span.len c.self.invariant room over copy (set_places c.index_mut-tracked.result.now) c.add.new.self c.remove.new.self _ c.placed-self-inside.result c.add-2.new.self
    is c.remove.ensures c.add.ensures c.add-2.ensures.pushes c.placed-self-inside.ensures (map-set set_places c.self.inside.tracked.items c.args.entry.set (record { touched = c.add.new.self; waiting = c.remove.new.self }))

pub returns-clause-copied : goal.returns-clause-copied
returns-clause-copied g c =
    let h : SenderHalf = record { host = c.self.inside.host; sets = c.self.inside.sets; places = map set_places c.self.inside.tracked.items; land = g.D.Disk.seen c.self.inside.land; note = c.self.inside.note; session = c.self.inside.session; queue = c.self.inside.queue } in
    let room = rw (← c.self.view_is) at c.requires.room in
    let over = rw (← c.self.view_is) at c.requires.over in
    let copy = rw (← c.self.view_is) at c.requires.copy in
    let there : c.args.entry.set < length c.self.inside.tracked.items = omega (arith, over.there, c.self.invariant.0.count, length-map c.self.inside.tracked.items set_places) in
    let is : places_in (map set_places c.self.inside.tracked.items) c.args.entry.set ≡ set_places c.index_mut-tracked.result.now =
    within set_places c.self.inside.tracked.items c.args.entry.set c.index_mut-tracked.result.now no_places there ∙ ap (λ t. set_places t) (sym c.index_mut-tracked.ensures.value) in
    rw (← c.self.view_is) (copies_placed h c.self.inside.writes c.args.entry c.args.seg c.args.span.at c.args.span.len c.self.invariant room over copy (set_places c.index_mut-tracked.result.now) c.add.new.self c.remove.new.self _ c.placed-self-inside.result c.add-2.new.self
    is c.remove.ensures c.add.ensures c.add-2.ensures.pushes c.placed-self-inside.ensures (map-set set_places c.self.inside.tracked.items c.args.entry.set (record { touched = c.add.new.self; waiting = c.remove.new.self })))
