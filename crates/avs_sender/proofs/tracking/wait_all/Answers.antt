use Rattle.std.proofs.Common.{◌≡◌, ◌<◌, ◌+◌, List, length, map, sym, ap, subst, ◌∙◌, arith}
use Rattle.std.proofs.lemmas.List.{length-map, map-set}
use Rattle.std.proofs.lemmas.List.{get_or-map as within}
use Rattle.avs_sender.specs.Held.{SetPlaces}
use Rattle.avs_sender.specs.Meaning.{no_places}
use Rattle.avs_sender.specs.Places.{places_in}
use Rattle.avs_sender.specs.SenderView.{set_places}
use Rattle.avs_sender.proofs.Trackings.{SetsWaitBelow, sets_more}
use Rattle.avs_sender.proofs.tracking.wait_all.Goals as goal

pub loop-set-preserved : goal.loop-set-preserved
loop-set-preserved g c =
    let low : c.loop-set.set < length (map set_places c.loop-set.tracked.items) = omega (arith, c.loop-set.invariant.count, c.requires.none.count, c.loop-set-test.true, c.count-set-end.ensures) in
    let there : c.loop-set.set < length c.loop-set.tracked.items = omega (arith, low, length-map c.loop-set.tracked.items set_places) in
    let is : places_in (map set_places c.loop-set.tracked.items) c.loop-set.set ≡ set_places c.index_mut.result.now =
    within set_places c.loop-set.tracked.items c.loop-set.set c.index_mut.result.now no_places there ∙ ap (λ t. set_places t) (sym c.index_mut.ensures.value) in
    subst (λ (l : List SetPlaces). SetsWaitBelow c.args.sets.now (c.loop-set.set + 1) (map set_places c.args.tracked.now.items) l) (sym (map-set set_places c.loop-set.tracked.items c.loop-set.set c.wait.new.tracked))
    (sets_more c.args.sets.now c.loop-set.set (map set_places c.args.tracked.now.items) (map set_places c.loop-set.tracked.items) (set_places c.wait.new.tracked) low c.loop-set.invariant
    (c.wait.ensures.touched ∙ ap (λ (q : SetPlaces). q.touched) (sym is)) (c.wait.ensures.segs ∙ ap (λ (q : SetPlaces). length q.waiting) (sym is)) c.wait.ensures.waits)
