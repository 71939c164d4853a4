use Rattle.std.proofs.Common.{◌≡◌, ◌<◌, ◌∙◌, false, List, length, map, sym, ap, subst, arith}
use Rattle.std.proofs.Math.Seq.{map-set_same}
use Rattle.std.proofs.lemmas.List.{length-map}
use Rattle.std.proofs.lemmas.List.{get_or-map as within}
use Rattle.avs_sender.specs.Held.{SetPlaces}
use Rattle.avs_sender.specs.Meaning.{no_places}
use Rattle.avs_sender.specs.Places.{places_in}
use Rattle.avs_sender.specs.SenderView.{set_places}
use Rattle.avs_sender.specs.Waits.{waits_at}
use Rattle.avs_sender.proofs.PlacedCopies.{none_more}
use Rattle.avs_sender.proofs.copying.first_waiting.Goals as goal

pub loop-set-preserved : goal.loop-set-preserved
loop-set-preserved c =
    let kept = c.loop-set.invariant.kept in
    let count : length c.loop-set.tracked.items ≡ length c.args.tracked.now.items =
    sym (length-map c.loop-set.tracked.items set_places) ∙ ap (λ (l : List SetPlaces). length l) kept ∙ length-map c.args.tracked.now.items set_places in
    let there : c.loop-set.set < length c.loop-set.tracked.items = omega (arith, c.loop-set-test.true, c.len-set-end.ensures, count) in
    let is : places_in (map set_places c.loop-set.tracked.items) c.loop-set.set ≡ set_places c.index_mut.result.now =
    within set_places c.loop-set.tracked.items c.loop-set.set c.index_mut.result.now no_places there ∙ ap (λ t. set_places t) (sym c.index_mut.ensures.value) in
    record {
      kept = map-set_same set_places c.loop-set.tracked.items c.loop-set.set (record { touched = c.index_mut.result.now.touched; waiting = c.least.new.self }) c.index_mut.result.now
          (ap (λ w. record { touched = c.index_mut.result.now.touched; waiting = w }) c.in_default.ensures.kept ∙ ap (λ t. set_places t) c.index_mut.ensures.value) ∙ kept;
      before = none_more (map set_places c.args.tracked.now.items) c.loop-set.set c.loop-set.invariant.before
          (λ s. subst (λ (p : SetPlaces). waits_at p.waiting s ≡ false) (sym (ap (λ (l : List SetPlaces). places_in l c.loop-set.set) (sym kept) ∙ is)) (c.in_default.ensures.none s));
    }
