use Rattle.std.proofs.Common.{◌<◌, ◌+◌, List, length, map, get_or, sym, subst, arith}
use Rattle.std.proofs.lemmas.List.{map-set, length-map}
use Rattle.std.proofs.lemmas.Result.{err_from_is_err_and}
use Rattle.avs_sender.specs.Held.{SetPlaces}
use Rattle.avs_sender.specs.SenderView.{set_places}
use Rattle.avs_sender.specs.Freeing.{AreSizedAs, FreesBelow}
use Rattle.avs_sender.proofs.FreedSets.{all_sets, can_then, each_freed, more_freed, sized_all, sized_then, stops_freed, view_is, view_low}
use Rattle.avs_sender.proofs.freeing.free_all.Goals as goal

pub free-requires-clause-can : goal.free-requires-clause-can
free-requires-clause-can g c =
    let lt : c.loop-set.set < length c.loop-set.tracked = omega arith in
    can_then c.args.copying c.args.sets.now c.loop-set.sets (map set_places c.args.tracked.now) (map set_places c.loop-set.tracked) c.args.upto c.loop-set.set (set_places (get_or c.loop-set.tracked c.loop-set.set c.index-tracked-set.result))
    c.loop-set.invariant (view_is c.loop-set.tracked c.loop-set.set c.index-tracked-set.result lt) (c.requires.can c.loop-set.set (omega arith))

pub returns-in_err-free-clause-changes : goal.returns-in_err-free-clause-changes
returns-in_err-free-clause-changes g c =
    let p = err_from_is_err_and c.from_residual.result c.from_residual.ensures.1 in
    let lt : c.loop-set.set < length c.loop-set.tracked = omega arith in
    rw (p.1, p.2) (stops_freed c.args.copying c.args.sets.now (map set_places c.args.tracked.now) c.args.upto c.loop-set.set c.loop-set.sets (map set_places c.loop-set.tracked) c.loop-set.invariant
    (set_places (get_or c.loop-set.tracked c.loop-set.set c.index-tracked-set.result)) (view_is c.loop-set.tracked c.loop-set.set c.index-tracked-set.result lt) (view_low c.loop-set.tracked c.loop-set.set c.index-tracked-set.result lt) (set_places c.free.new.tracked)
    c.free.new.sets c.in_err-free.field-0.0 c.in_err-free.ensures.changes)

pub returns-in_err-free-clause-sized : goal.returns-in_err-free-clause-sized
returns-in_err-free-clause-sized g c =
    let lt : c.loop-set.set < length c.loop-set.tracked = omega arith in
    subst (AreSizedAs (map set_places c.args.tracked.now)) (sym (map-set set_places c.loop-set.tracked c.loop-set.set c.free.new.tracked))
    (sized_then c.args.copying c.args.sets.now (map set_places c.args.tracked.now) c.args.upto c.loop-set.set c.loop-set.sets (map set_places c.loop-set.tracked) c.loop-set.invariant
    (set_places (get_or c.loop-set.tracked c.loop-set.set c.index-tracked-set.result)) (view_is c.loop-set.tracked c.loop-set.set c.index-tracked-set.result lt) (view_low c.loop-set.tracked c.loop-set.set c.index-tracked-set.result lt) (set_places c.free.new.tracked)
    c.in_err-free.ensures.sized)

pub loop-set-preserved : goal.loop-set-preserved
loop-set-preserved g c =
    let lt : c.loop-set.set < length c.loop-set.tracked = omega arith in
    let P = λ (l : List SetPlaces). FreesBelow c.args.copying c.args.sets.now (map set_places c.args.tracked.now) c.args.upto (c.loop-set.set + 1) c.free.new.sets l in
    subst P (sym (map-set set_places c.loop-set.tracked c.loop-set.set c.free.new.tracked))
    (more_freed c.args.copying c.args.sets.now (map set_places c.args.tracked.now) c.args.upto c.loop-set.set c.loop-set.sets (map set_places c.loop-set.tracked) c.loop-set.invariant
    (set_places (get_or c.loop-set.tracked c.loop-set.set c.index-tracked-set.result)) (view_is c.loop-set.tracked c.loop-set.set c.index-tracked-set.result lt) (view_low c.loop-set.tracked c.loop-set.set c.index-tracked-set.result lt) (set_places c.free.new.tracked)
    c.free.new.sets c.in_ok-free.field-0 c.in_ok-free.ensures.changes c.in_ok-free.ensures.frees)

pub returns-clause-changes : goal.returns-clause-changes
returns-clause-changes g c =
    all_sets c.args.copying c.args.sets.now (map set_places c.args.tracked.now) c.args.upto c.loop-set.set c.loop-set.sets (map set_places c.loop-set.tracked) c.loop-set.invariant (omega (arith, length-map c.args.tracked.now set_places)) _

pub returns-clause-frees : goal.returns-clause-frees
returns-clause-frees g c =
    each_freed c.args.copying c.args.sets.now (map set_places c.args.tracked.now) c.args.upto c.loop-set.set c.loop-set.sets (map set_places c.loop-set.tracked) c.loop-set.invariant (omega (arith, length-map c.args.tracked.now set_places))

pub returns-clause-sized : goal.returns-clause-sized
returns-clause-sized g c =
    sized_all c.args.copying c.args.sets.now (map set_places c.args.tracked.now) c.args.upto c.loop-set.set c.loop-set.sets (map set_places c.loop-set.tracked) c.loop-set.invariant (omega (arith, length-map c.args.tracked.now set_places))
