use Rattle.std.proofs.Common.{◌≡◌, ◌&&◌, true, false, None, sym, subst, arith}
use Rattle.std.proofs.lemmas.Result.{err_from_is_err_and}
use Rattle.avs_refs.specs.Places.{Places, GoesOnDraining}
use Rattle.avs_sender.specs.SenderView.{set_places}
use Rattle.avs_sender.specs.Waits.{waits_at}
use Rattle.avs_sender.specs.Freeing.{FreesPlaces}
use Rattle.avs_sender.proofs.Freeings.{all_changed, all_freed, cleared, kept, stopped}
use Rattle.avs_sender.proofs.freeing.free.Goals as goal

pub loop-seg-preserved-in-Continue-1 : goal.loop-seg-preserved-in-Continue-1
loop-seg-preserved-in-Continue-1 g c =
    let stays : (c.args.copying && waits_at c.loop-seg.tracked.waiting c.in-Some.seg) ≡ false = grind arith in
    cleared c.args.set c.args.copying c.args.sets.now (set_places c.args.tracked.now) c.args.upto c.loop-seg.sets (set_places c.loop-seg.tracked) c.loop-seg.invariant c.in-Some.seg c.next_idle.new.self c.in-Some.ensures.some c.in-Some.ensures.kept
    (c.in-Some.ensures.draining c.args.tracked.now.touched c.args.upto c.requires.can.drained c.loop-seg.invariant.drains) stays c.clear.new.self c.in_ok-clear.field-0 c.in_ok-clear.ensures

pub returns-in_err-clear-clause-changes : goal.returns-in_err-clear-clause-changes
returns-in_err-clear-clause-changes g c =
    let p = err_from_is_err_and c.from_residual.result c.from_residual.ensures.1 in
    let stays : (c.args.copying && waits_at c.loop-seg.tracked.waiting c.in-Some.seg) ≡ false = grind arith in
    rw (p.1, p.2) (stopped c.args.set c.args.copying c.args.sets.now (set_places c.args.tracked.now) c.args.upto c.loop-seg.sets (set_places c.loop-seg.tracked) c.loop-seg.invariant c.in-Some.seg c.next_idle.new.self c.in-Some.ensures.some c.in-Some.ensures.kept
    (c.in-Some.ensures.draining c.args.tracked.now.touched c.args.upto c.requires.can.drained c.loop-seg.invariant.drains) stays c.clear.new.self c.in_err-clear.field-0.0 c.in_err-clear.ensures)

pub loop-seg-preserved : goal.loop-seg-preserved
loop-seg-preserved g c =
    let waits : (c.args.copying && waits_at c.loop-seg.tracked.waiting c.in-Some.seg) ≡ true = grind arith in
    kept c.args.set c.args.copying c.args.sets.now (set_places c.args.tracked.now) c.args.upto c.loop-seg.sets (set_places c.loop-seg.tracked) c.loop-seg.invariant c.in-Some.seg c.next_idle.new.self c.in-Some.ensures.some c.in-Some.ensures.kept
    (c.in-Some.ensures.draining c.args.tracked.now.touched c.args.upto c.requires.can.drained c.loop-seg.invariant.drains) waits

pub returns-clause-changes : goal.returns-clause-changes
returns-clause-changes g c =
    let goes = subst (λ (t : Places). GoesOnDraining c.args.tracked.now.touched c.args.upto c.loop-seg.tracked.touched None t) c.in_default.ensures.unchanged
    (c.in_default.ensures.draining c.args.tracked.now.touched c.args.upto c.requires.can.drained c.loop-seg.invariant.drains) in
    all_changed c.args.set c.args.copying c.args.sets.now (set_places c.args.tracked.now) c.args.upto c.loop-seg.sets (set_places c.loop-seg.tracked) c.loop-seg.invariant goes _

pub returns-clause-frees : goal.returns-clause-frees
returns-clause-frees g c =
    let goes = subst (λ (t : Places). GoesOnDraining c.args.tracked.now.touched c.args.upto c.loop-seg.tracked.touched None t) c.in_default.ensures.unchanged
    (c.in_default.ensures.draining c.args.tracked.now.touched c.args.upto c.requires.can.drained c.loop-seg.invariant.drains) in
    subst (λ (t : Places). FreesPlaces (set_places c.args.tracked.now) c.args.upto (record { touched = t; waiting = c.loop-seg.tracked.waiting })) (sym c.in_default.ensures.unchanged)
    (all_freed c.args.set c.args.copying c.args.sets.now (set_places c.args.tracked.now) c.args.upto c.loop-seg.sets (set_places c.loop-seg.tracked) c.loop-seg.invariant goes)
