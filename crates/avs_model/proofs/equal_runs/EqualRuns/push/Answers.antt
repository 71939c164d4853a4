use Rattle.std.proofs.Common.{◌≤◌, ◌*◌, length, sym, ◌∙◌, arith}
use Rattle.std.proofs.lemmas.Bool.{eqb-true, eqb-false}
use Rattle.std.proofs.lemmas.List.{length-take-le, take_rest}
use Rattle.avs_model.proofs.HeldRuns.{pushed_more, pushed_all, whole_rest, room_for}
use Rattle.avs_model.proofs.equal_runs.EqualRuns.push.Goals as goal

pub slice_bounds-push_run-end : goal.slice_bounds-push_run-end
slice_bounds-push_run-end c =
    let some : 512 ≤ length c.loop-rest.rest.now = omega (arith, eqb-false _ 0 (sym c.is_empty.ensures ∙ c.loop-rest-test.true), c.loop-rest.invariant.0) in
    sym (length-take-le 512 c.loop-rest.rest.now some)

pub push_run-requires-clause-size : goal.push_run-requires-clause-size
push_run-requires-clause-size c =
    let some : 512 ≤ length c.loop-rest.rest.now = omega (arith, eqb-false _ 0 (sym c.is_empty.ensures ∙ c.loop-rest-test.true), c.loop-rest.invariant.0) in
    length-take-le 512 c.loop-rest.rest.now some

pub push_run-requires-clause-room : goal.push_run-requires-clause-room
push_run-requires-clause-room c = room_for c.loop-rest.self c.args.self.now c.args.bytes.now c.loop-rest.rest.now c.first_run-count.result _ c.loop-rest.invariant.1 c.first_run-count.ensures.within c.requires.room

pub loop-rest-preserved : goal.loop-rest-preserved
loop-rest-preserved c =
    let bytes = c.loop-rest.rest.now in
    let rest = take_rest bytes (512 * c.first_run-count.result) in (
      whole_rest bytes _ c.first_run-count.result rest c.loop-rest.invariant.0,
      pushed_more c.loop-rest.self c.push_run.new.self _ bytes _ c.first_run-count.result _ rest c.first_run-count.ensures.equal c.loop-rest.invariant.1 c.in_ok-push_run.ensures,
    )

pub returns : goal.returns
returns c = pushed_all c.loop-rest.self _ c.loop-rest.rest.now (eqb-true _ 0 (sym c.is_empty.ensures ∙ c.loop-rest-test.false)) c.loop-rest.invariant.1
