use Rattle.std.proofs.Common.{◌≤◌, ◌<◌, true, map, length, arith}
use Rattle.std.proofs.lemmas.List.{length-map}
use Rattle.std.proofs.lemmas.Result.{err_from_is_err_and}
use Rattle.avs_halves.specs.MirrorView.{set_bits}
use Rattle.avs_halves.specs.Changing.{every}
use Rattle.avs_halves.proofs.Changed.{loop_more, loop_stops, all_changed, every_past}
use Rattle.avs_halves.proofs.changes.fill_all.Goals as goal

pub returns-in_err-fill : goal.returns-in_err-fill
returns-in_err-fill g c =
    let p = err_from_is_err_and c.from_residual.result c.from_residual.ensures.1 in
    let lt : c.loop-i.i < length c.loop-i.sets = omega arith in
    rw (p.1, p.2) (loop_stops true (map set_bits c.args.sets.now) c.loop-i.sets c.loop-i.i c.index-sets-i.result c.loop-i.invariant lt c.fill.new.self c.in_err-fill.field-0.0 c.in_err-fill.ensures)

pub loop-i-preserved : goal.loop-i-preserved
loop-i-preserved g c =
    let lt : c.loop-i.i < length c.loop-i.sets = omega arith in
    loop_more true (map set_bits c.args.sets.now) c.loop-i.sets c.loop-i.i c.index-sets-i.result c.loop-i.invariant lt c.fill.new.self c.in_ok-fill.field-0 c.in_ok-fill.ensures

pub returns : goal.returns
returns g c =
    let end : length (map set_bits c.loop-i.sets) ≤ c.loop-i.i = omega (arith, length-map c.loop-i.sets set_bits) in
    all_changed (every (map set_bits c.args.sets.now)) true (map set_bits c.args.sets.now) c.loop-i.i (map set_bits c.loop-i.sets) c.loop-i.invariant tt end (every_past (map set_bits c.args.sets.now))
