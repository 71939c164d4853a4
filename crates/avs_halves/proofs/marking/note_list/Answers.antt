use Rattle.std.proofs.Common.{◌<◌, length, arith}
use Rattle.std.proofs.lemmas.Result.{err_from_is_err_and}
use Rattle.avs_halves.proofs.Markings.{list_goes, list_stops}
use Rattle.avs_halves.proofs.marking.note_list.Goals as goal

pub returns-in_err-note : goal.returns-in_err-note
returns-in_err-note g c =
    let p = err_from_is_err_and c.from_residual.result c.from_residual.ensures.1 in
    let low : c.loop-seg.seg-index < length c.args.list.now = omega arith in
    rw (p.1, p.2) (list_stops c.args.sets.now c.args.set c.args.list.now c.loop-seg.seg-index c.loop-seg.sets c.note.new.self low c.loop-seg.invariant c.in_err-note.field-0.0 c.in_err-note.field-0.0 c.in_err-note.ensures)

pub loop-seg-preserved : goal.loop-seg-preserved
loop-seg-preserved g c =
    let low : c.loop-seg.seg-index < length c.args.list.now = omega arith in
    list_goes c.args.sets.now c.args.set c.args.list.now c.loop-seg.seg-index c.loop-seg.sets c.note.new.self low c.loop-seg.invariant c.in_ok-note.field-0 c.in_ok-note.ensures
