use Rattle.std.proofs.Common.{◌∙◌, ◌<◌, true, length, Err, Ok, subst, arith}
use Rattle.std.proofs.lemmas.List.{get_or_default}
use Rattle.std.proofs.lemmas.Result.{err_from_is_err_and}
use Rattle.avs_halves.specs.Changing.{ChangesSets, keys_of}
use Rattle.avs_halves.specs.Marks.{Mark, in_list}
use Rattle.avs_halves.proofs.Markings.{marks_go, marks_stop, no_mark}
use Rattle.avs_halves.proofs.marking.note_marks.Goals as goal

pub returns-in_err-note_list : goal.returns-in_err-note_list
returns-in_err-note_list g c =
    let p = err_from_is_err_and c.from_residual.result c.from_residual.ensures.1 in
    let low : c.loop-set.set-index < length c.args.marks.now = omega arith in
    let same = c.loop-set-item.is ∙ get_or_default c.args.marks.now c.loop-set.set-index c.loop-set-item.result no_mark low in
    let list = rw (c.as_slice.ensures) at c.in_err-note_list.ensures in
    let made = subst (λ (m : Mark). ChangesSets (keys_of m.0 (in_list m.1)) true c.loop-set.sets (Err c.in_err-note_list.field-0.0) c.note_list.new.sets) same list in
    rw (p.1, p.2) (marks_stop c.args.sets.now c.args.marks.now c.loop-set.set-index c.loop-set.sets c.note_list.new.sets low c.loop-set.invariant c.in_err-note_list.field-0.0 c.in_err-note_list.field-0.0 made)

pub loop-set-preserved : goal.loop-set-preserved
loop-set-preserved g c =
    let low : c.loop-set.set-index < length c.args.marks.now = omega arith in
    let same = c.loop-set-item.is ∙ get_or_default c.args.marks.now c.loop-set.set-index c.loop-set-item.result no_mark low in
    let list = rw (c.as_slice.ensures) at c.in_ok-note_list.ensures in
    let made = subst (λ (m : Mark). ChangesSets (keys_of m.0 (in_list m.1)) true c.loop-set.sets (Ok c.in_ok-note_list.field-0) c.note_list.new.sets) same list in
    marks_go c.args.sets.now c.args.marks.now c.loop-set.set-index c.loop-set.sets c.note_list.new.sets low c.loop-set.invariant c.in_ok-note_list.field-0 made
