use Rattle.std.proofs.Common.{inr, true}
use Rattle.std.proofs.lemmas.Result.{err_from_is_err_and}
use Rattle.avs_halves.proofs.Errands.{ran_noted}
use Rattle.avs_receiver.proofs.Restorings.{bits_failed, noted_then}
use Rattle.avs_receiver.proofs.receiver.Receiver.restore_noted.Goals as goal

pub returns-in_err-note_marks-clause-restores : goal.returns-in_err-note_marks-clause-restores
returns-in_err-note_marks-clause-restores g c =
    let p = err_from_is_err_and c.from_residual.result c.from_residual.ensures.1 in
    let over = rw (← c.self-inside.view_is) at c.self.invariant in
    let near = rw (← c.self.view_is) at c.requires.away in
    let away = rw (← c.self-inside.view_is) at near in
    rw (p.1) (rw (← c.self.view_is, ← c.self-inside.view_is) (bits_failed _ _ _ c.args.marks.now over away c.in_err-note_marks.field-0.0 c.note_marks.new.sets c.in_err-note_marks.ensures))

pub returns-clause-restores : goal.returns-clause-restores
returns-clause-restores g c =
    let over = rw (← c.self-inside.view_is) at c.self.invariant in
    let near = rw (← c.self.view_is) at c.requires.away in
    let away = rw (← c.self-inside.view_is) at near in
    let first = rw (← c.self.view_is) at c.requires.marks in
    let are = rw (← c.self-inside.view_is) at first in
    rw (← c.self.view_is, ← c.self-inside.view_is) (noted_then _ _ _ _ c.args.marks.now over are away c.in_ok-note_marks.field-0 c.note_marks.new.sets c.in_ok-note_marks.ensures _ c.restore_by.result c.restore_by.ensures.runs)

pub returns-clause-ran : goal.returns-clause-ran
returns-clause-ran g c =
    let near = rw (← c.self.view_is) at c.requires.away in
    let away = rw (← c.self-inside.view_is) at near in
    rw (← c.self.view_is, ← c.self-inside.view_is) (inr (away, ran_noted _ true _ c.note_marks.new.sets _ c.in_ok-note_marks.ensures _ _ c.args.marks.now c.restore_by.ensures.ran))
