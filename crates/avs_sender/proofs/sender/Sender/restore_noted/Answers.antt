use Rattle.std.proofs.Common.{◌≡◌, inr, true, ap, sym, subst}
use Rattle.std.proofs.lemmas.Result.{err_from_is_err_and}
use Rattle.avs_model.specs.declared.answer.Refusal.TheVariants as refusal
use Rattle.avs_halves.specs.Marks.{marked}
use Rattle.avs_halves.proofs.Errands.{ran_noted}
use Rattle.avs_sender.specs.Held.{SenderHalf, held, seen_of}
use Rattle.avs_sender.specs.Restoring.{IsRestoreStopped, RunsErrand}
use Rattle.avs_sender.proofs.Restorings.{bits_failed, may_noted, noted_then}
use Rattle.avs_sender.proofs.sender.Sender.restore_noted.Goals as goal

pub returns-in_err-note_marks-clause-restores : goal.returns-in_err-note_marks-clause-restores
returns-in_err-note_marks-clause-restores g c =
    let p = err_from_is_err_and c.from_residual.result c.from_residual.ensures.1 in
    let away = rw (← c.self.view_is) at c.requires.away in
    rw (p.1) (rw (← c.self.view_is)
    (subst (λ (x : SenderHalf). IsRestoreStopped (g.B.Below.IsSound c.self.inside.below) (held (g.B.Below.seen c.self.inside.below) c.self.inside.half) c.args.marks.now refusal.Fault (held (g.B.Below.seen c.self.inside.below) x)) (sym c.note_marks.ensures.rest)
    (bits_failed (g.B.Below.IsSound c.self.inside.below) (g.B.Below.seen c.self.inside.below) c.self.inside.half c.args.marks.now c.self.invariant away c.note_marks.ensures.kept.session.number
    c.in_err-note_marks.field-0.0 c.note_marks.new.self.sets c.in_err-note_marks.ensures.bits)))

pub restore_by-requires-clause-errand : goal.restore_by-requires-clause-errand
restore_by-requires-clause-errand g c =
    let errand = rw (← c.self.view_is) at c.requires.errand in
    may_noted _ _ _ c.self.inside.half c.note_marks.new.self c.args.marks.now (marked c.args.marks.now) true _ c.in_ok-note_marks.ensures.bits (ap (λ (x : SenderHalf). x.note) c.note_marks.ensures.rest) errand

pub returns-clause-restores : goal.returns-clause-restores
returns-clause-restores g c =
    let away = rw (← c.self.view_is) at c.requires.away in
    let are = rw (← c.self.view_is) at c.requires.marks in
    let runs = subst (λ (x : SenderHalf). RunsErrand (held (g.B.Below.seen c.self.inside.below) x) c.args.marks.now c.restore_by.result (seen_of g.B.Below.seen c.restore_by.new.self)) c.note_marks.ensures.rest c.restore_by.ensures.runs in
    rw (← c.self.view_is) (noted_then _ _ (g.B.Below.seen c.self.inside.below) c.self.inside.half c.args.marks.now c.self.invariant are away c.note_marks.ensures.kept.session.number
    c.in_ok-note_marks.field-0 c.note_marks.new.self.sets c.in_ok-note_marks.ensures.bits _ c.restore_by.result runs)

pub returns-clause-ran : goal.returns-clause-ran
returns-clause-ran g c =
    let away = rw (← c.self.view_is) at c.requires.away in
    let note : c.note_marks.new.self.note ≡ c.self.inside.half.note = ap (λ (x : SenderHalf). x.note) c.note_marks.ensures.rest in
    let ran = rw (note) at c.restore_by.ensures.ran in
    rw (← c.self.view_is) (inr (away, ran_noted _ true _ c.note_marks.new.self.sets _ c.in_ok-note_marks.ensures.bits _ _ c.args.marks.now ran))
