use Rattle.std.proofs.Common.{◌≡◌, OnOk, OnErr, ◌∙◌, sym, subst, ap}
use Rattle.std.proofs.lemmas.Result.{err_from_is_err_and}
use Rattle.avs_model.specs.declared.answer.Refusal.TheVariants as refusal
use Rattle.avs_mirrors.specs.Half.{Replicating}
use Rattle.avs_halves.specs.Writing.{PutsNote}
use Rattle.avs_sender.specs.Held.{SenderHalf, held}
use Rattle.avs_sender.specs.Meaning.{due_of}
use Rattle.avs_sender.specs.Learning.{IsStopped, IsTurned}
use Rattle.avs_sender.specs.Ticking.{IsTicked, IsTickStopped, Knows, half_noted, note_marked}
use Rattle.avs_sender.proofs.Tickings.{bits_stopped, knows_noted, ticks}
use Rattle.avs_sender.proofs.sender.Sender.know.Goals as goal

pub returns-in_err-learn-clause-knows : goal.returns-in_err-learn-clause-knows
returns-in_err-learn-clause-knows g c =
    let p = err_from_is_err_and c.from_residual.result c.from_residual.ensures.1 in
    let session = rw (← c.self.view_is) at c.requires.session in
    let given = rw (← c.self.view_is) at c.requires.given in
    let below = g.B.Below.seen c.self.inside.below in
    let sound = g.B.Below.IsSound c.self.inside.below in
    let h = c.self.inside.half in
    let l = c.in_err-learn.ensures in
    rw (p.1) (rw (← c.self.view_is) (subst (λ (x : SenderHalf). IsTickStopped sound (held below h) c.args.applied refusal.Fault (held below x)) (sym l.rest)
    (bits_stopped sound below h c.args.applied l.number session given c.self.invariant c.learn.new.self.sets c.learn.new.self.places c.learn.new.self.queue c.in_err-learn.field-0.0 l.bits l.limits l.keys)))

pub returns-then-branch-clause-knows : goal.returns-then-branch-clause-knows
returns-then-branch-clause-knows g c =
    let session = rw (← c.self.view_is) at c.requires.session in
    let given = rw (← c.self.view_is) at c.requires.given in
    let below = g.B.Below.seen c.self.inside.below in
    let sound = g.B.Below.IsSound c.self.inside.below in
    let h = c.self.inside.half in
    let l = c.in_ok-learn.ensures in
    let then = g.B.Below.seen c.note_mark.new.self.below in
    let sound_new = g.B.Below.IsSound c.note_mark.new.self.below in
    let turned : c.learn.new.self.session.state ≡ Replicating = subst (λ b. IsTurned b h c.learn.new.self) c.if-branch.true l.turned in
    let state = sym (ap (λ (x : SenderHalf). x.session.state) l.rest) ∙ turned in
    let due = ap due_of (sym l.rest) ∙ l.due in
    let P = λ (x : SenderHalf). PutsNote sound below (note_marked x.note x.session.mark) c.note_mark.result then → OnOk c.note_mark.result (c.note_mark.new.self.half ≡ half_noted x (note_marked x.note x.session.mark)) → OnErr c.note_mark.result (IsStopped x c.note_mark.new.self.half)
    → Knows sound sound_new (held below h) c.args.applied c.note_mark.result (held then c.note_mark.new.self.half) in
    rw (← c.self.view_is) (subst P (sym l.rest) (λ puts ok err. knows_noted sound below h c.args.applied session given c.learn.new.self.sets c.learn.new.self.places c.learn.new.self.queue l.bits l.queue due sound_new then c.note_mark.result c.note_mark.new.self.half state l.number c.self.invariant puts ok err c.note_mark.ensures.sound)
    c.note_mark.ensures.puts c.note_mark.ensures.ok c.note_mark.ensures.err)

pub returns-clause-knows : goal.returns-clause-knows
returns-clause-knows g c =
    let session = rw (← c.self.view_is) at c.requires.session in
    let given = rw (← c.self.view_is) at c.requires.given in
    let below = g.B.Below.seen c.self.inside.below in
    let sound = g.B.Below.IsSound c.self.inside.below in
    let h = c.self.inside.half in
    let l = c.in_ok-learn.ensures in
    let turned : c.learn.new.self.session.state ≡ h.session.state = subst (λ b. IsTurned b h c.learn.new.self) c.if-branch.false l.turned in
    let same = sym (ap (λ (x : SenderHalf). x.session.state) l.rest) ∙ turned in
    let due = ap due_of (sym l.rest) ∙ l.due in
    rw (← c.self.view_is) (subst (λ (x : SenderHalf). IsTicked sound sound (held below h) c.args.applied x.session.known (held below x)) (sym l.rest)
    (ticks sound below h c.args.applied session given c.learn.new.self.sets c.learn.new.self.places c.learn.new.self.queue l.bits l.queue due same))
