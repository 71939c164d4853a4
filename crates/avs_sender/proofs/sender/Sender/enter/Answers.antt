use Rattle.std.proofs.Common.{◌∙◌, ℕ, true, ap, sym, subst, Err, Ok}
use Rattle.std.proofs.lemmas.Result.{err_from_is_err_and}
use Rattle.avs_sync.specs.declared.note.Note.{Note}
use Rattle.avs_halves.specs.Writing.{PutsNote}
use Rattle.avs_sender.specs.Held.{SenderHalf, held}
use Rattle.avs_sender.specs.Places.{WaitsForBits, places_for}
use Rattle.avs_sender.specs.Beginning.{IsBeginStopped, IsBegun, beginning, begun_note, half_begun}
use Rattle.avs_sender.proofs.Noted.{places_same}
use Rattle.avs_sender.proofs.Notings.{begun_inside}
use Rattle.avs_sender.proofs.Beginnings.{in_bits, at_note, begun}
use Rattle.avs_sender.proofs.sender.Sender.enter.Goals as goal

pub returns-in_err-note_begun-clause-enters : goal.returns-in_err-note_begun-clause-enters
returns-in_err-note_begun-clause-enters g c =
    let p = err_from_is_err_and c.from_residual.result c.from_residual.ensures.1 in
    let may = rw (← c.self.view_is) at c.requires.may in
    let kept = rw (← c.self.view_is) at c.requires.kept in
    let theirs = rw (← c.self.view_is) at c.requires.theirs in
    let b = beginning c.args.session c.args.full c.self.inside.half.sets c.args.theirs.now in
    rw (p.1) (rw (← c.self.view_is)
    (subst (λ (x : SenderHalf). IsBeginStopped (g.B.Below.IsSound c.self.inside.below) (held (g.B.Below.seen c.self.inside.below) c.self.inside.half) b (held (g.B.Below.seen c.self.inside.below) x)) (sym c.note_begun.ensures.rest)
    (in_bits (g.B.Below.IsSound c.self.inside.below) (g.B.Below.IsSound c.self.inside.below) (g.B.Below.seen c.self.inside.below) c.self.inside.half b c.note_begun.new.self.sets may kept c.self.invariant (begun_inside c.args.full c.self.inside.half.sets c.args.theirs.now theirs)
    c.in_err-note_begun.field-0.0 c.in_err-note_begun.ensures.bits)))

pub returns-in_err-write_note-clause-enters : goal.returns-in_err-write_note-clause-enters
returns-in_err-write_note-clause-enters g c =
    let p = err_from_is_err_and c.from_residual-in_err-write_note.result c.from_residual-in_err-write_note.ensures.1 in
    let may = rw (← c.self.view_is) at c.requires.may in
    let kept = rw (← c.self.view_is) at c.requires.kept in
    let theirs = rw (← c.self.view_is) at c.requires.theirs in
    let b = beginning c.args.session c.args.full c.self.inside.half.sets c.args.theirs.now in
    let rest = c.note_begun.ensures.rest in
    let puts = subst (λ (m : Note). PutsNote (g.B.Below.IsSound c.self.inside.below) (g.B.Below.seen c.self.inside.below) m (Err c.in_err-write_note.field-0.0) (g.B.Below.seen c.write_note.new.below))
    (c.begun_note-note.ensures.note ∙ ap (λ (x : SenderHalf). begun_note x c.args.session) rest) c.in_err-write_note.ensures.puts in
    rw (p.1) (rw (← c.self.view_is)
    (subst (λ (x : SenderHalf). IsBeginStopped (g.B.Below.IsSound c.self.inside.below) (held (g.B.Below.seen c.self.inside.below) c.self.inside.half) b (held (g.B.Below.seen c.write_note.new.below) x)) (sym rest)
    (at_note (g.B.Below.IsSound c.self.inside.below) (g.B.Below.IsSound c.write_note.new.below) (g.B.Below.seen c.self.inside.below) c.self.inside.half b c.note_begun.new.self.sets may kept c.self.invariant (begun_inside c.args.full c.self.inside.half.sets c.args.theirs.now theirs)
    c.in_ok-note_begun.field-0 c.in_ok-note_begun.ensures.bits (g.B.Below.seen c.write_note.new.below) c.in_err-write_note.field-0.0 puts)))

pub enter-requires-clause-places : goal.enter-requires-clause-places
enter-requires-clause-places g c =
    let places = rw (← c.self.view_is) at c.requires.places in
    let b = beginning c.args.session c.args.full c.self.inside.half.sets c.args.theirs.now in
    let limits = ap (λ (x : SenderHalf). x.queue.limits.writes) c.note_begun.ensures.rest in
    places
    ∙ sym (places_same b.keys true c.self.inside.half.queue.limits.writes c.self.inside.half.sets c.note_begun.new.self.sets (Ok c.in_ok-note_begun.field-0) c.in_ok-note_begun.ensures.bits)
    ∙ ap (λ (n : ℕ). places_for n c.note_begun.new.self.sets) (sym limits)

pub returns-clause-enters : goal.returns-clause-enters
returns-clause-enters g c =
    let may = rw (← c.self.view_is) at c.requires.may in
    let kept = rw (← c.self.view_is) at c.requires.kept in
    let theirs = rw (← c.self.view_is) at c.requires.theirs in
    let b = beginning c.args.session c.args.full c.self.inside.half.sets c.args.theirs.now in
    let rest = c.note_begun.ensures.rest in
    let sets = c.note_begun.new.self.sets in
    let places = c.enter.new.self.places in
    let puts = subst (λ (m : Note). PutsNote (g.B.Below.IsSound c.self.inside.below) (g.B.Below.seen c.self.inside.below) m (Ok c.in_ok-write_note.field-0) (g.B.Below.seen c.write_note.new.below))
    (c.begun_note-note.ensures.note ∙ ap (λ (x : SenderHalf). begun_note x c.args.session) rest) c.in_ok-write_note.ensures.puts in
    let limits = ap (λ (x : SenderHalf). x.queue.limits.writes) rest in
    let waits = subst (λ (n : ℕ). WaitsForBits sets (places_for n sets) places) limits c.enter.ensures.waits in
    let half = c.enter.ensures.begun
    ∙ ap (λ (m : Note). half_begun c.note_begun.new.self m.session places) c.begun_note-note.ensures.note
    ∙ ap (λ (x : SenderHalf). half_begun x c.args.session places) rest in
    rw (← c.self.view_is)
    (subst (λ (x : SenderHalf). IsBegun (g.B.Below.IsSound c.self.inside.below) (g.B.Below.IsSound c.write_note.new.below) (held (g.B.Below.seen c.self.inside.below) c.self.inside.half) b (held (g.B.Below.seen c.write_note.new.below) x)) (sym half)
    (begun (g.B.Below.IsSound c.self.inside.below) (g.B.Below.IsSound c.write_note.new.below) (g.B.Below.seen c.self.inside.below) c.self.inside.half b sets may kept c.self.invariant (begun_inside c.args.full c.self.inside.half.sets c.args.theirs.now theirs)
    c.in_ok-note_begun.field-0 c.in_ok-note_begun.ensures.bits (g.B.Below.seen c.write_note.new.below) places waits c.in_ok-write_note.field-0 puts c.in_ok-write_note.ensures.sound))
