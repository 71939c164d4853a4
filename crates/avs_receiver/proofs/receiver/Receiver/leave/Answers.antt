use Rattle.std.proofs.Common.{◌≡◌, true, arith}
use Rattle.std.proofs.lemmas.Result.{err_from_is_err_and}
use Rattle.avs_mirrors.specs.Half.{is_session}
use Rattle.avs_halves.proofs.Staying.{over_sizes}
use Rattle.avs_receiver.specs.Meaning.{state_in}
use Rattle.avs_receiver.proofs.Leavings.{leaves_err, session_not}
use Rattle.avs_receiver.proofs.receiver.Receiver.leave.Goals as goal

pub returns-in_err-write_note-clause-leaves : goal.returns-in_err-write_note-clause-leaves
returns-in_err-write_note-clause-leaves g c =
    let p = err_from_is_err_and c.from_residual.result c.from_residual.ensures.1 in
    let on : is_session (state_in c.self-inside.inside.0.1.0.note) ≡ true = grind arith in
    let puts = rw (c.left_note-note.ensures) at c.in_err-write_note.ensures.puts in
    let over = rw (← c.self-inside.view_is) at c.self.invariant in
    rw (p.1, p.2) (rw (← c.self.view_is, ← c.self-inside.view_is) (leaves_err _ _ _ _ _ c.in_err-write_note.field-0.0 (session_not c.self-inside.inside.0.1.0.note on) (over_sizes _ _ _ puts.sets.sizes over) puts))
