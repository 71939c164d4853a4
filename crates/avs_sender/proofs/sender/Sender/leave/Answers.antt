use Rattle.std.proofs.Common.{◌≡◌, true, arith}
use Rattle.std.proofs.lemmas.Result.{err_from_is_err_and}
use Rattle.avs_mirrors.specs.Half.{is_session}
use Rattle.avs_sender.proofs.Leavings.{leaves_stopped}
use Rattle.avs_sender.proofs.sender.Sender.leave.Goals as goal

pub returns-in_err-write_note-clause-leaves : goal.returns-in_err-write_note-clause-leaves
returns-in_err-write_note-clause-leaves g c =
    let p = err_from_is_err_and c.from_residual.result c.from_residual.ensures.1 in
    let on : is_session c.self.inside.half.session.state ≡ true = grind arith in
    leaves_stopped g.B.Below.seen g.B.Below.IsSound c.self.inside.below c.write_note.new.below c.self.inside.half c.args.self.now c.left_note-note.result c.from_residual.result _ c.self.view_is p.1
    c.left_note-note.ensures.note on c.left_note-note.ensures.kept c.self.invariant c.in_err-write_note.ensures.puts
