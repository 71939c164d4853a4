use Rattle.std.proofs.Common.{◌<◌, Ok, length, ap, refl, arith}
use Rattle.std.proofs.lemmas.Bool.Decides.{nat_tests}
use Rattle.std.proofs.lemmas.Result.{err_from_is_err_and}
use Rattle.avs_io.proofs.SoFar.{completes, ends, overflows, is_cut, is_lost}
use Rattle.avs_io.proofs.lines.Lines.next_line.Goals as goal

pub returns-in_err-fill-clause-breaks : goal.returns-in_err-fill-clause-breaks
returns-in_err-fill-clause-breaks g c =
    let p = err_from_is_err_and c.from_residual.result c.from_residual.ensures.1 in
    rw (p.1, p.2) (is_cut c.loop-line.invariant.so_far c.fill.ensures.same c.in_err-fill.ensures.failed)

pub returns-in_err-take_piece-clause-breaks : goal.returns-in_err-take_piece-clause-breaks
returns-in_err-take_piece-clause-breaks g c =
    let p = err_from_is_err_and c.from_residual-in_err-take_piece.result c.from_residual-in_err-take_piece.ensures.1 in
    let lost = c.in_err-take_piece.ensures.lost in
    rw (p.1, p.2) (is_lost c.loop-line.invariant.so_far c.fill.ensures.same lost.1)

pub returns-in-Long-clause-gives : goal.returns-in-Long-clause-gives
returns-in-Long-clause-gives g c =
    overflows c.requires c.loop-line.invariant.so_far c.fill.ensures.same (rw c.in-Long.is at c.in_ok-take_piece.ensures.piece)

pub returns-in-Last-clause-gives : goal.returns-in-Last-clause-gives
returns-in-Last-clause-gives g c =
    let some = c.in_ok-fill.ensures.some (ap Ok c.if-branch.true) in
    completes c.requires c.loop-line.invariant.so_far c.fill.ensures.same some.ended (rw c.in-Last.is at c.in_ok-take_piece.ensures.piece) c.take_piece.ensures.ended
    refl refl refl

pub returns-clause-gives : goal.returns-clause-gives
returns-clause-gives g c =
    let some : 0 < length c.loop-line.line.items = grind (arith, nat_tests, c.if-is_empty.ensures, c.loop-line.line.ok.0) in
    ends c.requires c.loop-line.invariant.so_far some c.fill.ensures.same (c.in_ok-fill.ensures.none (ap Ok c.if-branch.false)) refl refl refl
