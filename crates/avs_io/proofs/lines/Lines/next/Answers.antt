use Rattle.std.proofs.Common.{◌≡◌, Ok, ap, refl, arith}
use Rattle.std.proofs.lemmas.Result.{err_from_is_err_and}
use Rattle.avs_seg.specs.Lines.{lines_limit}
use Rattle.avs_io.specs.Next.{MeetsLimit}
use Rattle.avs_io.specs.Reader.{reader_of}
use Rattle.avs_io.proofs.SoFar.{begins, is_cut, meets_limit}
use Rattle.avs_io.proofs.GivenLemmas.{goes_on, MoreFollow-from, HasTaken-from_cut}
use Rattle.avs_io.proofs.lines.Lines.next.Goals as goal

pub returns-then-self-lt-MAX_LINES-clause-goes_on : goal.returns-then-self-lt-MAX_LINES-clause-goes_on
returns-then-self-lt-MAX_LINES-clause-goes_on g c =
    goes_on (reader_of c.args.self.now) (reader_of c.next_line.new.self) c.next_line.result c.next_line.ensures.gives c.next_line.ensures.breaks

pub returns-in_err-fill-clause-goes_on : goal.returns-in_err-fill-clause-goes_on
returns-in_err-fill-clause-goes_on g c input lines given =
    let p = err_from_is_err_and c.from_residual.result c.from_residual.ensures.1 in
    rw (p.1, p.2) (HasTaken-from_cut given (is_cut (begins (reader_of c.args.self.now)) c.fill.ensures.same c.in_err-fill.ensures.failed))

pub returns-then-branch-clause-gives : goal.returns-then-branch-clause-gives
returns-then-branch-clause-gives g c =
    let limit : c.args.self.now.given ≡ lines_limit = omega (arith, c.args.self.now.counted) in
    meets_limit limit c.fill.ensures.same (c.in_ok-fill.ensures.some (ap Ok c.if-branch.true)) refl

pub returns-then-branch-clause-goes_on : goal.returns-then-branch-clause-goes_on
returns-then-branch-clause-goes_on g c input lines given =
    let limit : c.args.self.now.given ≡ lines_limit = omega (arith, c.args.self.now.counted) in
    let meets : MeetsLimit (reader_of c.args.self.now) (reader_of c.fill.new.self) =
    meets_limit limit c.fill.ensures.same (c.in_ok-fill.ensures.some (ap Ok c.if-branch.true)) refl in
    MoreFollow-from given meets
