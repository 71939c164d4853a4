use Rattle.std.proofs.Common.{arith}
use Rattle.avs_io.proofs.Exits.{OnErr-any}
use Rattle.avs_io.proofs.HeldLemmas.{none_held}
use Rattle.avs_io.proofs.lines.Lines.fill.Goals as goal

pub returns-in_err-count-clause-failed : goal.returns-in_err-count-clause-failed
returns-in_err-count-clause-failed g c =
    let s = c.args.self.now in
    OnErr-any c.from_residual.result _ (record {
      was_not_ended = c.if-self-2.false;
      rest = none_held c.read.new.out s.start s.end (g.S.Source.left c.read.new.self) (omega (arith, c.if-self.false));
    })
