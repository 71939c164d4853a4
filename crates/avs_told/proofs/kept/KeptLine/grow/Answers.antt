use Rattle.std.proofs.Common.{◌∙◌, sym}
use Rattle.avs_told.proofs.Pieces.{grown-kept}
use Rattle.avs_told.proofs.kept.KeptLine.grow.Goals as goal

pub returns : goal.returns
returns c =
    let s = c.self.inside in
    grown-kept c.args.self.now s.bytes c.args.piece.now c.put_at.new.out s.len c.min-count.result s.number s.fed c.self.invariant.1 c.self.invariant.0 c.min-count.ensures c.put_at.ensures (sym c.begin.ensures ∙ sym c.self.view_is)
