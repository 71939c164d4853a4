use Rattle.std.proofs.Common.{ap, arith}
use Rattle.avs_flip.proofs.AreaLemmas.{Stages-write}
use Rattle.avs_flip.proofs.flip.Flip.stage.Goals as goal

pub returns : goal.returns
returns g c =
    let len = ap (λ a. a.len) c.self.view_is in
    let from = rw (← c.self.view_is) at c.staged_from-staged_from.ensures in
    rw (← c.self.view_is) (Stages-write _ (g.D.Disk.seen c.write.new.self) c.args.at c.args.block.now c.write.result (omega arith) (omega arith) c.self.invariant c.staged_from-staged_from.result from c.write.ensures)
