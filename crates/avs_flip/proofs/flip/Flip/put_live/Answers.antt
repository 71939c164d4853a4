use Rattle.std.proofs.Common.{ap, arith}
use Rattle.avs_flip.proofs.AreaLemmas.{PutsLive-write}
use Rattle.avs_flip.proofs.flip.Flip.put_live.Goals as goal

pub returns : goal.returns
returns g c =
    let len = ap (λ a. a.len) c.self.view_is in
    let from = rw (← c.self.view_is) at c.live_from-live_from.ensures in
    rw (← c.self.view_is) (PutsLive-write _ (g.D.Disk.seen c.write.new.self) c.args.at c.args.block.now c.write.result (omega arith) (omega arith) c.self.invariant c.live_from-live_from.result from c.write.ensures)
