use Rattle.std.proofs.Common.{ap, arith}
use Rattle.avs_flip.proofs.AreaLemmas.{ReadsLive-read}
use Rattle.avs_flip.proofs.flip.Flip.live.Goals as goal

pub returns : goal.returns
returns g c =
    let len = ap (λ a. a.len) c.self.view_is in
    let from = rw (← c.self.view_is) at c.live_from-live_from.ensures in
    rw (← c.self.view_is) (ReadsLive-read _ (g.D.Disk.seen c.read.new.self) c.args.at c.read.new.out c.read.result (omega arith) (omega arith) c.live_from-live_from.result from c.read.ensures)
