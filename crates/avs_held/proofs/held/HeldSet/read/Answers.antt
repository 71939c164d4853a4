use Rattle.avs_held.proofs.ShadowReads.{reads_set}
use Rattle.avs_held.proofs.held.HeldSet.read.Goals as goal

pub returns : goal.returns
returns g c = rw (← c.self.view_is) (reads_set c.self.inside.seat c.self.inside.chunks c.read.new.self (g.D.Disk.seen c.args.master.now) (g.D.Disk.seen c.read.new.master)
    c.args.at c.read.new.out c.read.result c.read.ensures)
