use Rattle.avs_held.proofs.Room.{room_due}
use Rattle.avs_held.proofs.Settled.{copies_one}
use Rattle.avs_held.proofs.held.HeldSet.copy_one.Goals as goal

pub invariant_of-self : goal.invariant_of-self
invariant_of-self g c = room_due c.self.inside.chunks c.copy_one.new.self (g.D.Disk.seen c.args.master.now) (g.D.Disk.seen c.copy_one.new.master)
    c.copy_one.ensures.due c.copy_one.result c.copy_one.ensures.copies c.self.invariant

pub returns : goal.returns
returns g c = rw (← c.self.view_is) (λ o. copies_one c.self.inside.seat c.self.inside.chunks c.copy_one.new.self (g.D.Disk.seen c.args.master.now) (g.D.Disk.seen c.copy_one.new.master)
    o c.copy_one.result c.copy_one.ensures)
