use Rattle.avs_chunks.specs.Disks.{Shadow}
use Rattle.avs_held.proofs.Room.{room_kept}
use Rattle.avs_held.proofs.Settled.{can_chunk, saves_chunks}
use Rattle.avs_held.proofs.held.HeldSet.save_range.Goals as goal

pub save_range-requires-clause-can : goal.save_range-requires-clause-can
save_range-requires-clause-can g c = can_chunk c.self.inside.seat c.self.inside.chunks (rw (← c.self.view_is) at c.requires.can)

pub invariant_of-self : goal.invariant_of-self
invariant_of-self g c =
    let keeps = c.save_range.ensures.keeps in
    room_kept c.self.inside.chunks c.save_range.new.self keeps.shape.kind keeps.shape.blocks keeps.shape.there (keeps.goes.lasts Shadow).size c.self.invariant

pub returns : goal.returns
returns g c = rw (← c.self.view_is) (saves_chunks c.self.inside.seat c.self.inside.chunks c.save_range.new.self (g.D.Disk.seen c.args.master.now) (g.D.Disk.seen c.save_range.new.master)
    c.args.first c.args.end c.save_range.result c.save_range.ensures)
