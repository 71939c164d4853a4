use Rattle.avs_chunks.specs.States.{code_of}
use Rattle.avs_chunks.specs.Disks.{Shadow}
use Rattle.avs_held.proofs.Room.{room_kept}
use Rattle.avs_held.proofs.Settled.{settles_set, can_chunk}
use Rattle.avs_held.proofs.held.HeldSet.settle.Goals as goal

pub invariant_of-self : goal.invariant_of-self
invariant_of-self g c =
    let keeps = c.settle.ensures.keeps in
    room_kept c.self.inside.chunks c.settle.new.self keeps.shape.kind keeps.shape.blocks keeps.shape.there (keeps.goes.lasts Shadow).size c.self.invariant

pub returns : goal.returns
returns g c =
    let may = rw (← c.self.view_is) at c.requires.may in
    rw (← c.self.view_is) (settles_set c.self.inside.seat c.self.inside.chunks c.settle.new.self (g.D.Disk.seen c.args.master.now) (g.D.Disk.seen c.settle.new.master)
    c.args.chunk (code_of c.args.target) c.settle.result c.settle.ensures may.targets)

pub settle-requires-clause-can : goal.settle-requires-clause-can
settle-requires-clause-can g c = can_chunk c.self.inside.seat c.self.inside.chunks (rw (← c.self.view_is) at c.requires.can)
