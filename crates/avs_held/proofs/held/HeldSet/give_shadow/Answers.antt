use Rattle.std.proofs.Common.{ap}
use Rattle.avs_chunks.specs.ChunkSet.{ChunkSet}
use Rattle.avs_held.specs.Held.{chunk_set}
use Rattle.avs_held.proofs.Room.{room_given}
use Rattle.avs_held.proofs.held.HeldSet.give_shadow.Goals as goal

pub returns : goal.returns
returns g c = rw (← c.self.view_is) (ap (λ (x : ChunkSet). chunk_set c.self.inside.seat x) c.give_shadow.ensures)

pub invariant_of-self : goal.invariant_of-self
invariant_of-self g c =
    let room = rw (← c.self.view_is) at c.requires.room in
    room_given c.self.inside.chunks c.give_shadow.new.self (g.D.Disk.seen c.args.shadow) c.give_shadow.ensures room c.self.invariant
