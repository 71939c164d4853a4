use Rattle.std.proofs.Common.{◌*◌}
use Rattle.avs_chunks.specs.ChunkSet.{chunks_of}
use Rattle.avs_chunks.specs.Disks.{Shadow}
use Rattle.avs_chunks.specs.Staging.{told_by, part_end}
use Rattle.avs_held.proofs.Room.{room_kept}
use Rattle.avs_held.proofs.Stagings.{copies_set}
use Rattle.avs_held.proofs.Settled.{can_chunk}
use Rattle.avs_held.proofs.held.HeldSet.copy_part.Goals as goal

pub invariant_of-self : goal.invariant_of-self
invariant_of-self g c =
    let keeps = c.copy_part.ensures.keeps in
    room_kept c.self.inside.chunks c.copy_part.new.self keeps.shape.kind keeps.shape.blocks keeps.shape.there (keeps.goes.lasts Shadow).size c.self.invariant

pub returns : goal.returns
returns g c = rw (← c.self.view_is) (λ o. copies_set c.self.inside.seat c.self.inside.chunks c.copy_part.new.self (g.D.Disk.seen c.args.master.now) (g.D.Disk.seen c.copy_part.new.master)
    (told_by c.args.split.now c.args.part) (2048 * c.args.part) (part_end (chunks_of c.self.inside.chunks) c.args.part) c.copy_part.result c.copy_part.ensures o c.self.invariant.kind)

pub copy_part-requires-clause-can : goal.copy_part-requires-clause-can
copy_part-requires-clause-can g c = can_chunk c.self.inside.seat c.self.inside.chunks (rw (← c.self.view_is) at c.requires.can)
