use Rattle.std.proofs.Common.{ℕ, Option, subst}
use Rattle.std.specs.Option.{option_map}
use Rattle.avs_chunk.specs.Making.{HaveRoom}
use Rattle.avs_chunk.proofs.Formatting.{Loads-found}
use Rattle.avs_chunk.proofs.chunks.Chunks.load.Goals as goal

pub returns-in-Ok-clause-loaded : goal.returns-in-Ok-clause-loaded
returns-in-Ok-clause-loaded g c =
    Loads-found c.args.kind (option_map g.D.Disk.seen c.args.shadow) (g.D.Disk.seen c.args.bitmap) (g.D.Disk.seen c.find.new.disk) c.args.blocks c.args.live_b c.in-Ok.room.memory.items c.over.result
    (subst (λ (o : Option ℕ). HaveRoom o (g.D.Disk.seen c.args.bitmap).size c.args.blocks) c.size_of.ensures c.in-Ok.ensures.fits) c.find.ensures.rest c.find.ensures.later c.in-Ok.ensures.label c.in-Ok.ensures.area c.over.ensures
