use Rattle.std.proofs.Common.{rules, ℕ, Option, subst, arith}
use Rattle.std.specs.Option.{option_map}
use Rattle.avs_chunks.specs.Making.{HaveRoom}
use Rattle.avs_chunks.proofs.Formatting.{Loads-found, IsClean-zeros}
use Rattle.avs_chunks.proofs.chunks.Chunks.load.Goals as goal

pub returns-in-Ok-clause-loaded : goal.returns-in-Ok-clause-loaded
returns-in-Ok-clause-loaded g c =
    Loads-found c.args.kind (option_map g.D.Disk.seen c.args.shadow) (g.D.Disk.seen c.args.bitmap) (g.D.Disk.seen c.find.new.disk) c.args.blocks c.args.live_b c.in-Ok.room.memory.items c.in-Ok.room.next.items c.over.result
    (subst (λ (o : Option ℕ). HaveRoom o (g.D.Disk.seen c.args.bitmap).size c.args.blocks) c.size_of.ensures c.in-Ok.ensures.fits) c.in-Ok.ensures.kept c.in-Ok.ensures.label c.in-Ok.ensures.area c.over.ensures

pub over-requires-clause-kept : goal.over-requires-clause-kept
over-requires-clause-kept g c = record {
  room = search rules;
  small = search rules;
  laid = record { first = search rules; len = search rules; fits = search rules };
  live = record { long = search rules; clean = c.in-Ok.ensures.clean };
  staged = record { long = search rules; clean = IsClean-zeros c.in-Ok.room.next.items _ _ c.in-Ok.ensures.next };
}
