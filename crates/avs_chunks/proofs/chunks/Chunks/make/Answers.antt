use Rattle.std.proofs.Common.{rules, ℕ, Some, subst, arith}
use Rattle.avs_chunks.specs.Making.{HaveRoom}
use Rattle.avs_chunks.proofs.Formatting.{Makes-format, IsClean-zeros}
use Rattle.avs_chunks.proofs.chunks.Chunks.make.Goals as goal

pub over-requires-clause-kept : goal.over-requires-clause-kept
over-requires-clause-kept g c = record {
  room = search rules;
  small = search rules;
  laid = record { first = search rules; len = search rules; fits = search rules };
  live = record { long = search rules; clean = IsClean-zeros c.in-Ok.room.memory.items _ _ c.in-Ok.ensures.memory };
  staged = record { long = search rules; clean = IsClean-zeros c.in-Ok.room.next.items _ _ c.in-Ok.ensures.next };
}

pub returns-in-Ok-format-clause-made : goal.returns-in-Ok-format-clause-made
returns-in-Ok-format-clause-made g c =
    Makes-format c.args.kind (g.D.Disk.seen c.args.shadow) (g.D.Disk.seen c.args.bitmap) (g.D.Disk.seen c.format.new.disk) c.args.blocks c.in-Ok.room.memory.items c.in-Ok.room.next.items (search rules)
    (subst (λ (n : ℕ). HaveRoom (Some (g.D.Disk.seen c.args.shadow).size) n c.args.blocks) c.blocks-3.ensures (subst (λ (n : ℕ). HaveRoom (Some n) c.blocks-3.result c.args.blocks) c.blocks-2.ensures c.in-Ok.ensures.fits))
    c.in-Ok.ensures.memory
    c.format.result _ c.over.result c.in-Ok-format.is c.format.ensures c.over.ensures
