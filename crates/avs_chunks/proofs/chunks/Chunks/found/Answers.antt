use Rattle.std.proofs.Common.{rules, ℕ, ◌∙◌, Some, subst, ap, List, arith}
use Rattle.avs_chunks.specs.Making.{HaveRoom}
use Rattle.avs_chunks.specs.States.{state_in}
use Rattle.avs_chunks.specs.ChunkSet.{ChunkSet, state_of}
use Rattle.avs_chunks.proofs.Formatting.{IsClean-zeros, Fits-room, state_in-zeros}
use Rattle.avs_chunks.proofs.chunks.Chunks.found.Goals as goal

pub over-requires-clause-kept : goal.over-requires-clause-kept
over-requires-clause-kept g c = record {
  room = search rules;
  small = search rules;
  laid = record { first = search rules; len = search rules; fits = search rules };
  live = record { long = search rules; clean = IsClean-zeros c.in-Ok.room.memory.items _ _ c.in-Ok.ensures.memory };
  staged = record { long = search rules; clean = IsClean-zeros c.in-Ok.room.next.items _ _ c.in-Ok.ensures.next };
}

pub returns-in-Ok-clause-found : goal.returns-in-Ok-clause-found
returns-in-Ok-clause-found g c =
    let is = c.over.ensures in
    let room = subst (λ (n : ℕ). HaveRoom (Some (g.D.Disk.seen c.args.shadow).size) n c.args.blocks) c.blocks-3.ensures (subst (λ (n : ℕ). HaveRoom (Some n) c.blocks-3.result c.args.blocks) c.blocks-2.ensures c.in-Ok.ensures.fits) in
    record {
      stands = record {
        is = search rules;
        kind_is = ap (λ (s : ChunkSet). s.kind) is;
        blocks_is = ap (λ (s : ChunkSet). s.blocks) is;
        shadow_same = ap (λ (s : ChunkSet). s.shadow) is;
      };
      fits = Fits-room (Some (g.D.Disk.seen c.args.shadow)) (g.D.Disk.seen c.args.bitmap) c.args.blocks room;
      states = λ k lt. ap (λ (s : ChunkSet). state_of s k) is ∙ ap (λ (l : List ℕ). state_in l k) c.in-Ok.ensures.memory ∙ state_in-zeros _ k;
    }
