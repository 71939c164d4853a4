use Rattle.std.proofs.Common.{◌*◌, ℕ, subst}
use Rattle.avs_chunks.specs.ChunkSet.{chunks_of, state_of}
use Rattle.avs_chunks.specs.Staging.{split_to}
use Rattle.avs_held.specs.Held.{chunk_set}
use Rattle.avs_held.specs.Staging.{StagesStates}
use Rattle.avs_held.proofs.Stagings.{stages_set, split_same}
use Rattle.avs_held.proofs.held.HeldSet.stage_split.Goals as goal

pub returns : goal.returns
returns g c = rw (← c.self.view_is) (subst (λ (f : ℕ → ℕ). StagesStates (chunk_set c.self.inside.seat c.self.inside.chunks) f c.args.part 1 c.stage_split.result (chunk_set c.self.inside.seat c.stage_split.new.self))
    (split_same c.self.inside.seat c.self.inside.chunks c.args.part c.args.split.now c.self.invariant.kind)
    (stages_set c.self.inside.seat c.self.inside.chunks c.stage_split.new.self (split_to (chunks_of c.self.inside.chunks) c.args.split.now (2048 * c.args.part) (state_of c.self.inside.chunks))
    c.args.part 1 c.stage_split.result c.self.invariant.kind c.stage_split.ensures))
