use Rattle.avs_chunks.specs.States.{area_len}
use Rattle.avs_chunks.specs.ChunkSet.{chunks_of, state_of}
use Rattle.avs_chunks.specs.Staging.{to_shadow}
use Rattle.avs_held.proofs.Stagings.{stages_set}
use Rattle.avs_held.proofs.held.HeldSet.stage_shadow.Goals as goal

pub returns : goal.returns
returns g c = rw (← c.self.view_is) (stages_set c.self.inside.seat c.self.inside.chunks c.turn_to_shadow.new.self
    (λ k. to_shadow c.self.inside.chunks.kind c.args.whole (state_of c.self.inside.chunks k)) 0 (area_len (chunks_of c.self.inside.chunks)) c.turn_to_shadow.result c.self.invariant.kind c.turn_to_shadow.ensures)
