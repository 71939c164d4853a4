use Rattle.avs_chunks.specs.States.{area_len}
use Rattle.avs_chunks.specs.ChunkSet.{chunks_of, state_of}
use Rattle.avs_chunks.specs.Staging.{to_master}
use Rattle.avs_held.proofs.Stagings.{stages_set}
use Rattle.avs_held.proofs.held.HeldSet.stage_master.Goals as goal

pub returns : goal.returns
returns g c = rw (← c.self.view_is) (stages_set c.self.inside.seat c.self.inside.chunks c.turn_to_master.new.self
    (λ k. to_master (state_of c.self.inside.chunks k)) 0 (area_len (chunks_of c.self.inside.chunks)) c.turn_to_master.result c.self.invariant.kind c.turn_to_master.ensures)
