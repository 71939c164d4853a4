use Rattle.std.proofs.Common.{ap}
use Rattle.avs_chunks.specs.ChunkSet.{ChunkSet}
use Rattle.avs_held.specs.Held.{chunk_set}
use Rattle.avs_held.proofs.Room.{room_taken}
use Rattle.avs_held.proofs.held.HeldSet.take_shadow.Goals as goal

pub returns-clause-rest : goal.returns-clause-rest
returns-clause-rest g c = rw (← c.self.view_is) (ap (λ (x : ChunkSet). chunk_set c.self.inside.seat x) c.take_shadow.ensures.rest)

pub invariant_of-self : goal.invariant_of-self
invariant_of-self g c = room_taken c.self.inside.chunks c.take_shadow.new.self c.take_shadow.ensures.rest c.self.invariant
