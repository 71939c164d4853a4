use Rattle.avs_held.proofs.Keeping.{chunks_served}
use Rattle.avs_held.proofs.held.HeldSet.is_served.Goals as goal

pub returns-clause-served : goal.returns-clause-served
returns-clause-served g c = rw (← c.self.view_is) (λ slots. chunks_served c.self.inside.seat c.self.inside.chunks slots)
