use Rattle.avs_held.proofs.Stagings.{turns_set}
use Rattle.avs_held.proofs.held.HeldSet.turn.Goals as goal

pub returns : goal.returns
returns g c = rw (← c.self.view_is) (turns_set c.self.inside.seat c.self.inside.chunks c.turn.new.self c.turn.ensures)
