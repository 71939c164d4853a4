use Rattle.avs_flip.proofs.AreaLemmas.{Turns-not}
use Rattle.avs_flip.proofs.flip.Flip.turn.Goals as goal

pub returns : goal.returns
returns g c = rw (← c.self.view_is) (Turns-not _)
