use Rattle.avs_pair.proofs.Always.{reached_sound}
use Rattle.avs_pair.proofs.Laws.{sound_faithful}
use Rattle.avs_pair.proofs.always_faithful.Goals as goal

pub returns : goal.returns
returns c = λ p r. sound_faithful p (reached_sound p r)
