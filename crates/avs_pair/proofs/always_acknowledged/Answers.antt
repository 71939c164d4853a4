use Rattle.avs_pair.proofs.Always.{reached_sound}
use Rattle.avs_pair.proofs.Laws.{sound_acknowledged}
use Rattle.avs_pair.proofs.always_acknowledged.Goals as goal

pub returns : goal.returns
returns c = λ p r. sound_acknowledged p (reached_sound p r)
