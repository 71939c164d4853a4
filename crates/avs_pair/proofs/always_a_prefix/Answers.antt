use Rattle.avs_pair.proofs.Always.{reached_sound}
use Rattle.avs_pair.proofs.Laws.{sound_prefix}
use Rattle.avs_pair.proofs.always_a_prefix.Goals as goal

pub returns : goal.returns
returns c = λ p r. sound_prefix p (reached_sound p r)
