use Rattle.avs_pair.proofs.Always.{reached_sound}
use Rattle.avs_pair.proofs.Laws.{sound_equal}
use Rattle.avs_pair.proofs.equal_at_the_mark.Goals as goal

pub returns : goal.returns
returns c = λ p r. sound_equal p (reached_sound p r)
