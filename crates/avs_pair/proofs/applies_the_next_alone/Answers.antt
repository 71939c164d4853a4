use Rattle.avs_pair.proofs.Always.{reached_sound}
use Rattle.avs_pair.proofs.Going.{changes_by_next}
use Rattle.avs_pair.proofs.applies_the_next_alone.Goals as goal

pub returns : goal.returns
returns c = λ p m r can. changes_by_next p m (reached_sound p r) can
