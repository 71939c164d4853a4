use Rattle.avs_pair.proofs.Always.{reached_sound}
use Rattle.avs_pair.proofs.Laws.{sound_covers, sound_shares}
use Rattle.avs_pair.proofs.always_covered.Goals as goal

pub returns-clause-segments : goal.returns-clause-segments
returns-clause-segments c = λ p r. sound_covers p (reached_sound p r)

pub returns-clause-blocks : goal.returns-clause-blocks
returns-clause-blocks c = λ p r. sound_shares p (reached_sound p r)
