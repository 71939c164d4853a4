use Rattle.avs_pair.proofs.Always.{reached_sound}
use Rattle.avs_pair.proofs.Laws.{sound_in_session, sound_settled}
use Rattle.avs_pair.proofs.always_in_session.Goals as goal

pub returns-clause-session : goal.returns-clause-session
returns-clause-session c = λ p r. sound_in_session p (reached_sound p r)

pub returns-clause-mark : goal.returns-clause-mark
returns-clause-mark c = λ p r. (reached_sound p r).mark

pub returns-clause-once_more : goal.returns-clause-once_more
returns-clause-once_more c = λ p r. sound_settled p (reached_sound p r)

pub returns-clause-here : goal.returns-clause-here
returns-clause-here c = λ p r set. ((reached_sound p r).source_here.within set, (reached_sound p r).target_here.within set)
