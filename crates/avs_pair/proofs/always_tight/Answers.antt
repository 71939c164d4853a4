use Rattle.avs_pair.proofs.Always.{reached_sound}
use Rattle.avs_pair.proofs.Knowing.{weighed_same}
use Rattle.avs_pair.proofs.Laws.{sound_tight, none_waits}
use Rattle.avs_pair.proofs.always_tight.Goals as goal

pub returns-clause-tight : goal.returns-clause-tight
returns-clause-tight c = λ p r. sound_tight p (reached_sound p r)

pub returns-clause-mark : goal.returns-clause-mark
returns-clause-mark c = none_waits

pub returns-clause-weighed : goal.returns-clause-weighed
returns-clause-weighed c = λ p r sends. record { each = weighed_same p (reached_sound p r) sends }
