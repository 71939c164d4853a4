use Rattle.avs_pair.proofs.Always.{reached_sound}
use Rattle.avs_pair.proofs.Going.{goes_on, remembers}
use Rattle.avs_pair.proofs.never_back.Goals as goal

pub returns-clause-onward : goal.returns-clause-onward
returns-clause-onward c = goes_on

pub returns-clause-known : goal.returns-clause-known
returns-clause-known c = λ p ms r some same can stays. remembers p ms (reached_sound p r) some same can stays
