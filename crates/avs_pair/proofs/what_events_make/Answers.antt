use Rattle.std.proofs.Common.{refl}
use Rattle.avs_pair.proofs.Making.{makes_logged, makes_known, makes_begun, makes_reversed}
use Rattle.avs_pair.proofs.what_events_make.Goals as goal

pub returns-clause-logged_source : goal.returns-clause-logged_source
returns-clause-logged_source c = makes_logged

pub returns-clause-logged_target : goal.returns-clause-logged_target
returns-clause-logged_target c = λ queued p set at bytes. refl

pub returns-clause-back : goal.returns-clause-back
returns-clause-back c = makes_known

pub returns-clause-resumed : goal.returns-clause-resumed
returns-clause-resumed c = λ queued p. refl

pub returns-clause-begun : goal.returns-clause-begun
returns-clause-begun c = λ queued p full most. makes_begun p full most

pub returns-clause-reversed : goal.returns-clause-reversed
returns-clause-reversed c = λ queued p full most. makes_reversed p full most
