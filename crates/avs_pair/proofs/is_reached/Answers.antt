use Rattle.avs_pair.proofs.Always.{reached_start, reached_more}
use Rattle.avs_pair.proofs.is_reached.Goals as goal

pub returns-clause-start : goal.returns-clause-start
returns-clause-start c = reached_start

pub returns-clause-more : goal.returns-clause-more
returns-clause-more c = reached_more
