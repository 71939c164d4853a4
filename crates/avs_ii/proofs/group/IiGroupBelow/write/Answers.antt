use Rattle.avs_dev.proofs.Soundly.{writes_where}
use Rattle.avs_ii.proofs.group.IiGroupBelow.write.Goals as goal

pub returns-clause-writes : goal.returns-clause-writes
returns-clause-writes g c = writes_where _ _ _ _ _ _ c.write_at.ensures.writes
