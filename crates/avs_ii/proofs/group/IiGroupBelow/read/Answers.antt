use Rattle.avs_dev.proofs.Soundly.{reads_where}
use Rattle.avs_ii.proofs.group.IiGroupBelow.read.Goals as goal

pub returns-clause-reads : goal.returns-clause-reads
returns-clause-reads g c = reads_where _ _ _ _ _ _ c.read_at.ensures.reads
