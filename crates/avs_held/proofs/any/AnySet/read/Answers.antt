use Rattle.avs_compact.specs.CompactSet.{over_of}
use Rattle.avs_held.proofs.any.AnySet.read.Goals as goal

pub returns-in-Chunks-clause-reads : goal.returns-in-Chunks-clause-reads
returns-in-Chunks-clause-reads g c = rw c.in-Chunks.is (c.read.ensures (over_of c.args.over.now))
