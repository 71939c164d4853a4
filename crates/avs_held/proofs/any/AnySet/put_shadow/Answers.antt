use Rattle.avs_compact.specs.CompactSet.{over_of}
use Rattle.avs_held.proofs.any.AnySet.put_shadow.Goals as goal

pub returns-in-Chunks-clause-writes : goal.returns-in-Chunks-clause-writes
returns-in-Chunks-clause-writes g c = rw c.in-Chunks.is (λ m. c.put_shadow.ensures m (over_of c.args.over.now))

pub returns-in-Compact-clause-writes : goal.returns-in-Compact-clause-writes
returns-in-Compact-clause-writes g c = rw c.in-Compact.is c.put_shadow-in-Compact.ensures.writes
