use Rattle.avs_compact.specs.CompactSet.{over_of}
use Rattle.avs_held.proofs.any.AnySet.copy_part.Goals as goal

pub copy_part-requires-in-Compact-clause-room : goal.copy_part-requires-in-Compact-clause-room
copy_part-requires-in-Compact-clause-room g c = rw c.in-Compact.is at c.requires.room

pub returns-in-Chunks : goal.returns-in-Chunks
returns-in-Chunks g c = rw c.in-Chunks.is (c.copy_part.ensures (over_of c.args.over.now))
