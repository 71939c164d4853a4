use Rattle.avs_held.proofs.any.AnySet.stage_shadow.Goals as goal

pub returns-in-Chunks : goal.returns-in-Chunks
returns-in-Chunks g c = rw c.in-Chunks.is c.stage_shadow.ensures

pub returns-in-Compact : goal.returns-in-Compact
returns-in-Compact g c = rw c.in-Compact.is c.stage_shadow-in-Compact.ensures
