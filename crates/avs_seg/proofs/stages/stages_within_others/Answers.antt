use Rattle.avs_seg.proofs.StagedLaws.{run-within, stopped-within, stopped-only}
use Rattle.avs_seg.proofs.stages.stages_within_others.Goals as goal

pub returns-clause-run : goal.returns-clause-run
returns-clause-run g c = run-within g.A.Staged.does g.B.Staged.does

pub returns-clause-stopped : goal.returns-clause-stopped
returns-clause-stopped g c = stopped-within g.A.Staged.does g.B.Staged.does

pub returns-clause-only : goal.returns-clause-only
returns-clause-only g c = stopped-only g.A.Staged.does g.B.Staged.does
