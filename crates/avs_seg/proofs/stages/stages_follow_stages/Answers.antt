use Rattle.avs_seg.proofs.StagedLaws.{run-append, stopped-left, stopped-right, stopped-append}
use Rattle.avs_seg.proofs.stages.stages_follow_stages.Goals as goal

pub returns-clause-run : goal.returns-clause-run
returns-clause-run g c = run-append g.A.Staged.does

pub returns-clause-in_first : goal.returns-clause-in_first
returns-clause-in_first g c = stopped-left g.A.Staged.does

pub returns-clause-in_second : goal.returns-clause-in_second
returns-clause-in_second g c = stopped-right g.A.Staged.does

pub returns-clause-in_either : goal.returns-clause-in_either
returns-clause-in_either g c = stopped-append g.A.Staged.does
