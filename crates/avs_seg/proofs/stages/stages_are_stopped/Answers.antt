use Rattle.std.specs.Prelude.{IsTrue}
use Rattle.avs_seg.proofs.StagedLaws.{stopped-before, stopped-done, stopped-keeps}
use Rattle.avs_seg.proofs.stages.stages_are_stopped.Goals as goal

pub returns-clause-before : goal.returns-clause-before
returns-clause-before g c = stopped-before g.A.Staged.does

pub returns-clause-behind : goal.returns-clause-behind
returns-clause-behind g c = stopped-done g.A.Staged.does

pub returns-clause-keeps : goal.returns-clause-keeps
returns-clause-keeps g c = λ kept. stopped-keeps g.A.Staged.does (λ s. IsTrue (kept s))
