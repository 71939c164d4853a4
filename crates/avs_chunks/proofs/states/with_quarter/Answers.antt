use Rattle.std.proofs.Common.{arith}
use Rattle.avs_chunks.proofs.Quarters.{set_quarter, same_quarter}
use Rattle.avs_chunks.proofs.states.with_quarter.Goals as goal

pub returns-in-0-clause-now : goal.returns-in-0-clause-now
returns-in-0-clause-now c = set_quarter _ _ _ c.requires.place (λ e. omega arith) (λ e. omega arith) (λ e. omega arith) (λ e. omega arith)

pub returns-in-0-clause-others : goal.returns-in-0-clause-others
returns-in-0-clause-others c k lt ne = same_quarter _ _ k lt (λ e. omega arith) (λ e. omega arith) (λ e. omega arith) (λ e. omega arith)

pub returns-in-1-clause-now : goal.returns-in-1-clause-now
returns-in-1-clause-now c = set_quarter _ _ _ c.requires.place (λ e. omega arith) (λ e. omega arith) (λ e. omega arith) (λ e. omega arith)

pub returns-in-1-clause-others : goal.returns-in-1-clause-others
returns-in-1-clause-others c k lt ne = same_quarter _ _ k lt (λ e. omega arith) (λ e. omega arith) (λ e. omega arith) (λ e. omega arith)

pub returns-in-2-clause-now : goal.returns-in-2-clause-now
returns-in-2-clause-now c = set_quarter _ _ _ c.requires.place (λ e. omega arith) (λ e. omega arith) (λ e. omega arith) (λ e. omega arith)

pub returns-in-2-clause-others : goal.returns-in-2-clause-others
returns-in-2-clause-others c k lt ne = same_quarter _ _ k lt (λ e. omega arith) (λ e. omega arith) (λ e. omega arith) (λ e. omega arith)

pub returns-in_default-clause-now : goal.returns-in_default-clause-now
returns-in_default-clause-now c = set_quarter _ _ _ c.requires.place (λ e. omega arith) (λ e. omega arith) (λ e. omega arith) (λ e. omega arith)

pub returns-in_default-clause-others : goal.returns-in_default-clause-others
returns-in_default-clause-others c k lt ne = same_quarter _ _ k lt (λ e. omega arith) (λ e. omega arith) (λ e. omega arith) (λ e. omega arith)
