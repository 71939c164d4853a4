use Rattle.avs_held.proofs.held.HeldSet.kind.Goals as goal

pub returns-clause-chunks : goal.returns-clause-chunks
returns-clause-chunks g c = rw (← c.self.view_is) c.self.invariant.kind
