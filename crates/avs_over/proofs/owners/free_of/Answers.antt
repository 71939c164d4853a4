use Rattle.std.proofs.Common.{arith}
use Rattle.avs_over.proofs.Giving.{freed_all}
use Rattle.avs_over.proofs.owners.free_of.Goals as goal

pub returns-clause-owners : goal.returns-clause-owners
returns-clause-owners c = freed_all c.args.owners.now c.loop-slot.owners c.args.set c.loop-slot.slot c.loop-slot.invariant.len (omega arith) c.loop-slot.invariant.freed
