use Rattle.std.proofs.Common.{ap}
use Rattle.avs_compact.specs.CompactSet.{CompactSet}
use Rattle.avs_held.specs.Held.{compact_set}
use Rattle.avs_held.proofs.SlotSteps.{taken_seat}
use Rattle.avs_held.proofs.slots.HeldCompact.take_shadow.Goals as goal

pub invariant_of-self : goal.invariant_of-self
invariant_of-self g c = taken_seat c.self.inside.seat c.self.inside.compact c.take_shadow.new.self c.take_shadow.ensures.rest c.self.invariant

pub returns-clause-rest : goal.returns-clause-rest
returns-clause-rest g c = rw (← c.self.view_is) (ap (λ (x : CompactSet). compact_set c.self.inside.seat x) c.take_shadow.ensures.rest)
