use Rattle.avs_held.proofs.SlotStagings.{turns_set, turned_seat}
use Rattle.avs_held.proofs.slots.HeldCompact.turn.Goals as goal

pub invariant_of-self : goal.invariant_of-self
invariant_of-self g c = turned_seat c.self.inside.seat c.self.inside.compact c.turn.new.self c.self.invariant c.turn.ensures

pub returns : goal.returns
returns g c = rw (← c.self.view_is) (turns_set c.self.inside.seat c.self.inside.compact c.turn.new.self c.turn.ensures)
