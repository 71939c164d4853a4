use Rattle.std.proofs.Common.{ap}
use Rattle.avs_compact.specs.CompactSet.{CompactSet}
use Rattle.avs_held.specs.Held.{compact_set}
use Rattle.avs_held.proofs.SlotSteps.{given_seat}
use Rattle.avs_held.proofs.slots.HeldCompact.give_shadow.Goals as goal

pub invariant_of-self : goal.invariant_of-self
invariant_of-self g c =
    let fits = rw (← c.self.view_is) at c.requires.fits in
    given_seat c.self.inside.seat c.self.inside.compact c.give_shadow.new.self (g.D.Disk.seen c.args.shadow) c.give_shadow.ensures fits.1 c.self.invariant

pub returns : goal.returns
returns g c = rw (← c.self.view_is) (ap (λ (x : CompactSet). compact_set c.self.inside.seat x) c.give_shadow.ensures)
