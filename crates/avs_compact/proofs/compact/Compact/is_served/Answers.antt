use Rattle.std.proofs.Common.{arith}
use Rattle.std.specs.Option.{option_map}
use Rattle.avs_compact.specs.CompactSet.{CompactSet, over_of}
use Rattle.avs_compact.proofs.Served.{are_there, lacks_slot}
use Rattle.avs_compact.proofs.compact.Compact.is_served.Goals as goal

pub returns-clause-served : goal.returns-clause-served
returns-clause-served g c =
    let i = c.self.inside in
    let s : CompactSet = record { set = i.set; own = i.own; shadow = option_map g.D.Disk.seen i.shadow; areas = i.flip; memory = i.memory.items; next = i.next.items; blocks = i.blocks; low = i.low; ahead = i.ahead } in
    rw (← c.self.view_is) (λ enough. are_there s (over_of c.args.over.now) i.tally c.self.invariant.3 (omega (arith, c.slots_of.ensures, c.fits.ensures.enough enough)))

pub returns-clause-lacks : goal.returns-clause-lacks
returns-clause-lacks g c =
    let i = c.self.inside in
    let s : CompactSet = record { set = i.set; own = i.own; shadow = option_map g.D.Disk.seen i.shadow; areas = i.flip; memory = i.memory.items; next = i.next.items; blocks = i.blocks; low = i.low; ahead = i.ahead } in
    rw (← c.self.view_is) (λ few. lacks_slot s (over_of c.args.over.now) i.tally c.self.invariant.3 (omega (arith, c.slots_of.ensures, c.fits.ensures.few few)))
