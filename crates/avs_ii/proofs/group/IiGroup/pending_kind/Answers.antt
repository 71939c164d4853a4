use Rattle.std.proofs.Common.{map, arith}
use Rattle.avs_ii.specs.Kept.{IsHeld}
use Rattle.avs_ii.proofs.Making.{held_one}
use Rattle.avs_ii.proofs.group.IiGroup.pending_kind.Goals as goal

pub is_live-requires : goal.is_live-requires
is_live-requires g c =
    let i = c.self.inside in
    let h = held_one (IsHeld i.block.slots (map g.D.Disk.seen i.volumes.items)) i.set c.in-Some.held c.in-Some.is c.self.invariant.0.held in
    omega (arith, h.slot, c.if-held-slot.true)
