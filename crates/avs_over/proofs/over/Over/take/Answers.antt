use Rattle.std.proofs.Common.{rules, ◌≡◌, Option, None, Some, subst}
use Rattle.avs_over.specs.Slots.{Owners, FindsFree}
use Rattle.avs_over.specs.Over.{OverSet}
use Rattle.avs_over.proofs.Taking.{takes_one, takes_none}
use Rattle.avs_over.proofs.over.Over.take.Goals as goal

pub returns-in_err-slot : goal.returns-in_err-slot
returns-in_err-slot g c =
    let o : OverSet = record { disk = g.D.Disk.seen c.self.inside.disk; owners = c.self.inside.owners.items } in
    let finds = subst (λ (l : Owners). FindsFree l c.self.inside.low None) c.deref.ensures.value c.in_err-slot.ensures in
    rw c.from_residual.ensures (rw (← c.self.view_is) (takes_none o c.self.inside.low c.args.set c.self.invariant.taken finds))

pub returns : goal.returns
returns g c =
    let o : OverSet = record { disk = g.D.Disk.seen c.self.inside.disk; owners = c.self.inside.owners.items } in
    let finds = subst (λ (l : Owners). FindsFree l c.self.inside.low (Some c.in_ok-slot.slot)) c.deref.ensures.value c.in_ok-slot.ensures in
    rw (← c.self.view_is) (takes_one o c.self.inside.low c.args.set c.self.invariant.taken c.in_ok-slot.slot finds)
