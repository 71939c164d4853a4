use Rattle.std.proofs.Common.{◌-◌, ◌<◌, Bool, IsTrue, length, subst, sym, arith, rules}
use Rattle.avs_dev.proofs.BareViews.{arms_seen}
use Rattle.avs_dev.proofs.bare.Bare.arm.Goals as goal

pub returns-then-place-len : goal.returns-then-place-len
returns-then-place-len g c =
    let i = c.self.inside in
    let place = c.args.disk - 1 in
    let was = c.index_mut.result.now in
    let arms = c.arm-then-place-len.ensures in
    let lt : place < length i.volumes.items = search rules in
    arms_seen g.D.Disk.seen i.state i.volumes.items i.note c.args.self.now c.self.view_is place was c.index_mut.ensures.value lt c.arm-then-place-len.new.self c.args.tear c.arm-then-place-len.result arms
    (λ steady. subst (λ (b : Bool). IsTrue b) (sym arms.answer) (g.met.D.Arm.steady_arms was steady)) c.args.disk (omega (arith, c.if-disk-eq0.false))
