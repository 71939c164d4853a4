use Rattle.std.proofs.Common.{◌≡◌, Some, length, sym, ◌∙◌, arith}
use Rattle.std.proofs.lemmas.Option.{slice_get_within}
use Rattle.avs_host.proofs.Volumes.{few, stands_at, is_same}
use Rattle.avs_host.proofs.Numbers.{arms_none, arms_at}
use Rattle.avs_host.proofs.store.HostStore.arm.Goals as goal

pub returns-then-len-disk : goal.returns-then-len-disk
returns-then-len-disk g c = rw (← c.self.view_is) (
    let i = c.self.inside in
    let long : length i.disks.items ≡ length i.stack = c.self.invariant in
    let some = few i.disks.items in
    arms_none g.D.Disk.seen i.stack i.disks.items i.stamp c.self.invariant c.args.disk c.args.tear (omega (arith, c.len.ensures.count, c.if-len-disk.true)))

pub index_mut-requires : goal.index_mut-requires
index_mut-requires g c =
    let i = c.self.inside in
    let found = rw c.deref.ensures.value at c.in-Some.ensures.found in
    let inside = slice_get_within i.disks.items c.in-Some.place (Some found.there.0) found.there.1 in
    omega (arith, i.disks.ok.0)

pub returns-in-Some : goal.returns-in-Some
returns-in-Some g c = rw (← c.self.view_is) (
    let i = c.self.inside in
    let place = c.in-Some.place in
    let found = rw c.deref.ensures.value at c.in-Some.ensures.found in
    let was = c.index_mut.result.now in
    let inside = slice_get_within i.disks.items place (Some found.there.0) found.there.1 in
    let same = is_same was (Some found.there.0) (sym (stands_at i.disks.items place was inside c.index_mut.ensures.value) ∙ found.there.1) in
    arms_at g.D.Disk.seen i.stack i.disks.items i.stamp c.self.invariant c.args.disk place found.there.0 c.arm.new.disk c.args.tear c.arm.result
    c.len.ensures.apart found.there.1 found.before (rw same at c.arm.ensures) (g.met.D.Arm.steady_arms found.there.0))

pub returns-in-None : goal.returns-in-None
returns-in-None g c = rw (← c.self.view_is) (
    let i = c.self.inside in
    let none = rw c.deref.ensures.value at c.in-None.ensures.none in
    arms_none g.D.Disk.seen i.stack i.disks.items i.stamp c.self.invariant c.args.disk c.args.tear none)
