use Rattle.std.proofs.Common.{◌≡◌, ◌<◌, None, length, map, arith}
use Rattle.avs_held.specs.Held.{seen_of}
use Rattle.avs_group.proofs.AtPlace.{master_lt, not_none, blocks_at, there_at, copies_at, copied_kept}
use Rattle.avs_group.proofs.group.ShadowGroup.copy_at.Goals as goal

pub index_mut-requires : goal.index_mut-requires
index_mut-requires g c =
    let i = c.self.inside in
    let lt : c.args.place < length (map seen_of i.sets.items) = rw (← c.self.view_is) at c.requires.place in
    let low = master_lt g.D.Disk.seen i.state i.volumes.items i.overs.items i.sets.items c.self.invariant c.args.place lt c.index_mut-set.result.now c.index_mut-set.ensures.value c.seat.result.master c.seat.ensures.master in
    omega (arith, low, i.volumes.ok.0)

pub returns-in_default : goal.returns-in_default
returns-in_default g c =
    let i = c.self.inside in
    let lt : c.args.place < length (map seen_of i.sets.items) = rw (← c.self.view_is) at c.requires.place in
    let is : c.index_mut.result.now ≡ None = c.in_default.is in
    absurd (not_none g.D.Disk.seen i.state i.volumes.items i.overs.items i.sets.items c.self.invariant c.args.place lt c.index_mut-set.result.now c.index_mut-set.ensures.value c.seat.result.master c.seat.ensures.master
    c.index_mut.result.now c.index_mut.ensures.value is)

pub invariant_of-self : goal.invariant_of-self
invariant_of-self g c =
    let i = c.self.inside in
    let lt : c.args.place < length (map seen_of i.sets.items) = rw (← c.self.view_is) at c.requires.place in
    absurd (not_none g.D.Disk.seen i.state i.volumes.items i.overs.items i.sets.items c.self.invariant c.args.place lt c.index_mut-set.result.now c.index_mut-set.ensures.value c.seat.result.master c.seat.ensures.master
    c.index_mut.result.now c.index_mut.ensures.value c.in_default.is)

pub copy_one-requires-clause-blocks : goal.copy_one-requires-clause-blocks
copy_one-requires-clause-blocks g c =
    let i = c.self.inside in
    let lt : c.args.place < length (map seen_of i.sets.items) = rw (← c.self.view_is) at c.requires.place in
    blocks_at g.D.Disk.seen i.state i.volumes.items i.overs.items i.sets.items c.self.invariant c.args.place lt c.index_mut-set.result.now c.index_mut-set.ensures.value c.seat.result.master c.seat.ensures.master
    c.index_mut.result.now c.index_mut.ensures.value c.in-Some.master c.in-Some.is

pub copy_one-requires-clause-there : goal.copy_one-requires-clause-there
copy_one-requires-clause-there g c =
    let i = c.self.inside in
    let lt : c.args.place < length (map seen_of i.sets.items) = rw (← c.self.view_is) at c.requires.place in
    let here = rw (← c.self.view_is) at c.requires.here in
    there_at g.D.Disk.seen i.state i.volumes.items i.overs.items i.sets.items c.self.invariant c.args.place lt c.index_mut-set.result.now c.index_mut-set.ensures.value c.seat.result.master c.seat.ensures.master
    c.index_mut.result.now c.index_mut.ensures.value c.in-Some.master c.in-Some.is here

pub invariant_of-self-2 : goal.invariant_of-self-2
invariant_of-self-2 g c =
    let i = c.self.inside in
    let lt : c.args.place < length (map seen_of i.sets.items) = rw (← c.self.view_is) at c.requires.place in
    let live = rw (← c.self.view_is) at c.requires.enabled in
    copied_kept g.D.Disk.seen i.state i.volumes.items i.overs.items i.sets.items c.self.invariant c.args.place lt c.index_mut-set.result.now c.index_mut-set.ensures.value c.seat.result.master c.seat.ensures.master
    c.index_mut.result.now c.index_mut.ensures.value c.in-Some.master c.in-Some.is live c.copy_one.new.self c.copy_one.new.master c.copy_one.result c.copy_one.ensures

pub returns : goal.returns
returns g c =
    let i = c.self.inside in
    let lt : c.args.place < length (map seen_of i.sets.items) = rw (← c.self.view_is) at c.requires.place in
    let live = rw (← c.self.view_is) at c.requires.enabled in
    rw (← c.self.view_is) (copies_at g.D.Disk.seen i.state i.volumes.items i.overs.items i.sets.items c.self.invariant c.args.place lt c.index_mut-set.result.now c.index_mut-set.ensures.value c.seat.result.master c.seat.ensures.master
    c.index_mut.result.now c.index_mut.ensures.value c.in-Some.master c.in-Some.is live c.copy_one.new.self c.copy_one.new.master c.copy_one.result c.copy_one.ensures)
