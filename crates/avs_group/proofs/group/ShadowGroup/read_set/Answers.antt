use Rattle.std.proofs.Common.{◌≡◌, ◌+◌, ◌/◌, ◌<◌, ◌≤◌, IsTrue, is_some, None, length, map, subst, arith}
use Rattle.avs_sets.specs.Sets.{SetSeen}
use Rattle.avs_held.specs.Held.{seen_of}
use Rattle.avs_group.proofs.AtPlace.{master_lt, not_none, blocks_at, reads_at, read_kept}
use Rattle.avs_group.proofs.ByName.{set_is, place_lt}
use Rattle.avs_group.proofs.group.ShadowGroup.read_set.Goals as goal

pub index_mut-requires : goal.index_mut-requires
index_mut-requires g c =
    let i = c.self.inside in
    let lt : c.args.place < length (map seen_of i.sets.items) = rw (← c.self.view_is) at c.requires.place in
    let low = master_lt g.D.Disk.seen i.state i.volumes.items i.overs.items i.sets.items c.self.invariant c.args.place lt c.index_mut-set.result.now c.index_mut-set.ensures.value c.seat.result.master c.seat.ensures.master in
    omega (arith, low, i.volumes.ok.0)

pub returns-in_default : goal.returns-in_default
returns-in_default g c =
    let i = c.self.inside in
    let lt : c.args.place < length (map seen_of i.sets.items) = rw (← c.self.view_is) at c.requires.place in
    let is : c.index_mut.result.now ≡ None = c.in_default.is in
    absurd (not_none g.D.Disk.seen i.state i.volumes.items i.overs.items i.sets.items c.self.invariant c.args.place lt c.index_mut-set.result.now c.index_mut-set.ensures.value c.seat.result.master c.seat.ensures.master
    c.index_mut.result.now c.index_mut.ensures.value is)

pub invariant_of-self : goal.invariant_of-self
invariant_of-self g c =
    let i = c.self.inside in
    let lt : c.args.place < length (map seen_of i.sets.items) = rw (← c.self.view_is) at c.requires.place in
    absurd (not_none g.D.Disk.seen i.state i.volumes.items i.overs.items i.sets.items c.self.invariant c.args.place lt c.index_mut-set.result.now c.index_mut-set.ensures.value c.seat.result.master c.seat.ensures.master
    c.index_mut.result.now c.index_mut.ensures.value c.in_default.is)

pub read-requires-clause-blocks : goal.read-requires-clause-blocks
read-requires-clause-blocks g c =
    let i = c.self.inside in
    let lt : c.args.place < length (map seen_of i.sets.items) = rw (← c.self.view_is) at c.requires.place in
    blocks_at g.D.Disk.seen i.state i.volumes.items i.overs.items i.sets.items c.self.invariant c.args.place lt c.index_mut-set.result.now c.index_mut-set.ensures.value c.seat.result.master c.seat.ensures.master
    c.index_mut.result.now c.index_mut.ensures.value c.in-Some.master c.in-Some.is

pub read-requires-clause-there : goal.read-requires-clause-there
read-requires-clause-there g c =
    let i = c.self.inside in
    let lt : c.args.place < length (map seen_of i.sets.items) = rw (← c.self.view_is) at c.requires.place in
    let is = set_is i.sets.items c.args.place c.index_mut-set.result.now (place_lt i.sets.items c.args.place lt) c.index_mut-set.ensures.value in
    subst (λ (s : SetSeen). IsTrue (is_some s.shadow)) is (rw (← c.self.view_is) at c.requires.there)

pub read-requires-clause-inside : goal.read-requires-clause-inside
read-requires-clause-inside g c =
    let i = c.self.inside in
    let lt : c.args.place < length (map seen_of i.sets.items) = rw (← c.self.view_is) at c.requires.place in
    let is = set_is i.sets.items c.args.place c.index_mut-set.result.now (place_lt i.sets.items c.args.place lt) c.index_mut-set.ensures.value in
    subst (λ (s : SetSeen). c.args.at + length c.args.out.now / 512 ≤ s.size.blocks) is (rw (← c.self.view_is) at c.requires.inside)

pub invariant_of-self-2 : goal.invariant_of-self-2
invariant_of-self-2 g c =
    let i = c.self.inside in
    let lt : c.args.place < length (map seen_of i.sets.items) = rw (← c.self.view_is) at c.requires.place in
    let live = rw (← c.self.view_is) at c.requires.enabled in
    read_kept g.D.Disk.seen i.state i.volumes.items i.overs.items i.sets.items c.self.invariant c.args.place lt c.index_mut-set.result.now c.index_mut-set.ensures.value c.seat.result.master c.seat.ensures.master
    c.index_mut.result.now c.index_mut.ensures.value c.in-Some.master c.in-Some.is live c.read.new.self c.read.new.master c.args.at c.read.new.out c.read.result c.read.ensures

pub returns : goal.returns
returns g c =
    let i = c.self.inside in
    let lt : c.args.place < length (map seen_of i.sets.items) = rw (← c.self.view_is) at c.requires.place in
    let live = rw (← c.self.view_is) at c.requires.enabled in
    rw (← c.self.view_is) (reads_at g.D.Disk.seen i.state i.volumes.items i.overs.items i.sets.items c.self.invariant c.args.place lt c.index_mut-set.result.now c.index_mut-set.ensures.value c.seat.result.master c.seat.ensures.master
    c.index_mut.result.now c.index_mut.ensures.value c.in-Some.master c.in-Some.is live c.read.new.self c.read.new.master c.args.at c.read.new.out c.read.result c.read.ensures)
