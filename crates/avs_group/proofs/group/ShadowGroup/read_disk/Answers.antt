use Rattle.std.proofs.Common.{arith}
use Rattle.avs_group.proofs.AtPlace.{volume_lt, volume_not_none, volume_range, volume_read, volume_kept}
use Rattle.avs_group.proofs.group.ShadowGroup.read_disk.Goals as goal

pub index_mut-requires : goal.index_mut-requires
index_mut-requires g c =
    let i = c.self.inside in
    let seat = rw (← c.self.view_is) at c.requires.there in
    let low = volume_lt g.D.Disk.seen i.state i.volumes.items i.overs.items i.sets.items c.self.invariant c.args.volume seat in
    omega (arith, low, i.volumes.ok.0)

pub invariant_of-self : goal.invariant_of-self
invariant_of-self g c =
    let i = c.self.inside in
    let seat = rw (← c.self.view_is) at c.requires.there in
    absurd (volume_not_none g.D.Disk.seen i.state i.volumes.items i.overs.items i.sets.items c.self.invariant c.args.volume seat c.index_mut.result.now c.index_mut.ensures.value c.in_default.is)

pub returns-in_default-clause-reads : goal.returns-in_default-clause-reads
returns-in_default-clause-reads g c =
    let i = c.self.inside in
    let seat = rw (← c.self.view_is) at c.requires.there in
    absurd (volume_not_none g.D.Disk.seen i.state i.volumes.items i.overs.items i.sets.items c.self.invariant c.args.volume seat c.index_mut.result.now c.index_mut.ensures.value c.in_default.is)

pub read-requires : goal.read-requires
read-requires g c =
    let i = c.self.inside in
    let seat = rw (← c.self.view_is) at c.requires.there in
    let range = rw (← c.self.view_is) at c.requires in
    volume_range g.D.Disk.seen i.state i.volumes.items i.overs.items i.sets.items c.self.invariant c.args.volume seat c.index_mut.result.now c.index_mut.ensures.value c.in-Some.disk c.in-Some.is c.args.at _ range

pub invariant_of-self-2 : goal.invariant_of-self-2
invariant_of-self-2 g c =
    let i = c.self.inside in
    let seat = rw (← c.self.view_is) at c.requires.there in
    volume_kept g.D.Disk.seen i.state i.volumes.items i.overs.items i.sets.items c.self.invariant c.args.volume seat c.index_mut.result.now c.index_mut.ensures.value c.in-Some.disk c.in-Some.is
    c.read.new.self c.args.at c.read.new.out c.read.result c.read.ensures

pub returns-clause-reads : goal.returns-clause-reads
returns-clause-reads g c =
    let i = c.self.inside in
    let seat = rw (← c.self.view_is) at c.requires.there in
    rw (← c.self.view_is) (volume_read g.D.Disk.seen i.state i.volumes.items i.overs.items i.sets.items c.self.invariant c.args.volume seat c.index_mut.result.now c.index_mut.ensures.value c.in-Some.disk c.in-Some.is
    c.read.new.self c.args.at c.read.new.out c.read.result c.read.ensures)
