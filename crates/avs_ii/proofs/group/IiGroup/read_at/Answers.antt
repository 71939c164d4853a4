use Rattle.std.proofs.Common.{map, set, arith}
use Rattle.std.proofs.lemmas.List.{length-map}
use Rattle.avs_ii.specs.Opened.{sets_of}
use Rattle.avs_ii.proofs.Making.{at_most_one}
use Rattle.avs_ii.proofs.Volumes.{read_exit}
use Rattle.avs_ii.proofs.Views.{write_range, write_inside, read_keeps, read_below, read_rest, read_same, read_kept}
use Rattle.avs_ii.proofs.group.IiGroup.read_at.Goals as goal

pub read-requires : goal.read-requires
read-requires g c =
    let i = c.self.inside in
    write_range g.D.Disk.seen (g.D.Disk.seen i.state) i.block i.volumes.items i.set c.args.self.now c.self.view_is c.args.volume c.index_mut.result.now c.index_mut.ensures.value c.args.at c.args.out.now c.requires

pub invariant_of-self : goal.invariant_of-self
invariant_of-self g c =
    let i = c.self.inside in
    (read_kept g.D.Disk.seen (g.D.Disk.seen i.state) i.block i.volumes.items i.set c.args.self.now c.self.view_is c.args.volume c.index_mut.result.now c.index_mut.ensures.value c.args.at c.args.out.now c.requires c.read.result c.read.new.self c.read.new.out c.read.ensures c.self.invariant.0, c.self.invariant.1)

pub returns-clause-reads : goal.returns-clause-reads
returns-clause-reads g c =
    let i = c.self.inside in
    read_below g.D.Disk.seen (g.D.Disk.seen i.state) i.block i.volumes.items i.set c.args.self.now c.self.view_is c.args.volume c.index_mut.result.now c.index_mut.ensures.value c.args.at c.args.out.now c.requires c.read.result c.read.new.self c.read.new.out c.read.ensures

pub returns-clause-rest : goal.returns-clause-rest
returns-clause-rest g c =
    let i = c.self.inside in
    read_rest g.D.Disk.seen (g.D.Disk.seen i.state) i.block i.volumes.items i.set c.args.self.now c.self.view_is c.args.volume c.index_mut.result.now c.index_mut.ensures.value c.args.at c.args.out.now c.requires c.read.result c.read.new.self c.read.new.out c.read.ensures

pub returns-clause-volume : goal.returns-clause-volume
returns-clause-volume g c =
    let i = c.self.inside in
    let there = write_inside g.D.Disk.seen (g.D.Disk.seen i.state) i.block i.volumes.items i.set c.args.self.now c.self.view_is c.args.volume c.index_mut.result.now c.index_mut.ensures.value c.args.at c.args.out.now c.requires in
    read_exit (g.D.Disk.seen i.state) i.block (map g.D.Disk.seen i.volumes.items) (map g.D.Disk.seen (set i.volumes.items c.args.volume c.read.new.self)) (sets_of i.set) (at_most_one i.set) c.self.invariant.0 c.args.volume c.args.at c.read.new.out c.args.self.now c.self.view_is c.read.result
    (omega (arith, there, length-map i.volumes.items g.D.Disk.seen))
    (read_keeps g.D.Disk.seen (g.D.Disk.seen i.state) i.block i.volumes.items i.set c.args.self.now c.self.view_is c.args.volume c.index_mut.result.now c.index_mut.ensures.value c.args.at c.args.out.now c.requires c.read.result c.read.new.self c.read.new.out c.read.ensures c.self.invariant.0)
    (read_below g.D.Disk.seen (g.D.Disk.seen i.state) i.block i.volumes.items i.set c.args.self.now c.self.view_is c.args.volume c.index_mut.result.now c.index_mut.ensures.value c.args.at c.args.out.now c.requires c.read.result c.read.new.self c.read.new.out c.read.ensures)
    (read_rest g.D.Disk.seen (g.D.Disk.seen i.state) i.block i.volumes.items i.set c.args.self.now c.self.view_is c.args.volume c.index_mut.result.now c.index_mut.ensures.value c.args.at c.args.out.now c.requires c.read.result c.read.new.self c.read.new.out c.read.ensures)
    (read_same g.D.Disk.seen (g.D.Disk.seen i.state) i.block i.volumes.items i.set c.args.self.now c.self.view_is c.args.volume c.index_mut.result.now c.index_mut.ensures.value c.args.at c.args.out.now c.requires c.read.result c.read.new.self c.read.new.out c.read.ensures)
