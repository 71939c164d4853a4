use Rattle.std.proofs.Common.{length}
use Rattle.avs_dev.proofs.BareViews.{range_seen, reads_below, reads_rest, reads_volume}
use Rattle.avs_dev.proofs.bare.BareBelow.read.Goals as goal

pub read-requires : goal.read-requires
read-requires g c =
    let i = c.self.inside in
    range_seen g.D.Disk.seen i.state i.volumes.items i.note c.args.self.now c.self.view_is c.args.vol c.index_mut.result.now c.index_mut.ensures.value c.requires.there c.args.at (length c.args.out.now) c.requires

pub returns-clause-reads : goal.returns-clause-reads
returns-clause-reads g c =
    let i = c.self.inside in
    reads_below g.D.Disk.seen i.state i.volumes.items i.note c.args.self.now c.self.view_is c.args.vol c.index_mut.result.now c.index_mut.ensures.value c.requires.there c.read.new.self c.args.at c.read.new.out c.read.result c.requires c.read.ensures

pub returns-clause-rest : goal.returns-clause-rest
returns-clause-rest g c =
    let i = c.self.inside in
    reads_rest g.D.Disk.seen i.state i.volumes.items i.note c.args.self.now c.self.view_is c.args.vol c.index_mut.result.now c.index_mut.ensures.value c.requires.there c.read.new.self c.args.at c.read.new.out c.read.result c.requires c.read.ensures

pub returns-clause-volume : goal.returns-clause-volume
returns-clause-volume g c =
    let i = c.self.inside in
    reads_volume g.D.Disk.seen i.state i.volumes.items i.note c.args.self.now c.self.view_is c.args.vol c.index_mut.result.now c.index_mut.ensures.value c.requires.there c.read.new.self c.args.at c.read.new.out c.read.result c.requires c.read.ensures
