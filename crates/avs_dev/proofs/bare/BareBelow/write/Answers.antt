use Rattle.std.proofs.Common.{length}
use Rattle.avs_dev.proofs.BareViews.{range_seen, writes_below, writes_rest, writes_volume}
use Rattle.avs_dev.proofs.bare.BareBelow.write.Goals as goal

pub write-requires : goal.write-requires
write-requires g c =
    let i = c.self.inside in
    range_seen g.D.Disk.seen i.state i.volumes.items i.note c.args.self.now c.self.view_is c.args.vol c.index_mut.result.now c.index_mut.ensures.value c.requires.there c.args.at (length c.args.bytes.now) c.requires

pub returns-clause-writes : goal.returns-clause-writes
returns-clause-writes g c =
    let i = c.self.inside in
    writes_below g.D.Disk.seen i.state i.volumes.items i.note c.args.self.now c.self.view_is c.args.vol c.index_mut.result.now c.index_mut.ensures.value c.requires.there c.write.new.self c.args.at c.args.bytes.now c.write.result c.requires c.write.ensures

pub returns-clause-wrote : goal.returns-clause-wrote
returns-clause-wrote g c =
    let i = c.self.inside in
    writes_rest g.D.Disk.seen i.state i.volumes.items i.note c.args.self.now c.self.view_is c.args.vol c.index_mut.result.now c.index_mut.ensures.value c.requires.there c.write.new.self c.args.at c.args.bytes.now c.write.result c.requires c.write.ensures

pub returns-clause-volume : goal.returns-clause-volume
returns-clause-volume g c =
    let i = c.self.inside in
    writes_volume g.D.Disk.seen i.state i.volumes.items i.note c.args.self.now c.self.view_is c.args.vol c.index_mut.result.now c.index_mut.ensures.value c.requires.there c.write.new.self c.args.at c.args.bytes.now c.write.result c.requires c.write.ensures
