use Rattle.std.proofs.Common.{◌∙◌}
use Rattle.avs_dev.proofs.BareViews.{size_seen}
use Rattle.avs_dev.proofs.bare.BareBelow.size.Goals as goal

pub returns : goal.returns
returns g c =
    let i = c.self.inside in
    c.blocks-2.ensures ∙ size_seen g.D.Disk.seen i.state i.volumes.items i.note c.args.self.now c.self.view_is c.args.vol c.index.result.now c.index.ensures c.requires
