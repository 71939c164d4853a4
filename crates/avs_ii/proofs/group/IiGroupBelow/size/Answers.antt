use Rattle.std.proofs.Common.{◌∙◌}
use Rattle.avs_ii.proofs.Views.{size_as}
use Rattle.avs_ii.proofs.group.IiGroupBelow.size.Goals as goal

pub returns : goal.returns
returns g c =
    let i = c.self.inside in
    c.blocks-2.ensures ∙ size_as g.D.Disk.seen (g.D.Disk.seen i.state) i.block i.volumes.items i.set c.args.self.now c.self.view_is c.args.vol c.index.result.now c.index.ensures c.requires
