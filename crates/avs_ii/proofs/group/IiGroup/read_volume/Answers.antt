use Rattle.std.proofs.Common.{length}
use Rattle.avs_ii.proofs.Volumes.{range_below}
use Rattle.avs_ii.proofs.group.IiGroup.read_volume.Goals as goal

pub read_at-requires : goal.read_at-requires
read_at-requires g c = range_below c.args.self.now c.args.volume c.args.at (length c.args.out.now) c.requires
