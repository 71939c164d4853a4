use Rattle.std.proofs.Common.{length}
use Rattle.avs_ii.proofs.Volumes.{range_below}
use Rattle.avs_ii.proofs.group.IiGroup.write_volume.Goals as goal

pub write_at-requires : goal.write_at-requires
write_at-requires g c = range_below c.args.self.now c.args.volume c.args.at (length c.args.bytes.now) c.requires
