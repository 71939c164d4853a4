use Rattle.std.proofs.Common.{◌<◌, length, arith}
use Rattle.avs_halves.proofs.Changed.{armed_one}
use Rattle.avs_halves.proofs.mirrors.MirrorSets.arm.Goals as goal

pub returns-then-set-len : goal.returns-then-set-len
returns-then-set-len g c =
    let lt : c.args.set < length c.self.inside.sets.items = omega arith in
    rw (← c.self.view_is) (armed_one c.self.inside.sets.items c.args.set c.index_mut.result.now lt c.index_mut.ensures.value c.args.tear c.arm.result c.arm.new.self c.arm.ensures)
