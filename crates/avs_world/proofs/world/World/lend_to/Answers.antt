use Rattle.std.proofs.Common.{ap, arith}
use Rattle.avs_world.proofs.Lending.{are_lent, not_lent_third, lends_to, added_blocks}
use Rattle.avs_world.proofs.world.World.lend_to.Goals as goal

pub unreachable-requires-in_default-lend-2 : goal.unreachable-requires-in_default-lend-2
unreachable-requires-in_default-lend-2 g c =
    not_lent_third _ c.args.chosen c.requires.three _ _ c.in-Some.field-0-1 c.in-Some-lend.spent _ _ _ c.in-Some.ensures.lends c.in-Some-lend.ensures.lends c.in_default-lend-2.ensures.none

pub fill_group-requires-clause-some : goal.fill_group-requires-clause-some
fill_group-requires-clause-some g c =
    let lent = are_lent _ c.args.chosen c.requires.three _ _ c.in-Some.field-0-1 c.in-Some-lend.spent _ _ _ c.in-Some.ensures.lends c.in-Some-lend.ensures.lends _ c.in-Some-lend-2.field-0-1 c.in-Some-lend-2.ensures.lends in
    omega (arith, ap (λ d. d.size) lent.master_is, c.requires.three.some, added_blocks c.args.group c.add_volume.new.self (g.D.Disk.seen c.in-Some.master) c.requires.none c.in_default-add_volume.ensures.adds)

pub returns-clause-lends : goal.returns-clause-lends
returns-clause-lends g c =
    let lent = are_lent _ c.args.chosen c.requires.three _ _ c.in-Some.field-0-1 c.in-Some-lend.spent _ _ _ c.in-Some.ensures.lends c.in-Some-lend.ensures.lends _ c.in-Some-lend-2.field-0-1 c.in-Some-lend-2.ensures.lends in
    lends_to _ c.args.chosen c.requires.three c.args.name c.args.group c.add_volume.new.self _ _ _ c.in-Some-lend.spent _ _ _ c.fill_group.result lent c.in_default-add_volume.ensures.adds c.fill_group.ensures.fills
