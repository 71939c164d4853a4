use Rattle.std.proofs.Common.{◌∙◌, sym, ap, subst}
use Rattle.avs_model.specs.declared.recovered.Second.TheVariants.{Kept, Done}
use Rattle.avs_world.specs.Views.{InMemory, view_of, group_view}
use Rattle.avs_world.specs.Recovering.{Settles}
use Rattle.avs_world.proofs.Finding.{settled_open, settled_back}
use Rattle.avs_world.proofs.world.World.settle.Goals as goal

pub returns-in-Some-clause-settles : goal.returns-in-Some-clause-settles
returns-in-Some-clause-settles g c =
    let seen = g.D.Disk.seen in
    let store = view_of seen c.args.self.now in
    let new = view_of seen c.give_back.new.self in
    let was = ap (group_view seen) (sym c.replace.ensures.value ∙ c.in-Open.is) in
    let given = c.in-Some.ensures.given in
    let back = c.give_back.ensures in
    subst (λ group. Settles (record store { group = group }) Kept new) (sym was)
    (settled_back store new c.in-Open.set c.in-Open.group c.give_up.new.self given.0 (seen c.in-Some.shadow) (seen c.in-Some.bitmap) given.1.1 back.group back.names back.blocks back.places)

pub returns-in-None-clause-settles : goal.returns-in-None-clause-settles
returns-in-None-clause-settles g c =
    let seen = g.D.Disk.seen in
    let store = view_of seen c.args.self.now in
    let set = c.in-Open.set in
    let held = c.in-Open.group in
    let was = ap (group_view seen) (sym c.replace.ensures.value ∙ c.in-Open.is) in
    subst (λ group. Settles (record store { group = group }) Done (record store { group = InMemory set c.give_up.new.self })) (sym was)
    (subst (λ left. Settles (record store { group = InMemory set held }) Done (record store { group = InMemory set left })) (sym c.in-None.ensures.kept)
    (settled_open store set held c.in-None.ensures.none))
