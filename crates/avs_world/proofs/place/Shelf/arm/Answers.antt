use Rattle.std.proofs.Common.{refl, ◌∙◌, ap, Some}
use Rattle.avs_world.specs.declared.place.Place.TheVariants.{Here, Spent}
use Rattle.avs_world.specs.Views.{place_view}
use Rattle.avs_world.specs.Ranges.{disk_here}
use Rattle.avs_world.proofs.Shelves.{place_read, arms_there, arms_none}
use Rattle.avs_world.proofs.place.Shelf.arm.Goals as goal

pub returns-in-Here-clause-arms : goal.returns-in-Here-clause-arms
returns-in-Here-clause-arms g c =
    let seen = g.D.Disk.seen in
    let places = c.args.self.now.places in
    let disk = c.in-Here.disk in
    let disk_new = c.arm.new.self in
    let there = place_read seen places.items c.args.place places.len c.index_mut.result.now places.ok.0 c.requires c.index_mut.ensures.value ∙ ap Some c.in-Here.is in
    arms_there seen places.items c.args.place (Here disk) (Here disk_new) (seen disk) (seen disk_new) c.args.tear c.arm.result there refl refl c.arm.ensures

pub returns-in-Spent-clause-arms : goal.returns-in-Spent-clause-arms
returns-in-Spent-clause-arms g c =
    let seen = g.D.Disk.seen in
    let places = c.args.self.now.places in
    let disk = c.in-Spent.disk in
    let disk_new = c.arm-in-Spent.new.self in
    let there = place_read seen places.items c.args.place places.len c.index_mut.result.now places.ok.0 c.requires c.index_mut.ensures.value ∙ ap Some c.in-Spent.is in
    arms_there seen places.items c.args.place (Spent disk) (Spent disk_new) (seen disk) (seen disk_new) c.args.tear c.arm-in-Spent.result there refl refl c.arm-in-Spent.ensures

pub returns-in-Lent-clause-arms : goal.returns-in-Lent-clause-arms
returns-in-Lent-clause-arms g c =
    let seen = g.D.Disk.seen in
    let places = c.args.self.now.places in
    let there = place_read seen places.items c.args.place places.len c.index_mut.result.now places.ok.0 c.requires c.index_mut.ensures.value in
    arms_none seen places.items c.args.place c.args.tear c.index_mut.result.now there (ap (λ p. disk_here (Some (place_view seen p))) c.in-Lent.is)
