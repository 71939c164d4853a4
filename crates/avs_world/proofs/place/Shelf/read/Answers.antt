use Rattle.std.proofs.Common.{Some, refl, ◌∙◌, ap}
use Rattle.avs_world.specs.declared.place.Place.TheVariants.{Here, Spent}
use Rattle.avs_world.specs.Views.{places_of}
use Rattle.avs_world.proofs.Shelves.{place_read, disk_there, disk_placed, range_within}
use Rattle.avs_world.proofs.place.Shelf.read.Goals as goal

pub returns-in-Here-clause-reads : goal.returns-in-Here-clause-reads
returns-in-Here-clause-reads g c =
    let seen = g.D.Disk.seen in
    let places = c.args.self.now.places in
    let disk = c.in-Here.disk in
    let disk_new = c.read.new.self in
    let lt = range_within (places_of seen c.args.self.now) c.args.place c.args.at _ c.requires in
    let there = place_read seen places.items c.args.place places.len c.index_mut.result.now places.ok.0 lt c.index_mut.ensures.value ∙ ap Some c.in-Here.is in
    record {
      disk = seen disk;
      disk_new = seen disk_new;
      here = disk_there seen places.items c.args.place (Here disk) (Some (seen disk)) there refl;
      reads = c.read.ensures;
      is = disk_placed seen places.items c.args.place (Here disk) (Here disk_new) (seen disk_new) there refl;
    }

pub returns-in-Spent-clause-reads : goal.returns-in-Spent-clause-reads
returns-in-Spent-clause-reads g c =
    let seen = g.D.Disk.seen in
    let places = c.args.self.now.places in
    let disk = c.in-Spent.disk in
    let disk_new = c.read-in-Spent.new.self in
    let lt = range_within (places_of seen c.args.self.now) c.args.place c.args.at _ c.requires in
    let there = place_read seen places.items c.args.place places.len c.index_mut.result.now places.ok.0 lt c.index_mut.ensures.value ∙ ap Some c.in-Spent.is in
    record {
      disk = seen disk;
      disk_new = seen disk_new;
      here = disk_there seen places.items c.args.place (Spent disk) (Some (seen disk)) there refl;
      reads = c.read-in-Spent.ensures;
      is = disk_placed seen places.items c.args.place (Spent disk) (Spent disk_new) (seen disk_new) there refl;
    }
