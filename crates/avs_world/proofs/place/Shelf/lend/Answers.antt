use Rattle.std.proofs.Common.{Some, None, map, refl, sym, ◌∙◌, ap}
use Rattle.std.specs.Prelude.{slice_set}
use Rattle.avs_world.specs.declared.place.Place.TheVariants.{Lent}
use Rattle.avs_world.specs.Views.{place_view}
use Rattle.avs_world.proofs.Holding.{set_back}
use Rattle.avs_world.proofs.Shelves.{place_read, seen_there, disk_there, placed}
use Rattle.avs_world.proofs.place.Shelf.lend.Goals as goal

pub returns-in-Here-clause-lends : goal.returns-in-Here-clause-lends
returns-in-Here-clause-lends g c =
    let seen = g.D.Disk.seen in
    let places = c.args.self.now.places in
    let read = place_read seen places.items c.args.place places.len c.index_mut.result.now places.ok.0 c.requires c.index_mut.ensures.value in
    let is = sym c.in-Here.ensures.value in
    record {
      was = seen_there seen places.items c.args.place c.index_mut.result.now read ∙ ap (λ p. Some (place_view seen p)) is;
      is = placed seen places.items c.args.place c.replace.new.dest Lent (ap (place_view seen) c.replace.ensures.after);
    }

pub returns-in-Spent-clause-lends : goal.returns-in-Spent-clause-lends
returns-in-Spent-clause-lends g c =
    let seen = g.D.Disk.seen in
    let places = c.args.self.now.places in
    let read = place_read seen places.items c.args.place places.len c.index_mut.result.now places.ok.0 c.requires c.index_mut.ensures.value in
    let is = sym c.in-Spent.ensures.value in
    record {
      was = seen_there seen places.items c.args.place c.index_mut.result.now read ∙ ap (λ p. Some (place_view seen p)) is;
      is = placed seen places.items c.args.place c.replace.new.dest Lent (ap (place_view seen) c.replace.ensures.after);
    }

pub returns-in-Lent-clause-none : goal.returns-in-Lent-clause-none
returns-in-Lent-clause-none g c =
    let seen = g.D.Disk.seen in
    let places = c.args.self.now.places in
    let read = place_read seen places.items c.args.place places.len c.index_mut.result.now places.ok.0 c.requires c.index_mut.ensures.value in
    let is = sym c.in-Lent.ensures.value in
    let there = read ∙ ap Some is in
    record {
      none = disk_there seen places.items c.args.place Lent None there refl;
      same = ap (map (place_view seen)) (ap (slice_set places.items c.args.place) c.replace.ensures.after ∙ set_back places.items c.args.place Lent there);
    }
