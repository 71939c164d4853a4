use Rattle.std.proofs.Common.{◌∙◌, sym, ap}
use Rattle.avs_world.specs.Views.{place_view}
use Rattle.avs_world.specs.Places.{place_of}
use Rattle.avs_world.proofs.Shelves.{placed}
use Rattle.avs_world.proofs.place.Shelf.put_back.Goals as goal
use Rattle.avs_world.proofs.place.Shelf.put_back.Goals.{then-spent, else-spent}

pub returns-after-spent-clause-places : goal.returns-after-spent-clause-places
returns-after-spent-clause-places g c =
    let seen = g.D.Disk.seen in
    let items = c.args.self.now.places.items in
    let back = place_of c.args.spent (seen c.args.disk) in
    placed seen items c.args.place _ back
    (elim c.if-spent.branch [
      | then-spent w ↦ ap (place_view seen) w.t-11-is ∙ ap (λ b. place_of b (seen c.args.disk)) (sym w.if-spent.true)
      | else-spent w ↦ ap (place_view seen) w.t-11-is ∙ ap (λ b. place_of b (seen c.args.disk)) (sym w.if-spent.false)
    ])
