use Rattle.std.proofs.Common.{rules, ◌≡◌, ◌∙◌, ap, subst, sym, map, ℕ, ◌+◌}
use Rattle.std.specs.Vec.{with_items}
use Rattle.std.proofs.lemmas.List.{with_items_is}
use Rattle.avs_over.specs.Slots.{Owners, without, given_to, used_in}
use Rattle.avs_over.specs.Over.{OverSet, Releases}
use Rattle.avs_over.proofs.Taking.{releases}
use Rattle.avs_over.proofs.over.Over.release_set.Goals as goal

pub returns : goal.returns
returns g c =
    let o : OverSet = record { disk = g.D.Disk.seen c.self.inside.disk; owners = c.self.inside.owners.items } in
    let items : (with_items c.self.inside.owners c.free_of.new.owners).items ≡ c.free_of.new.owners = with_items_is c.self.inside.owners c.free_of.new.owners (search rules) in
    let was = c.deref_mut.ensures.value in
    rw (← c.self.view_is) (rw items (releases o c.args.set c.free_of.new.owners c.free_of.result
    (c.free_of.ensures.owners ∙ ap (λ (l : Owners). map (without c.args.set) l) was)
    (c.free_of.ensures.count ∙ ap (λ (l : Owners). given_to c.args.set l) was)
    (c.free_of.ensures.fewer ∙ ap (λ (l : Owners). used_in l) was)))
