use Rattle.std.proofs.Common.{◌≡◌, ℕ, Option, None, Some, unwrap_or, refl, ap, sym, ◌∙◌}
use Rattle.std.specs.Option.{option_map, option_map_or}
use Rattle.avs_stack.specs.Names.{roles_of}
use Rattle.avs_host.specs.Store.{names_of, disk_of}
use Rattle.avs_host.specs.Facts.{facts_with}
use Rattle.avs_host.proofs.Volumes.{kept_names}
use Rattle.avs_host.proofs.store.HostStore.facts.Goals as goal

mapped_or : {X : Type 0} (f : X → ℕ) (o : Option X) → unwrap_or (option_map f o) 0 ≡ option_map_or f o 0
mapped_or f None = refl
mapped_or f (Some x) = refl

pub returns : goal.returns
returns g c =
    let i = c.self.inside in
    let name = c.args.name.now in
    let names = ap names_of (sym c.self.view_is) ∙ kept_names g.D.Disk.seen i.stack i.disks.items c.self.invariant in
    let roles = c.roles.ensures ∙ ap (λ l. roles_of l name) (sym names) in
    let blocks = c.unwrap_or-blocks.ensures ∙ ap (λ o. unwrap_or o 0) c.blocks-2.ensures ∙ mapped_or (λ disk. disk.size) (disk_of c.args.self.now name) in
    c.facts_with.ensures ∙ (λ k. facts_with (roles k) (blocks k))
