use Rattle.std.proofs.Common.{◌≡◌, Some, [], ◌∷◌, ◌++◌, if◌then◌else◌, ap, sym, ◌∙◌}
use Rattle.avs_model.specs.declared.answer.Refusal.TheVariants.{Exists, NoMemory}
use Rattle.avs_stack.specs.Names.{Named, has_name, no_roles}
use Rattle.avs_host.specs.Store.{volumes_with}
use Rattle.avs_host.proofs.Volumes.{kept_names, one_more, store_of}
use Rattle.avs_host.proofs.store.HostStore.add.Goals as goal

pub returns-then-is_some-clause-cause : goal.returns-then-is_some-clause-cause
returns-then-is_some-clause-cause g c = rw (← c.self.view_is) (
    let i = c.self.inside in
    let taken = ap (λ names. has_name names c.args.name.now) (kept_names g.D.Disk.seen i.stack i.disks.items c.self.invariant) ∙ sym c.place.ensures.found ∙ sym c.is_some.ensures ∙ c.if-is_some.true in
    ap (λ b. if b then Exists else NoMemory) (sym taken))

pub returns-in_default-clause-cause : goal.returns-in_default-clause-cause
returns-in_default-clause-cause g c = rw (← c.self.view_is) (
    let i = c.self.inside in
    let free = ap (λ names. has_name names c.args.name.now) (kept_names g.D.Disk.seen i.stack i.disks.items c.self.invariant) ∙ sym c.place.ensures.found ∙ sym c.is_some.ensures ∙ c.if-is_some.false in
    ap (λ b. if b then Exists else NoMemory) (sym free))

pub returns-in_default-add-clause-cause : goal.returns-in_default-add-clause-cause
returns-in_default-add-clause-cause g c = rw (← c.self.view_is) (
    let i = c.self.inside in
    let free = ap (λ names. has_name names c.args.name.now) (kept_names g.D.Disk.seen i.stack i.disks.items c.self.invariant) ∙ sym c.place.ensures.found ∙ sym c.is_some.ensures ∙ c.if-is_some.false in
    ap (λ b. if b then Exists else NoMemory) (sym free))

pub returns-clause-free : goal.returns-clause-free
returns-clause-free g c = rw (← c.self.view_is) (
    let i = c.self.inside in
    ap (λ names. has_name names c.args.name.now) (kept_names g.D.Disk.seen i.stack i.disks.items c.self.invariant) ∙ sym c.place.ensures.found ∙ sym c.is_some.ensures ∙ c.if-is_some.false)

pub returns-clause-added : goal.returns-clause-added
returns-clause-added g c = rw (← c.self.view_is) (
    let i = c.self.inside in
    let one : Named = record { name = c.args.name.now; number = c.args.number; roles = no_roles } in
    let free = sym c.place.ensures.found ∙ sym c.is_some.ensures ∙ c.if-is_some.false in
    let names : c.add.new.self ≡ i.stack ++ one ∷ [] = c.in-Ok-add.ensures.names ∙ ap (λ b. if b then i.stack else i.stack ++ one ∷ []) free in
    let disks = c.push_reserved.ensures.items ∙ ap (λ l. l ++ Some c.args.disk ∷ []) c.reserve.ensures.items in
    (λ at. store_of i.stamp (volumes_with g.D.Disk.seen (names at) (disks at)))
    ∙ ap (store_of i.stamp) (one_more g.D.Disk.seen one (Some c.args.disk) i.stack i.disks.items c.self.invariant))
