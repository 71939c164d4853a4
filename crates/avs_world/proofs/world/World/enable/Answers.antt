use Rattle.std.proofs.Common.{◌≡◌, ◌∙◌, true, false, Option, Err, rules, sym, ap, subst}
use Rattle.avs_model.specs.declared.event.IiCommand.TheVariants.{Enable}
use Rattle.avs_model.specs.declared.answer.Answer.{Answer}
use Rattle.avs_ii.specs.Held.{IiDisks}
use Rattle.avs_world.specs.Views.{StoreView, FreeDisk, SameApart, view_of, group_view, names_of, places_of, closed}
use Rattle.avs_world.specs.Causes.{DiskRose, FaultHasCause}
use Rattle.avs_world.specs.declared.world.WorldFault.TheVariants.{Rack}
use Rattle.avs_world.specs.Enabling.{StartsGroup}
use Rattle.avs_world.proofs.EnableSteps.{start_cause, lend_cause, start_stops, lend_stops, lend_done, rose_closed, stop_steps, done_steps, chosen_as, ready, asks, store_with, lends_as}
use Rattle.avs_world.proofs.world.World.enable.Goals as goal

pub returns-in_err-disk-clause-asked : goal.returns-in_err-disk-clause-asked
returns-in_err-disk-clause-asked g c refused steady state stands =
    let is : c.from_residual-in_err-disk.result ≡ Err c.in_err-disk.field-0.0 = search rules in
    let rack : c.in_err-disk.field-0.0 ≡ Rack = (let e = sym is ∙ refused in cc) in
    let was : c.state_disk.result ≡ Err c.in_err-disk.field-0.0 = search rules in
    asks g.D.Disk.seen steady c.args.self.now state _ _ _ c.args.master.now c.args.shadow.now c.args.bitmap.now stands c.if-not-self.false c.as_slice.ensures c.as_slice-2.ensures c.as_slice-3.ensures
    c.in-Ok.ensures.passes c.in-Ok.ensures.chosen.free (c.state_disk.ensures.needed (was ∙ ap Err rack))

pub returns-in_default-clause-steps : goal.returns-in_default-clause-steps
returns-in_default-clause-steps g c tells state stands =
    let seen = g.D.Disk.seen in
    let rack = g.R.Rack.seen c.args.rack.now in
    let self = c.args.self.now in
    let store = view_of seen self in
    let master = c.args.master.now in
    let shadow = c.args.shadow.now in
    let bitmap = c.args.bitmap.now in
    let chosen = c.in-Ok.chosen in
    let is = chosen_as store chosen _ _ _ master shadow bitmap c.as_slice.ensures c.as_slice-2.ensures c.as_slice-3.ensures c.in-Ok.ensures.chosen in
    let disk = seen c.in_ok-disk.disk in
    let r = ready seen rack self state _ _ _ master shadow bitmap disk _ tells stands c.if-not-self.false c.as_slice.ensures c.as_slice-2.ensures c.as_slice-3.ensures c.in-Ok.ensures.passes is.free c.in_ok-disk.ensures.takes in
    let started = c.start_group.new.self in
    let shelf : started.shelf ≡ self.shelf = c.in_ok-group.ensures.shelf ∙ c.in_ok-disk.ensures.shelf in
    let starts = subst (λ (o : Option IiDisks). StartsGroup disk (group_view seen c.state_disk.new.self.group) o (group_view seen started.group)) c.in_default.is c.in_ok-group.ensures.starts in
    let view : view_of seen c.stop.new.self ≡ record store { group = closed (FreeDisk starts.0) } = c.stop.ensures.apart ∙ (λ i. store_with seen (shelf i) (closed (starts.2 i))) in
    let same = subst SameApart starts.2 c.stop.ensures.same in
    stop_steps seen rack.steady c.stop.new.self state (Enable true master shadow bitmap) store (FreeDisk starts.0) c.stop.result c.stop.ensures.told same c.stop.ensures.up c.stop.ensures.stopped view
    (start_stops rack.steady store state master shadow bitmap chosen is r.holds r.passes disk r.state_disk r.unarmed starts.0 starts.1)

pub returns-in_default-clause-cause : goal.returns-in_default-clause-cause
returns-in_default-clause-cause g c =
    let seen = g.D.Disk.seen in
    let rack = g.R.Rack.seen c.args.rack.now in
    let self = c.args.self.now in
    let store = view_of seen self in
    let disk = seen c.in_ok-disk.disk in
    let started = c.start_group.new.self in
    let shelf : started.shelf ≡ self.shelf = c.in_ok-group.ensures.shelf ∙ c.in_ok-disk.ensures.shelf in
    let starts = subst (λ (o : Option IiDisks). StartsGroup disk (group_view seen c.state_disk.new.self.group) o (group_view seen started.group)) c.in_default.is c.in_ok-group.ensures.starts in
    let view : view_of seen c.stop.new.self ≡ record store { group = closed (FreeDisk starts.0) } = c.stop.ensures.apart ∙ (λ i. store_with seen (shelf i) (closed (starts.2 i))) in
    let same = subst SameApart starts.2 c.stop.ensures.same in
    let rose = rose_closed store store (FreeDisk starts.0) same (start_cause store rack disk _ c.in-Ok.ensures.chosen.free c.in_ok-disk.ensures.takes store.places starts.0 starts.1) in
    subst (λ (a : Answer). FaultHasCause store (view_of seen c.stop.new.self) a) (sym c.stop.ensures.told) (subst (λ (v : StoreView). DiskRose store v) (sym view) rose)

pub returns-then-branch-clause-steps : goal.returns-then-branch-clause-steps
returns-then-branch-clause-steps g c tells state stands =
    let seen = g.D.Disk.seen in
    let rack = g.R.Rack.seen c.args.rack.now in
    let self = c.args.self.now in
    let store = view_of seen self in
    let master = c.args.master.now in
    let shadow = c.args.shadow.now in
    let bitmap = c.args.bitmap.now in
    let chosen = c.in-Ok.chosen in
    let is = chosen_as store chosen _ _ _ master shadow bitmap c.as_slice.ensures c.as_slice-2.ensures c.as_slice-3.ensures c.in-Ok.ensures.chosen in
    let disk = seen c.in_ok-disk.disk in
    let r = ready seen rack self state _ _ _ master shadow bitmap disk _ tells stands c.if-not-self.false c.as_slice.ensures c.as_slice-2.ensures c.as_slice-3.ensures c.in-Ok.ensures.passes is.free c.in_ok-disk.ensures.takes in
    let started = c.start_group.new.self in
    let shelf : started.shelf ≡ self.shelf = c.in_ok-group.ensures.shelf ∙ c.in_ok-disk.ensures.shelf in
    let starts = subst (λ (o : Option IiDisks). StartsGroup disk (group_view seen c.state_disk.new.self.group) o (group_view seen started.group)) c.in-Some.is c.in_ok-group.ensures.starts in
    let lent = c.lend_to.new.self in
    let group = group_view seen lent.group in
    let lends = lends_as (places_of seen started.shelf) store.places chosen c.in_ok-name.name c.args.shadow.now c.in-Some.group c.in_ok-lend_to.field-0 true (places_of seen lent.shelf) group (ap (places_of seen) shelf) c.in_ok-name.ensures c.if-branch.true
    c.in_ok-lend_to.ensures.lends in
    let names : names_of lent.shelf ≡ names_of self.shelf = c.in_ok-lend_to.ensures.names ∙ ap names_of shelf in
    let blocks : lent.shelf.blocks ≡ self.shelf.blocks = c.in_ok-lend_to.ensures.blocks ∙ ap (λ s. s.blocks) shelf in
    let view : view_of seen lent ≡ record store { places = places_of seen lent.shelf; group = group } = (λ i. record { names = names i; places = places_of seen lent.shelf; blocks = blocks i; group = group }) in
    done_steps seen rack.steady self lent state (Enable true master shadow bitmap) (record store { places = places_of seen lent.shelf; group = group }) stands c.if-not-self.false
    (c.in_ok-lend_to.ensures.up ∙ c.in_ok-group.ensures.up ∙ c.in_ok-disk.ensures.up) (c.in_ok-lend_to.ensures.stopped ∙ c.in_ok-group.ensures.stopped ∙ c.in_ok-disk.ensures.stopped) r.passes view
    (lend_done rack.steady store state master shadow bitmap chosen is r.holds r.passes disk r.state_disk r.unarmed c.in-Some.group starts.0 (places_of seen lent.shelf) group lends)

pub returns-else-branch-clause-steps : goal.returns-else-branch-clause-steps
returns-else-branch-clause-steps g c tells state stands =
    let seen = g.D.Disk.seen in
    let rack = g.R.Rack.seen c.args.rack.now in
    let self = c.args.self.now in
    let store = view_of seen self in
    let master = c.args.master.now in
    let shadow = c.args.shadow.now in
    let bitmap = c.args.bitmap.now in
    let chosen = c.in-Ok.chosen in
    let is = chosen_as store chosen _ _ _ master shadow bitmap c.as_slice.ensures c.as_slice-2.ensures c.as_slice-3.ensures c.in-Ok.ensures.chosen in
    let disk = seen c.in_ok-disk.disk in
    let r = ready seen rack self state _ _ _ master shadow bitmap disk _ tells stands c.if-not-self.false c.as_slice.ensures c.as_slice-2.ensures c.as_slice-3.ensures c.in-Ok.ensures.passes is.free c.in_ok-disk.ensures.takes in
    let started = c.start_group.new.self in
    let shelf : started.shelf ≡ self.shelf = c.in_ok-group.ensures.shelf ∙ c.in_ok-disk.ensures.shelf in
    let starts = subst (λ (o : Option IiDisks). StartsGroup disk (group_view seen c.state_disk.new.self.group) o (group_view seen started.group)) c.in-Some.is c.in_ok-group.ensures.starts in
    let lent = c.lend_to.new.self in
    let group = group_view seen lent.group in
    let lends = lends_as (places_of seen started.shelf) store.places chosen c.in_ok-name.name c.args.shadow.now c.in-Some.group c.in_ok-lend_to.field-0 false (places_of seen lent.shelf) group (ap (places_of seen) shelf) c.in_ok-name.ensures c.if-branch.false
    c.in_ok-lend_to.ensures.lends in
    let names : names_of lent.shelf ≡ names_of self.shelf = c.in_ok-lend_to.ensures.names ∙ ap names_of shelf in
    let blocks : lent.shelf.blocks ≡ self.shelf.blocks = c.in_ok-lend_to.ensures.blocks ∙ ap (λ s. s.blocks) shelf in
    let view : view_of seen c.stop-else-branch.new.self ≡ record store { places = places_of seen lent.shelf; group = closed group } =
    c.stop-else-branch.ensures.apart ∙ (λ i. record { names = names i; places = places_of seen lent.shelf; blocks = blocks i; group = closed group }) in
    stop_steps seen rack.steady c.stop-else-branch.new.self state (Enable true master shadow bitmap) (record store { places = places_of seen lent.shelf }) group c.stop-else-branch.result c.stop-else-branch.ensures.told
    c.stop-else-branch.ensures.same c.stop-else-branch.ensures.up c.stop-else-branch.ensures.stopped view
    (lend_stops rack.steady store state master shadow bitmap chosen is r.holds r.passes disk r.state_disk r.unarmed c.in-Some.group starts.0 (places_of seen lent.shelf) group lends)

pub returns-else-branch-clause-cause : goal.returns-else-branch-clause-cause
returns-else-branch-clause-cause g c =
    let seen = g.D.Disk.seen in
    let rack = g.R.Rack.seen c.args.rack.now in
    let self = c.args.self.now in
    let store = view_of seen self in
    let chosen = c.in-Ok.chosen in
    let disk = seen c.in_ok-disk.disk in
    let started = c.start_group.new.self in
    let shelf : started.shelf ≡ self.shelf = c.in_ok-group.ensures.shelf ∙ c.in_ok-disk.ensures.shelf in
    let starts = subst (λ (o : Option IiDisks). StartsGroup disk (group_view seen c.state_disk.new.self.group) o (group_view seen started.group)) c.in-Some.is c.in_ok-group.ensures.starts in
    let lent = c.lend_to.new.self in
    let group = group_view seen lent.group in
    let lends = lends_as (places_of seen started.shelf) store.places chosen c.in_ok-name.name c.args.shadow.now c.in-Some.group c.in_ok-lend_to.field-0 false (places_of seen lent.shelf) group (ap (places_of seen) shelf) c.in_ok-name.ensures c.if-branch.false
    c.in_ok-lend_to.ensures.lends in
    let names : names_of lent.shelf ≡ names_of self.shelf = c.in_ok-lend_to.ensures.names ∙ ap names_of shelf in
    let blocks : lent.shelf.blocks ≡ self.shelf.blocks = c.in_ok-lend_to.ensures.blocks ∙ ap (λ s. s.blocks) shelf in
    let view : view_of seen c.stop-else-branch.new.self ≡ record store { places = places_of seen lent.shelf; group = closed group } =
    c.stop-else-branch.ensures.apart ∙ (λ i. record { names = names i; places = places_of seen lent.shelf; blocks = blocks i; group = closed group }) in
    let rose = rose_closed store (record store { places = places_of seen lent.shelf }) group c.stop-else-branch.ensures.same
    (lend_cause store rack disk _ c.in-Ok.ensures.chosen.free c.in_ok-disk.ensures.takes c.in-Some.group starts.0 chosen c.args.shadow.now (places_of seen lent.shelf) group lends) in
    subst (λ (a : Answer). FaultHasCause store (view_of seen c.stop-else-branch.new.self) a) (sym c.stop-else-branch.ensures.told) (subst (λ (v : StoreView). DiskRose store v) (sym view) rose)
