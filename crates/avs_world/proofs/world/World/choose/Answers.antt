use Rattle.std.proofs.Common.{◌≡◌, ◌∙◌, rules, arith, Some, Err, ap, sym, inl, inr}
use Rattle.avs_world.specs.Views.{view_of}
use Rattle.avs_world.proofs.Holding.{no_volume}
use Rattle.avs_world.proofs.Choosing.{choose_none, choose_busy, choose_small, choose_full, choose_spent, choose_passes, choose_some, is_chosen}
use Rattle.avs_world.proofs.world.World.choose.Goals as goal

pub returns-in_err-master-clause-refused : goal.returns-in_err-master-clause-refused
returns-in_err-master-clause-refused g c =
    let is : c.from_residual.result ≡ Err c.in_err-master.field-0.0 = search rules in
    let none = c.in_err-master.ensures.none in
    rw is
    (λ steady state holds phase. choose_none state.p c.args.master.now c.args.shadow.now c.args.bitmap.now (inl (inl (no_volume _ state.p holds.same_names c.args.master.now none.1))) ∙ ap Some (sym none.0))

pub returns-in_err-shadow-clause-refused : goal.returns-in_err-shadow-clause-refused
returns-in_err-shadow-clause-refused g c =
    let is : c.from_residual-in_err-shadow.result ≡ Err c.in_err-shadow.field-0.0 = search rules in
    let none = c.in_err-shadow.ensures.none in
    rw is
    (λ steady state holds phase. choose_none state.p c.args.master.now c.args.shadow.now c.args.bitmap.now (inl (inr (no_volume _ state.p holds.same_names c.args.shadow.now none.1))) ∙ ap Some (sym none.0))

pub returns-in_err-bitmap-clause-refused : goal.returns-in_err-bitmap-clause-refused
returns-in_err-bitmap-clause-refused g c =
    let is : c.from_residual-in_err-bitmap.result ≡ Err c.in_err-bitmap.field-0.0 = search rules in
    let none = c.in_err-bitmap.ensures.none in
    rw is
    (λ steady state holds phase. choose_none state.p c.args.master.now c.args.shadow.now c.args.bitmap.now (inr (no_volume _ state.p holds.same_names c.args.bitmap.now none.1)) ∙ ap Some (sym none.0))

pub returns-in_err-check_roles-clause-refused : goal.returns-in_err-check_roles-clause-refused
returns-in_err-check_roles-clause-refused g c =
    let is : c.from_residual-in_err-check_roles.result ≡ Err c.in_err-check_roles.field-0.0 = search rules in
    rw is
    (λ steady state holds phase.
    choose_busy steady (view_of g.D.Disk.seen c.args.self.now) state c.args.master.now c.args.shadow.now c.args.bitmap.now c.in_ok-master.master c.in_ok-shadow.shadow c.in_ok-bitmap.bitmap c.in_ok-master.ensures.found
    c.in_ok-shadow.ensures.found c.in_ok-bitmap.ensures.found holds phase c.in_err-check_roles.field-0.0 c.in_err-check_roles.ensures.refused)

pub returns-in_err-check_sizes-clause-refused : goal.returns-in_err-check_sizes-clause-refused
returns-in_err-check_sizes-clause-refused g c =
    let is : c.from_residual-in_err-check_sizes.result ≡ Err c.in_err-check_sizes.field-0.0 = search rules in
    rw is
    (λ steady state holds phase.
    choose_small steady (view_of g.D.Disk.seen c.args.self.now) state c.args.master.now c.args.shadow.now c.args.bitmap.now c.in_ok-master.master c.in_ok-shadow.shadow c.in_ok-bitmap.bitmap c.in_ok-master.ensures.found
    c.in_ok-shadow.ensures.found c.in_ok-bitmap.ensures.found holds phase c.in_err-check_sizes.field-0.0 c.in_ok-check_roles.ensures.passes c.in_err-check_sizes.ensures.refused)

pub returns-in_err-check_group-clause-refused : goal.returns-in_err-check_group-clause-refused
returns-in_err-check_group-clause-refused g c =
    let is : c.from_residual-in_err-check_group.result ≡ Err c.in_err-check_group.field-0.0 = search rules in
    rw is
    (λ steady state holds phase.
    choose_full steady (view_of g.D.Disk.seen c.args.self.now) state c.args.master.now c.args.shadow.now c.args.bitmap.now c.in_ok-master.master c.in_ok-shadow.shadow c.in_ok-bitmap.bitmap c.in_ok-master.ensures.found
    c.in_ok-shadow.ensures.found c.in_ok-bitmap.ensures.found holds phase c.in_err-check_group.field-0.0 c.in_ok-check_roles.ensures.passes c.in_ok-check_sizes.ensures.passes c.in_err-check_group.ensures.refused)

pub returns-then-is_spent-clause-refused : goal.returns-then-is_spent-clause-refused
returns-then-is_spent-clause-refused g c steady state holds phase =
    choose_spent steady (view_of g.D.Disk.seen c.args.self.now) state c.args.master.now c.args.shadow.now c.args.bitmap.now c.in_ok-master.master c.in_ok-shadow.shadow c.in_ok-bitmap.bitmap c.in_ok-master.ensures.found
    c.in_ok-shadow.ensures.found c.in_ok-bitmap.ensures.found holds phase c.in_ok-check_roles.ensures.passes c.in_ok-check_sizes.ensures.passes c.in_ok-check_group.ensures.free
    (sym c.is_spent.ensures ∙ c.if-is_spent.true)

pub returns-in_err-check_size-clause-refused : goal.returns-in_err-check_size-clause-refused
returns-in_err-check_size-clause-refused g c =
    let is : c.from_residual-in_err-check_size.result ≡ Err c.in_err-check_size.field-0.0 = search rules in
    rw is
    (λ steady state holds phase. absurd (
    choose_some steady (view_of g.D.Disk.seen c.args.self.now) state c.args.master.now c.args.shadow.now c.args.bitmap.now c.in_ok-master.master c.in_ok-shadow.shadow c.in_ok-bitmap.bitmap c.in_ok-master.ensures.found
    c.in_ok-shadow.ensures.found c.in_ok-bitmap.ensures.found holds phase c.in_ok-check_group.ensures.free c.in_ok-check_roles.ensures.passes (omega (arith, c.reach.ensures, c.in_err-check_size.ensures.refused.0))
    ))

pub returns-clause-passes : goal.returns-clause-passes
returns-clause-passes g c steady state holds phase =
    choose_passes steady (view_of g.D.Disk.seen c.args.self.now) state c.args.master.now c.args.shadow.now c.args.bitmap.now c.in_ok-master.master c.in_ok-shadow.shadow c.in_ok-bitmap.bitmap c.in_ok-master.ensures.found
    c.in_ok-shadow.ensures.found c.in_ok-bitmap.ensures.found holds phase c.in_ok-check_roles.ensures.passes c.in_ok-check_sizes.ensures.passes c.in_ok-check_group.ensures.free
    (sym c.is_spent.ensures ∙ c.if-is_spent.false)

pub returns-clause-chosen : goal.returns-clause-chosen
returns-clause-chosen g c =
    is_chosen (view_of g.D.Disk.seen c.args.self.now) c.args.master.now c.args.shadow.now c.args.bitmap.now c.in_ok-master.master c.in_ok-shadow.shadow c.in_ok-bitmap.bitmap c.in_ok-master.ensures.found
    c.in_ok-shadow.ensures.found c.in_ok-bitmap.ensures.found c.in_ok-check_roles.ensures.passes c.in_ok-check_sizes.ensures.passes c.in_ok-check_group.ensures.free
    (sym c.is_spent.ensures ∙ c.if-is_spent.false) (omega (arith, c.reach.ensures, c.in_ok-check_size.ensures.passes))
