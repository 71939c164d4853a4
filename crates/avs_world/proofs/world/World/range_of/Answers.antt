use Rattle.std.proofs.Common.{◌≡◌, ◌∙◌, Some, sym, ap, arith}
use Rattle.avs_world.specs.declared.group.Part.TheVariants.{Bitmap, Plain}
use Rattle.avs_model.specs.declared.answer.Refusal.TheVariants.{Range}
use Rattle.std.specs.List.{slice_get}
use Rattle.avs_world.specs.Views.{view_of}
use Rattle.avs_world.specs.Ranges.{reach_by, is_gone}
use Rattle.avs_world.proofs.Holding.{no_volume}
use Rattle.avs_world.proofs.Ready.{volume_is, is_busy, ready_as, gone_as}
use Rattle.avs_world.proofs.Ranging.{place_none, place_busy, place_short, place_long, place_over, place_empty, place_passes}
use Rattle.avs_world.proofs.Roles.{same_role, no_bitmap, kept_contents}
use Rattle.avs_world.proofs.world.World.range_of.Goals as goal
use Rattle.avs_world.proofs.world.World.range_of.Goals.{then-len-lt1-via-then-len-lt1, then-len-lt1-via-else-len-lt1+then-longest-len, else-eq-2-via-then-eq-2+else-is_spent, else-eq-2-via-else-eq-2}

pub returns-in_default-clause-refused : goal.returns-in_default-clause-refused
returns-in_default-clause-refused g c steady s holds phase =
    place_none s c.args.name.now c.args.at c.args.len c.args.longest (no_volume _ s.p holds.same_names c.args.name.now (sym c.in_default.ensures.place))

pub returns-then-eq-clause-refused : goal.returns-then-eq-clause-refused
returns-then-eq-clause-refused g c steady s holds phase =
    let store = view_of g.D.Disk.seen c.args.self.now in
    let name = c.args.name.now in
    let sought = sym c.in-Some.ensures.place in
    let role = sym c.role.ensures ∙ same_role c.role.result Bitmap (sym c.if-eq.ensures) in
    place_busy s name c.args.at c.args.len c.args.longest (volume_is steady store s name c.in-Some.place holds phase sought) (is_busy steady store s name c.in-Some.place holds phase sought role)

pub returns-then-len-lt1-clause-refused : goal.returns-then-len-lt1-clause-refused
returns-then-len-lt1-clause-refused g c steady s holds phase =
    let store = view_of g.D.Disk.seen c.args.self.now in
    let name = c.args.name.now in
    let place = c.in-Some.place in
    let role = c.role.result in
    let ready = ready_as steady store s name place holds phase (sym c.in-Some.ensures.place) role (sym c.role.ensures) (no_bitmap role (sym c.if-eq.ensures)) c.in-Some.ensures.within in
    let reach = reach_by store place role in
    let spent = gone_as role (is_gone (slice_get store.places place)) in
    elim c.then-len-lt1.branch [
      | then-len-lt1-via-then-len-lt1 w ↦ place_short s name c.args.at c.args.len c.args.longest reach spent ready w.if-len-lt1.true
      | then-len-lt1-via-else-len-lt1+then-longest-len w ↦ place_long s name c.args.at c.args.len c.args.longest reach spent ready w.if-longest-len.true
    ]

pub returns-then-from-clause-refused : goal.returns-then-from-clause-refused
returns-then-from-clause-refused g c steady s holds phase =
    let store = view_of g.D.Disk.seen c.args.self.now in
    let name = c.args.name.now in
    let place = c.in-Some.place in
    let role = c.role.result in
    let ready = ready_as steady store s name place holds phase (sym c.in-Some.ensures.place) role (sym c.role.ensures) (no_bitmap role (sym c.if-eq.ensures)) c.in-Some.ensures.within in
    let reach = reach_by store place role in
    let size : c.reach-blocks.result ≡ reach = c.reach-blocks.ensures in
    place_over s name c.args.at c.args.len c.args.longest reach (gone_as role (is_gone (slice_get store.places place))) ready (omega (arith, c.if-len-lt1.false)) (omega (arith, c.if-longest-len.false))
    (omega (arith, size, c.from.ensures, c.from-2.ensures, c.from-3.ensures, c.if-from.true))
    ∙ ap (λ n. Some (Range n)) (sym size)

pub returns-then-is_spent-clause-refused : goal.returns-then-is_spent-clause-refused
returns-then-is_spent-clause-refused g c steady s holds phase =
    let store = view_of g.D.Disk.seen c.args.self.now in
    let name = c.args.name.now in
    let place = c.in-Some.place in
    let role = c.role.result in
    let ready = ready_as steady store s name place holds phase (sym c.in-Some.ensures.place) role (sym c.role.ensures) (no_bitmap role (sym c.if-eq.ensures)) c.in-Some.ensures.within in
    let reach = reach_by store place role in
    let gone = is_gone (slice_get store.places place) in
    let size : c.reach-blocks.result ≡ reach = c.reach-blocks.ensures in
    place_empty s name c.args.at c.args.len c.args.longest reach (gone_as role gone) ready (omega (arith, c.if-len-lt1.false)) (omega (arith, c.if-longest-len.false))
    (omega (arith, size, c.from.ensures, c.from-2.ensures, c.from-3.ensures, c.if-from.false))
    (ap (λ r. gone_as r gone) (same_role role Plain (sym c.if-eq-2.ensures)) ∙ sym c.is_spent.ensures ∙ c.if-is_spent.true)

pub returns-clause-passes : goal.returns-clause-passes
returns-clause-passes g c steady s holds phase =
    let store = view_of g.D.Disk.seen c.args.self.now in
    let name = c.args.name.now in
    let place = c.in-Some.place in
    let role = c.role.result in
    let ready = ready_as steady store s name place holds phase (sym c.in-Some.ensures.place) role (sym c.role.ensures) (no_bitmap role (sym c.if-eq.ensures)) c.in-Some.ensures.within in
    let reach = reach_by store place role in
    let gone = is_gone (slice_get store.places place) in
    let size : c.reach-blocks.result ≡ reach = c.reach-blocks.ensures in
    place_passes s name c.args.at c.args.len c.args.longest reach (gone_as role gone) ready (omega (arith, c.if-len-lt1.false)) (omega (arith, c.if-longest-len.false))
    (omega (arith, size, c.from.ensures, c.from-2.ensures, c.from-3.ensures, c.if-from.false))
    (elim c.else-eq-2.branch [
      | else-eq-2-via-then-eq-2+else-is_spent w ↦ ap (λ r. gone_as r gone) (same_role role Plain (sym w.if-eq-2.ensures)) ∙ sym w.is_spent.ensures ∙ w.if-is_spent.false
      | else-eq-2-via-else-eq-2 w ↦ kept_contents role gone (sym w.if-eq-2.ensures)
    ])
