use Rattle.std.proofs.Common.{rules, ◌≡◌, true, false, refl, arith}
use Rattle.std.specs.Prelude.{is_some}
use Rattle.avs_arrivals.proofs.Waits.{is_held, not_held, holds, distinct-push}
use Rattle.avs_arrivals.proofs.arrivals.Arrivals.hold.Goals as goal

pub returns-then-is_some-clause-held : goal.returns-then-is_some-clause-held
returns-then-is_some-clause-held c =
    let test : true ≡ is_some c.place_of.result = search rules in
    rw (← c.self.view_is) (is_held c.self.inside.held.items _ c.args.place c.place_of.result true c.deref.ensures.value c.place_of.ensures.first test)

pub invariant_of-self : goal.invariant_of-self
invariant_of-self c =
    let test : false ≡ is_some c.place_of.result = search rules in
    let none = not_held c.self.inside.held.items _ c.args.place c.place_of.result c.deref.ensures.value c.place_of.ensures.first test in
    (rw c.push_reserved.ensures.items (distinct-push c.self.inside.held.items _ none c.self.invariant.0), omega (arith, c.self.invariant.1, c.push_reserved.ensures.capacity))

pub returns-clause-ok : goal.returns-clause-ok
returns-clause-ok c =
    let test : false ≡ is_some c.place_of.result = search rules in
    let none = not_held c.self.inside.held.items _ c.args.place c.place_of.result c.deref.ensures.value c.place_of.ensures.first test in
    rw (← c.self.view_is) (holds (record { held = c.self.inside.held.items; limit = c.self.inside.limit }) _ c.args.place c.args.entry c.push_reserved.ensures.items refl none)

pub returns-clause-held : goal.returns-clause-held
returns-clause-held c =
    let test : false ≡ is_some c.place_of.result = search rules in
    rw (← c.self.view_is) (is_held c.self.inside.held.items _ c.args.place c.place_of.result false c.deref.ensures.value c.place_of.ensures.first test)
