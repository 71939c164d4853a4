use Rattle.std.proofs.Common.{refl, arith}
use Rattle.avs_arrivals.proofs.Waits.{found_at, absent_at, gives_none, gives_some, distinct-remove}
use Rattle.avs_arrivals.proofs.arrivals.Arrivals.next.Goals as goal

pub returns-in_err-index-clause-gives : goal.returns-in_err-index-clause-gives
returns-in_err-index-clause-gives c =
    let none = absent_at c.self.inside.held.items _ c.args.place c.deref.ensures.value c.in_err-index.ensures.first in
    rw (c.from_residual.ensures, ← c.self.view_is) (gives_none (record { held = c.self.inside.held.items; limit = c.self.inside.limit }) c.args.place none)

pub invariant_of-self : goal.invariant_of-self
invariant_of-self c =
    let some = found_at c.self.inside.held.items _ c.args.place c.in_ok-index.index c.deref.ensures.value c.in_ok-index.ensures.first in
    (rw c.remove.ensures.items (distinct-remove c.self.inside.held.items c.in_ok-index.index c.args.place c.remove.result c.self.invariant.0 some), omega (arith, c.self.invariant.1, c.remove.ensures.capacity))

pub returns-clause-gives : goal.returns-clause-gives
returns-clause-gives c =
    let some = found_at c.self.inside.held.items _ c.args.place c.in_ok-index.index c.deref.ensures.value c.in_ok-index.ensures.first in
    rw (← c.self.view_is) (gives_some (record { held = c.self.inside.held.items; limit = c.self.inside.limit }) _ c.args.place c.in_ok-index.index c.remove.result c.self.invariant.0 some c.remove.ensures.value c.remove.ensures.items refl)
