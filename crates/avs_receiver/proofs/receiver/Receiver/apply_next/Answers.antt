use Rattle.std.proofs.Common.{ℕ, Err, Ok, refl, subst}
use Rattle.std.proofs.lemmas.Result.{err_from_is_err_and}
use Rattle.avs_land.specs.Landing.{Lands}
use Rattle.avs_receiver.proofs.Applications.{landing_stopped}
use Rattle.avs_receiver.proofs.Nexts.{next_done, next_stopped}
use Rattle.avs_receiver.proofs.receiver.Receiver.apply_next.Goals as goal

pub returns-in_err-land-clause-applies : goal.returns-in_err-land-clause-applies
returns-in_err-land-clause-applies g c =
    let p = err_from_is_err_and c.from_residual.result c.from_residual.ensures.1 in
    let over = rw (← c.self-inside.view_is) at c.self.invariant in
    let first = rw (← c.self.view_is) at c.requires.next in
    let next = rw (← c.self-inside.view_is) at first in
    let early = rw (← c.self.view_is) at c.requires.can in
    let can = rw (← c.self-inside.view_is) at early in
    let lands = subst (λ (k : ℕ). Lands c.self-inside.inside.0.1.0.land k c.args.place c.args.entry.now (Err c.in_err-land.field-0.0) c.land.new.self) next.heard.number c.in_err-land.ensures in
    rw (p.1) (rw (← c.self.view_is, ← c.self-inside.view_is)
    (landing_stopped _ _ _ c.args.place c.args.entry.now next.heard.receiving next.follows can over c.args.session _ refl next.heard.number c.land.new.self c.in_err-land.field-0.0 lands))

pub returns-in_err-put-clause-applies : goal.returns-in_err-put-clause-applies
returns-in_err-put-clause-applies g c =
    let p = err_from_is_err_and c.from_residual-in_err-put.result c.from_residual-in_err-put.ensures.1 in
    let over = rw (← c.self-inside.view_is) at c.self.invariant in
    let first = rw (← c.self.view_is) at c.requires.next in
    let next = rw (← c.self-inside.view_is) at first in
    let early = rw (← c.self.view_is) at c.requires.can in
    let can = rw (← c.self-inside.view_is) at early in
    let lands = subst (λ (k : ℕ). Lands c.self-inside.inside.0.1.0.land k c.args.place c.args.entry.now (Ok c.in_ok-land.field-0) c.land.new.self) next.heard.number c.in_ok-land.ensures in
    rw (p.1) (rw (← c.self.view_is, ← c.self-inside.view_is)
    (next_stopped _ _ _ c.args.place c.args.entry.now next.heard.receiving next.follows can over c.land.new.self c.in_ok-land.field-0 lands _ c.args.session c.in_err-put.field-0.0 next.heard.number c.in_err-put.ensures.puts))

pub returns-clause-applies : goal.returns-clause-applies
returns-clause-applies g c =
    let over = rw (← c.self-inside.view_is) at c.self.invariant in
    let first = rw (← c.self.view_is) at c.requires.next in
    let next = rw (← c.self-inside.view_is) at first in
    let early = rw (← c.self.view_is) at c.requires.can in
    let can = rw (← c.self-inside.view_is) at early in
    let lands = subst (λ (k : ℕ). Lands c.self-inside.inside.0.1.0.land k c.args.place c.args.entry.now (Ok c.in_ok-land.field-0) c.land.new.self) next.heard.number c.in_ok-land.ensures in
    let whole = rw (← c.self-2.view_is) at c.in_ok-put.ensures.puts in
    let puts = rw (← c.self-inside-2.view_is) at whole in
    let sound = rw (← c.self-2.view_is) at c.in_ok-put.ensures.sound in
    let sounds = rw (← c.self-inside-2.view_is) at sound in
    rw (← c.self.view_is, ← c.self-inside.view_is)
    (next_done _ _ _ c.args.place c.args.entry.now next.heard.receiving next.follows can over c.land.new.self c.in_ok-land.field-0 lands _ _ sounds puts)
