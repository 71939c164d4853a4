use Rattle.std.proofs.Common.{inr}
use Rattle.std.proofs.lemmas.Result.{err_from_is_err_and}
use Rattle.avs_receiver.specs.Held.{held}
use Rattle.avs_receiver.proofs.Settled.{leave_stops, settled, wipe_stops, wiped}
use Rattle.avs_receiver.proofs.receiver.Receiver.settle.Goals as goal

pub returns-in_err-wipe_left-clause-settles : goal.returns-in_err-wipe_left-clause-settles
returns-in_err-wipe_left-clause-settles g c =
    let p = err_from_is_err_and c.from_residual-in_err-wipe_left.result c.from_residual-in_err-wipe_left.ensures.1 in
    let a = rw (← c.self.view_is) at c.in_ok-catch_up.ensures.catches in
    let sounds = rw (← c.self.view_is) at c.in_ok-catch_up.ensures.sound in
    rw (p.1) (inr (inr (wipe_stops (g.B.Below.IsSound c.self.inside.below) (g.B.Below.seen c.self.inside.below) c.self.inside.half c.self.invariant c.in_err-wipe_left.field-0.0 c.wipe_left.new.self c.in_err-wipe_left.ensures _ _ p.0 p.2 a sounds)))

pub returns-in_err-leave-clause-settles : goal.returns-in_err-leave-clause-settles
returns-in_err-leave-clause-settles g c =
    let p = err_from_is_err_and c.from_residual-in_err-leave.result c.from_residual-in_err-leave.ensures.1 in
    let a = rw (← c.self.view_is) at c.in_ok-catch_up.ensures.catches in
    let sounds = rw (← c.self.view_is) at c.in_ok-catch_up.ensures.sound in
    rw (p.1) (inr (inr (leave_stops _ (g.B.Below.IsSound c.self.inside.below) _ _ (held (g.B.Below.seen c.self.inside.below) c.self.inside.half) (held (g.B.Below.seen c.self.inside.below) c.wipe_left.new.self) _ c.in_err-leave.field-0.0 p.0 p.2 a sounds
    (wiped (g.B.Below.IsSound c.self.inside.below) (g.B.Below.seen c.self.inside.below) c.self.inside.half c.self.invariant c.in_ok-wipe_left.field-0 c.wipe_left.new.self c.in_ok-wipe_left.ensures)
    c.in_err-leave.ensures.leaves)))

pub returns-clause-settles : goal.returns-clause-settles
returns-clause-settles g c =
    let a = rw (← c.self.view_is) at c.in_ok-catch_up.ensures.catches in
    let sounds = rw (← c.self.view_is) at c.in_ok-catch_up.ensures.sound in
    settled _ (g.B.Below.IsSound c.self.inside.below) _ _ (held (g.B.Below.seen c.self.inside.below) c.self.inside.half) (held (g.B.Below.seen c.self.inside.below) c.wipe_left.new.self) _ c.in_ok-leave.field-0 a sounds
    (wiped (g.B.Below.IsSound c.self.inside.below) (g.B.Below.seen c.self.inside.below) c.self.inside.half c.self.invariant c.in_ok-wipe_left.field-0 c.wipe_left.new.self c.in_ok-wipe_left.ensures)
    c.in_ok-leave.ensures.leaves
