use Rattle.std.proofs.Common.{◌≡◌, inr, true, subst, arith}
use Rattle.std.proofs.lemmas.Result.{err_from_is_err_and}
use Rattle.avs_halves.specs.Over.{IsOver}
use Rattle.avs_receiver.specs.Held.{ReceiverOf}
use Rattle.avs_receiver.specs.Meaning.{is_redone}
use Rattle.avs_receiver.proofs.Redone.{redo_done, redo_stops, rest_caught}
use Rattle.avs_receiver.proofs.receiver.Receiver.catch_up.Goals as goal

pub returns-in_err-redo-clause-catches : goal.returns-in_err-redo-clause-catches
returns-in_err-redo-clause-catches g c =
    let p = err_from_is_err_and c.from_residual-in_err-redo.result c.from_residual-in_err-redo.ensures.1 in
    let over : IsOver (g.B.Below.seen c.args.self.now.below) c.args.self.now.half.sets = subst (λ (r : ReceiverOf g.row.B.Denot). IsOver (g.B.Below.seen r.below) r.half.sets) c.self.view_is c.self.invariant in
    let inside : is_redone c.self.inside.half.note c.self.inside.half.land.header ≡ true = grind arith in
    let on = subst (λ (r : ReceiverOf g.row.B.Denot). is_redone r.half.note r.half.land.header ≡ true) c.self.view_is inside in
    rw (p.1) (inr (inr (redo_stops (g.B.Below.IsSound c.args.self.now.below) (g.B.Below.seen c.args.self.now.below) c.args.self.now.half over on c.in_ok-vols.ensures.room c.in_err-redo.field-0.0 p.0 p.2 _ c.in_err-redo.ensures.redoes)))

pub returns-clause-catches : goal.returns-clause-catches
returns-clause-catches g c =
    let over : IsOver (g.B.Below.seen c.args.self.now.below) c.args.self.now.half.sets = subst (λ (r : ReceiverOf g.row.B.Denot). IsOver (g.B.Below.seen r.below) r.half.sets) c.self.view_is c.self.invariant in
    let inside : is_redone c.self.inside.half.note c.self.inside.half.land.header ≡ true = grind arith in
    let on = subst (λ (r : ReceiverOf g.row.B.Denot). is_redone r.half.note r.half.land.header ≡ true) c.self.view_is inside in
    redo_done (g.B.Below.IsSound c.args.self.now.below) (g.B.Below.seen c.args.self.now.below) c.args.self.now.half over on c.in_ok-vols.ensures.room c.in_ok-redo.field-0 (g.B.Below.IsSound c.redo.new.self.below) c.in_ok-redo.ensures.sound _ c.in_ok-redo.ensures.redoes

pub returns-clause-rest : goal.returns-clause-rest
returns-clause-rest g c =
    let inside : is_redone c.self.inside.half.note c.self.inside.half.land.header ≡ true = grind arith in
    let on = subst (λ (r : ReceiverOf g.row.B.Denot). is_redone r.half.note r.half.land.header ≡ true) c.self.view_is inside in
    rest_caught g.B.Below.wrote _ _ _ on c.in_ok-redo.ensures.rest
