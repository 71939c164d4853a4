use Rattle.std.proofs.Common.{◌∙◌, inl, inr, true, false, refl, sym, ap, subst}
use Rattle.std.proofs.lemmas.Result.{IfErr-weaker, IfOk-weaker, err_from_is_err_and}
use Rattle.avs_halves.specs.Over.{IsOver}
use Rattle.avs_halves.proofs.Lying.{loaded_over}
use Rattle.avs_receiver.specs.Held.{ReceiverParts, seen_of}
use Rattle.avs_receiver.specs.PartsView.{opened_as, seen_parts}
use Rattle.avs_receiver.specs.CatchingUp.{HasSettled, RestCaught}
use Rattle.avs_receiver.specs.Loading.{IsNoLandingBehind, LeavesFound}
use Rattle.avs_receiver.proofs.Loaded.{all_openable, load_refused, loads, opens_is}
use Rattle.avs_receiver.proofs.Sure.{sure}
use Rattle.avs_receiver.proofs.receiver.Receiver.load.Goals as goal

pub open_landing-requires-clause-over : goal.open_landing-requires-clause-over
open_landing-requires-clause-over g c = subst (λ (b : g.row.B.Denot). IsOver (g.B.Below.seen b) c.in_ok-opened.opened.sets) (sym c.in_ok-opened.ensures.below)
    (loaded_over (g.B.Below.seen c.args.parts.below) c.args.parts.sets c.in_ok-opened.opened.sets c.in_ok-opened.ensures.sets c.requires)

pub returns-in_err-receiver-clause-refused : goal.returns-in_err-receiver-clause-refused
returns-in_err-receiver-clause-refused g c =
    let p = err_from_is_err_and c.from_residual-in_err-receiver.result c.from_residual-in_err-receiver.ensures.1 in
    rw (p.1, p.2) (inr (inl (record {
      note = c.in-Ok.note;
      is = c.in-Ok.ensures;
      refused = inr (record {
        sets = all_openable (g.B.Below.seen c.args.parts.below) c.args.parts.sets c.in_ok-opened.opened.sets c.in_ok-opened.ensures.sets;
        behind = subst (λ (q : ReceiverParts). IsNoLandingBehind q c.in_err-receiver.field-0.0.why (seen_parts g.D.Disk.seen g.B.Below.seen c.in_err-receiver.field-0.0.parts)) c.in_ok-opened.ensures.parts c.in_err-receiver.ensures.refused;
      });
    })))

pub returns-clause-loads : goal.returns-clause-loads
returns-clause-loads g c =
    let below = c.in_ok-receiver.ensures.below ∙ c.in_ok-opened.ensures.below in
    let o = opens_is (seen_parts g.D.Disk.seen g.B.Below.seen c.args.parts) (opened_as g.D.Disk.seen g.B.Below.seen c.in_ok-opened.opened) c.in_ok-opened.ensures.parts c.in_ok-opened.opened.sets c.in-Ok.note
    (seen_of g.B.Below.seen c.in_ok-receiver.receiver) (ap g.B.Below.seen below) c.in_ok-receiver.ensures.half c.in-Ok.ensures c.in_ok-opened.ensures.sets c.in_ok-receiver.ensures.landing in
    IfOk-weaker c.leave_found.result _ _
    (λ r s. loads (g.B.Below.IsSound c.args.parts.below) (seen_parts g.D.Disk.seen g.B.Below.seen c.args.parts) (seen_of g.B.Below.seen c.in_ok-receiver.receiver) o (g.B.Below.IsSound r.below) (seen_of g.B.Below.seen r)
    (subst (λ (b : g.row.B.Denot). HasSettled (g.B.Below.IsSound b) (g.B.Below.IsSound r.below) (seen_of g.B.Below.seen c.in_ok-receiver.receiver) (seen_of g.B.Below.seen r)) below s))
    c.leave_found.ensures.settles

pub returns-clause-sure : goal.returns-clause-sure
returns-clause-sure g c = λ m.
    let below = c.in_ok-receiver.ensures.below ∙ c.in_ok-opened.ensures.below in
    let o = opens_is (seen_parts g.D.Disk.seen g.B.Below.seen c.args.parts) (opened_as g.D.Disk.seen g.B.Below.seen c.in_ok-opened.opened) c.in_ok-opened.ensures.parts c.in_ok-opened.opened.sets c.in-Ok.note
    (seen_of g.B.Below.seen c.in_ok-receiver.receiver) (ap g.B.Below.seen below) c.in_ok-receiver.ensures.half c.in-Ok.ensures c.in_ok-opened.ensures.sets c.in_ok-receiver.ensures.landing in
    IfErr-weaker c.leave_found.result _ _
    (λ e l. sure (seen_parts g.D.Disk.seen g.B.Below.seen c.args.parts) m (g.B.Below.IsSound c.in_ok-receiver.receiver.below) e.why (seen_parts g.D.Disk.seen g.B.Below.seen e.parts)
    (load_refused (g.B.Below.IsSound c.in_ok-receiver.receiver.below) (seen_parts g.D.Disk.seen g.B.Below.seen c.args.parts) (seen_of g.B.Below.seen c.in_ok-receiver.receiver) o e.why (seen_parts g.D.Disk.seen g.B.Below.seen e.parts) l))
    c.leave_found.ensures.refused

pub returns-in_err-receiver-clause-sure : goal.returns-in_err-receiver-clause-sure
returns-in_err-receiver-clause-sure g c =
    let p = err_from_is_err_and c.from_residual-in_err-receiver.result c.from_residual-in_err-receiver.ensures.1 in
    rw (p.1, p.2) (λ m. sure (seen_parts g.D.Disk.seen g.B.Below.seen c.args.parts) m (g.B.Below.IsSound c.args.parts.below) c.in_err-receiver.field-0.0.why (seen_parts g.D.Disk.seen g.B.Below.seen c.in_err-receiver.field-0.0.parts) (inr (inl (record {
      note = c.in-Ok.note;
      is = c.in-Ok.ensures;
      refused = inr (record {
        sets = all_openable (g.B.Below.seen c.args.parts.below) c.args.parts.sets c.in_ok-opened.opened.sets c.in_ok-opened.ensures.sets;
        behind = subst (λ (q : ReceiverParts). IsNoLandingBehind q c.in_err-receiver.field-0.0.why (seen_parts g.D.Disk.seen g.B.Below.seen c.in_err-receiver.field-0.0.parts)) c.in_ok-opened.ensures.parts c.in_err-receiver.ensures.refused;
      });
    }))))

pub returns-in_err-opened-clause-sure : goal.returns-in_err-opened-clause-sure
returns-in_err-opened-clause-sure g c =
    let p = err_from_is_err_and c.from_residual.result c.from_residual.ensures.1 in
    rw (p.1, p.2) (λ m. sure (seen_parts g.D.Disk.seen g.B.Below.seen c.args.parts) m (g.B.Below.IsSound c.args.parts.below) c.in_err-opened.field-0.0.why (seen_parts g.D.Disk.seen g.B.Below.seen c.in_err-opened.field-0.0.parts) (inr (inl (record {
      note = c.in-Ok.note;
      is = c.in-Ok.ensures;
      refused = inl c.in_err-opened.ensures.refused;
    }))))

pub returns-in-Err-clause-sure : goal.returns-in-Err-clause-sure
returns-in-Err-clause-sure g c = λ m. sure (seen_parts g.D.Disk.seen g.B.Below.seen c.args.parts) m (g.B.Below.IsSound c.args.parts.below) c.in-Err.why (seen_parts g.D.Disk.seen g.B.Below.seen c.args.parts) (inl (record { bad = c.in-Err.ensures; kept = refl }))

pub returns-clause-rest : goal.returns-clause-rest
returns-clause-rest g c =
    let below = c.in_ok-receiver.ensures.below ∙ c.in_ok-opened.ensures.below in
    let o = opens_is (seen_parts g.D.Disk.seen g.B.Below.seen c.args.parts) (opened_as g.D.Disk.seen g.B.Below.seen c.in_ok-opened.opened) c.in_ok-opened.ensures.parts c.in_ok-opened.opened.sets c.in-Ok.note
    (seen_of g.B.Below.seen c.in_ok-receiver.receiver) (ap g.B.Below.seen below) c.in_ok-receiver.ensures.half c.in-Ok.ensures c.in_ok-opened.ensures.sets c.in_ok-receiver.ensures.landing in
    IfOk-weaker c.leave_found.result _ _
    (λ r s. record {
      first = seen_of g.B.Below.seen c.in_ok-receiver.receiver;
      opens = o;
      caught = subst (λ (b : g.row.B.Denot). RestCaught g.B.Below.wrote (g.B.Below.rest b) (seen_of g.B.Below.seen c.in_ok-receiver.receiver) true (g.B.Below.rest r.below)) below s;
    })
    c.leave_found.ensures.rest

pub returns-clause-rest_back : goal.returns-clause-rest_back
returns-clause-rest_back g c =
    let below = c.in_ok-receiver.ensures.below ∙ c.in_ok-opened.ensures.below in
    let o = opens_is (seen_parts g.D.Disk.seen g.B.Below.seen c.args.parts) (opened_as g.D.Disk.seen g.B.Below.seen c.in_ok-opened.opened) c.in_ok-opened.ensures.parts c.in_ok-opened.opened.sets c.in-Ok.note
    (seen_of g.B.Below.seen c.in_ok-receiver.receiver) (ap g.B.Below.seen below) c.in_ok-receiver.ensures.half c.in-Ok.ensures c.in_ok-opened.ensures.sets c.in_ok-receiver.ensures.landing in
    IfErr-weaker c.leave_found.result _ _
    (λ e s. inr (record {
      first = seen_of g.B.Below.seen c.in_ok-receiver.receiver;
      opens = o;
      caught = subst (λ (b : g.row.B.Denot). RestCaught g.B.Below.wrote (g.B.Below.rest b) (seen_of g.B.Below.seen c.in_ok-receiver.receiver) false (g.B.Below.rest e.parts.below)) below s;
    }))
    c.leave_found.ensures.rest_back

pub returns-in_err-receiver-clause-rest_back : goal.returns-in_err-receiver-clause-rest_back
returns-in_err-receiver-clause-rest_back g c =
    let p = err_from_is_err_and c.from_residual-in_err-receiver.result c.from_residual-in_err-receiver.ensures.1 in
    rw (p.1, p.2) (inl (ap g.B.Below.rest (c.in_err-receiver.ensures.back ∙ c.in_ok-opened.ensures.below)))

pub returns-clause-refused : goal.returns-clause-refused
returns-clause-refused g c =
    let below = c.in_ok-receiver.ensures.below ∙ c.in_ok-opened.ensures.below in
    let o = opens_is (seen_parts g.D.Disk.seen g.B.Below.seen c.args.parts) (opened_as g.D.Disk.seen g.B.Below.seen c.in_ok-opened.opened) c.in_ok-opened.ensures.parts c.in_ok-opened.opened.sets c.in-Ok.note
    (seen_of g.B.Below.seen c.in_ok-receiver.receiver) (ap g.B.Below.seen below) c.in_ok-receiver.ensures.half c.in-Ok.ensures c.in_ok-opened.ensures.sets c.in_ok-receiver.ensures.landing in
    IfErr-weaker c.leave_found.result _ _
    (λ e l. load_refused (g.B.Below.IsSound c.args.parts.below) (seen_parts g.D.Disk.seen g.B.Below.seen c.args.parts) (seen_of g.B.Below.seen c.in_ok-receiver.receiver) o e.why (seen_parts g.D.Disk.seen g.B.Below.seen e.parts)
    (subst (λ (b : g.row.B.Denot). LeavesFound (g.B.Below.IsSound b) (seen_of g.B.Below.seen c.in_ok-receiver.receiver) e.why (seen_parts g.D.Disk.seen g.B.Below.seen e.parts)) below l))
    c.leave_found.ensures.refused
