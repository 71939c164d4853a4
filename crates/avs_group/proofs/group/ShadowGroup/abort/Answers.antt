use Rattle.std.proofs.Common.{rules, ◌≡◌, ℕ, None, Result, refl, sym, subst, ◌∙◌}
use Rattle.avs_seg.specs.declared.fault.Failed.{Failed}
use Rattle.avs_model.specs.declared.answer.Refusal.TheVariants as refusal
use Rattle.avs_sets.specs.Meaning.{set_of, slot_of}
use Rattle.avs_state.specs.Saying.{said_of}
use Rattle.avs_group.specs.Group.{group_of, seen}
use Rattle.avs_group.specs.Named.{IsNamedAt, offline_cause}
use Rattle.avs_group.specs.Calls.{StopsCopies}
use Rattle.avs_group.proofs.Exits.{commit_ok, commit_err}
use Rattle.avs_group.proofs.Refusing.{on_done, named_refused}
use Rattle.avs_group.proofs.group.ShadowGroup.abort.Goals as goal

pub returns-in-Ok : goal.returns-in-Ok
returns-in-Ok g c =
    let at : IsNamedAt (group_of (seen c.args.self.now)) c.args.set c.in-Some.place = search rules in
    let said : slot_of (group_of (seen c.args.self.now)).memory (set_of (seen c.args.self.now).sets c.in-Some.place) ≡ said_of c.in-Some.state = search rules in
    let none : c.offline_refusal.result ≡ None = search rules in
    let stops = subst (λ (n : ℕ). StopsCopies (seen c.args.self.now) n c.stop_at.result (seen c.stop_at.new.self)) at.slot_is c.stop_at.ensures in
    on_done offline_cause (seen c.args.self.now) c.args.set _ _ (seen c.stop_at.new.self)
    (named_refused offline_cause (group_of (seen c.args.self.now)) c.args.set c.in-Some.place (said_of c.in-Some.state) None at said (sym none ∙ c.offline_refusal.ensures))
    (commit_ok (seen c.args.self.now) (seen c.stop_at.new.self) _ c.in-Ok.field-0 tt
    (subst (λ (r : Result (Unit {0}) Failed). StopsCopies (seen c.args.self.now) c.args.set r (seen c.stop_at.new.self)) c.in-Ok.is stops))
    tt

pub returns-in-Err : goal.returns-in-Err
returns-in-Err g c =
    let at : IsNamedAt (group_of (seen c.args.self.now)) c.args.set c.in-Some.place = search rules in
    let said : slot_of (group_of (seen c.args.self.now)).memory (set_of (seen c.args.self.now).sets c.in-Some.place) ≡ said_of c.in-Some.state = search rules in
    let none : c.offline_refusal.result ≡ None = search rules in
    let stops = subst (λ (n : ℕ). StopsCopies (seen c.args.self.now) n c.stop_at.result (seen c.stop_at.new.self)) at.slot_is c.stop_at.ensures in
    on_done offline_cause (seen c.args.self.now) c.args.set _ _ (seen c.stop_at.new.self)
    (named_refused offline_cause (group_of (seen c.args.self.now)) c.args.set c.in-Some.place (said_of c.in-Some.state) None at said (sym none ∙ c.offline_refusal.ensures))
    (commit_err (seen c.args.self.now) (seen c.stop_at.new.self) _ c.in-Err.field-0 refusal.Fault
    (subst (λ (r : Result (Unit {0}) Failed). StopsCopies (seen c.args.self.now) c.args.set r (seen c.stop_at.new.self)) c.in-Err.is stops))
    refl
