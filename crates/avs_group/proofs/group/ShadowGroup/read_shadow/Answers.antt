use Rattle.std.proofs.Common.{rules, ◌≡◌, None, true, Result, sym, subst, ◌∙◌, ap}
use Rattle.avs_seg.specs.declared.fault.Failed.{Failed}
use Rattle.avs_model.specs.ShadowSets.{is_online}
use Rattle.avs_sets.specs.Says.{SlotSays}
use Rattle.avs_sets.specs.Meaning.{set_of, slot_of, standing_of}
use Rattle.avs_state.specs.Saying.{said_of}
use Rattle.avs_group.specs.Group.{group_of, seen}
use Rattle.avs_group.specs.Named.{IsNamedAt, io_cause}
use Rattle.avs_group.specs.Reads.{ReadsSet}
use Rattle.avs_group.proofs.ReadSets.{reads_image, shadow_there}
use Rattle.avs_group.proofs.Refusing.{on_done, named_refused, io_online}
use Rattle.avs_group.proofs.group.ShadowGroup.read_shadow.Goals as goal

pub read_set-requires-clause-there : goal.read_set-requires-clause-there
read_set-requires-clause-there g c =
    let at : IsNamedAt (group_of (seen c.args.self.now)) c.args.set c.in-Some.place = search rules in
    let said : slot_of (group_of (seen c.args.self.now)).memory (set_of (seen c.args.self.now).sets c.in-Some.place) ≡ said_of c.in-Some.state = search rules in
    let none : c.io_refusal.result ≡ None = search rules in
    let on : is_online (standing_of (group_of (seen c.args.self.now)).memory (set_of (seen c.args.self.now).sets c.in-Some.place)) ≡ true =
    ap (λ (x : SlotSays). is_online x.standing) said ∙ io_online (said_of c.in-Some.state) (sym c.io_refusal.ensures ∙ none) in
    shadow_there (seen c.args.self.now) c.find.ensures.kept c.in-Some.place at.there on

pub returns-in-Ok : goal.returns-in-Ok
returns-in-Ok g c =
    let at : IsNamedAt (group_of (seen c.args.self.now)) c.args.set c.in-Some.place = search rules in
    let said : slot_of (group_of (seen c.args.self.now)).memory (set_of (seen c.args.self.now).sets c.in-Some.place) ≡ said_of c.in-Some.state = search rules in
    let none : c.io_refusal.result ≡ None = search rules in
    let on : is_online (standing_of (group_of (seen c.args.self.now)).memory (set_of (seen c.args.self.now).sets c.in-Some.place)) ≡ true =
    ap (λ (x : SlotSays). is_online x.standing) said ∙ io_online (said_of c.in-Some.state) (sym c.io_refusal.ensures ∙ none) in
    on_done io_cause (seen c.args.self.now) c.args.set _ _ (seen c.read_set.new.self)
    (named_refused io_cause (group_of (seen c.args.self.now)) c.args.set c.in-Some.place (said_of c.in-Some.state) None at said (sym none ∙ c.io_refusal.ensures))
    (reads_image (seen c.args.self.now) (seen c.read_set.new.self) c.find.ensures.kept c.args.set c.in-Some.place at on c.args.at c.read_set.new.out c.in-Ok.field-0 tt
    (subst (λ (r : Result (Unit {0}) Failed). ReadsSet (seen c.args.self.now) c.in-Some.place c.args.at c.read_set.new.out r (seen c.read_set.new.self)) c.in-Ok.is c.read_set.ensures))
    tt
