-- Calls on the set of a slot: refused by their causes, or done.
use Rattle.std.proofs.Common.{◌≡◌, ℕ, Bool, true, false, Option, None, Some, List, [], ◌∷◌, Result, Ok, Err, IfErr, ◌∙◌, sym, refl, ap}
use Rattle.std.specs.Bool.{then_some}
use Rattle.avs_model.specs.ShadowSets.{Standing, Online, Offline, Exported, is_online, is_exported}
use Rattle.avs_model.specs.Rows.{first_row}
use Rattle.avs_model.specs.declared.answer.Refusal.{Refusal}
use Rattle.avs_model.specs.declared.answer.Refusal.TheVariants as refusal
use Rattle.avs_model.specs.declared.answer.Word.TheVariants as word
use Rattle.avs_sets.specs.Says.{SlotSays}
use Rattle.avs_sets.specs.Meaning.{GroupSeen, set_of, slot_of}
use Rattle.avs_group.specs.Group.{Group, group_of}
use Rattle.avs_group.specs.Named.{named, IsNamedAt, refusal_of, refused_by, copy_cause, io_cause, lacks_slots}
use Rattle.avs_group.specs.Calls.{OnSet, CopiesAt}
use Rattle.avs_group.proofs.Exits.{does_ok, does_err}

never : {X : Type 0} {x : X} → Some x ≡ None → ⊥
never e = cc

only : {X : Type 0} {x y : X} → Some x ≡ Some y → x ≡ y
only e = cc

pub on_refused : {T : Type 0} (cause : SlotSays → Option Refusal) (old : Group) (slot : ℕ) (does : Type 0) (why : Refusal) → refusal_of cause (group_of old) slot ≡ Some why → OnSet {T = T} cause old slot does (Err why) old
on_refused cause old slot does why is = record {
  refused = λ other this. record { answer = ap (λ (w : Refusal). Err w) (only (sym is ∙ this)); same = refl };
  done = λ none. absurd (never (sym is ∙ none));
  fault = λ none. absurd (never (sym is ∙ none));
}

pub on_done : {T : Type 0} (cause : SlotSays → Option Refusal) (old : Group) (slot : ℕ) (does : Type 0) (result : Result T Refusal) (new : Group) → refusal_of cause (group_of old) slot ≡ None → does
    → IfErr result (λ why. why ≡ refusal.Fault) → OnSet cause old slot does result new
on_done cause old slot does result new none is fault = record {
  refused = λ why this. absurd (never (sym this ∙ none));
  done = λ _. is;
  fault = λ _. fault;
}

pub none_refused : (cause : SlotSays → Option Refusal) (g : GroupSeen) (slot : ℕ) → named g slot ≡ None → refusal_of cause g slot ≡ Some refusal.NoSet
none_refused cause g slot none = ap (λ s. refused_by cause g.memory s) none

pub named_refused : (cause : SlotSays → Option Refusal) (g : GroupSeen) (slot place : ℕ) (said : SlotSays) (why : Option Refusal) → IsNamedAt g slot place → slot_of g.memory (set_of g.sets place) ≡ said
    → why ≡ cause said → refusal_of cause g slot ≡ why
named_refused cause g slot place said why at is by = ap (λ s. refused_by cause g.memory s) at.is ∙ ap cause is ∙ sym by

-- ---- what is known where nothing refuses

exported_not : (e : Bool) (why : Refusal) (rows : List (Option Refusal)) → first_row (then_some e why ∷ rows) ≡ None → e ≡ false
exported_not true why rows none = absurd (never none)
exported_not false why rows none = refl

pub copies_here : (said : SlotSays) → copy_cause said ≡ None → is_exported said.standing ≡ false
copies_here said none = exported_not (is_exported said.standing) (refusal.WrongState word.Exported) (then_some said.stopped (refusal.WrongState word.Stopped) ∷ []) none

pub io_online : (said : SlotSays) → io_cause said ≡ None → is_online said.standing ≡ true
io_online said none = go said.standing none
  where
    go : (t : Standing) → first_row (then_some (is_exported t) (refusal.WrongState word.Away) ∷ lacks_slots t ∷ []) ≡ None → is_online t ≡ true
    go Online none = refl
    go (Offline need slots) none = absurd (never none)
    go (Exported stamp) none = absurd (never none)

-- ---- copies

pub copies_ok : {E G : Type 0} (old new : Group) (place : ℕ) (x : Option ℕ) → CopiesAt {E = E} old place (Ok x) new → CopiesAt {E = G} old place (Ok x) new
copies_ok old new place x a = record { chunk = a.chunk; least = a.least; does = does_ok old new _ x x a.does; answer = a.answer }

pub copies_err : {E G : Type 0} (old new : Group) (place : ℕ) (x : E) (y : G) → CopiesAt old place (Err x) new → CopiesAt old place (Err y) new
copies_err old new place x y a = record { chunk = a.chunk; least = a.least; does = does_err old new _ x y a.does; answer = tt }
