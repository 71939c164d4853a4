-- A reason is there exactly where a line is no statement.
use Rattle.std.proofs.Common.{◌≡◌, ◌↔◌, ◌==◌, Bool, true, false, Option, None, Some, List, [], ◌∷◌, ℕ, Result, Ok, Err, refl, sym, subst, if◌then◌else◌}
use Rattle.std.specs.Option.{option_map, option_and_then}
use Rattle.std.specs.Prelude.{IsSome, IfOk}
use Rattle.avs_model.specs.Script.{if_built, built, words_event, words_statement}
use Rattle.avs_model.specs.declared.event.Event.{Event}
use Rattle.avs_model.specs.declared.event.Statement.{Statement}
use Rattle.avs_model.specs.declared.event.Statement.TheVariants.{Nothing, Run}
use Rattle.avs_script.specs.Reason.{event_reason, words_reason}
use Rattle.avs_script.specs.declared.reasons.BadLine.{BadLine}
use Rattle.avs_script.specs.declared.reasons.BadLine.TheVariants.{NotBuilt}

some_is_none : {A : Type 0} (a : A) (P : Type 0) → Some a ≡ None → P
some_is_none a P is = absurd (cc)

is_built : (there : Bool) (event : Event) → ((if there then None else Some NotBuilt) ≡ None) ↔ IsSome (option_map Run (if there then Some event else None))
is_built true event = ((λ _. refl), (λ _. refl))
is_built false event = ((λ is. some_is_none NotBuilt _ is), (λ is. absurd (cc)))

is_event : (event : Option Event) (word : List ℕ) (words : List (List ℕ)) → (event_reason event word words ≡ None) ↔ IsSome (option_map Run (option_and_then if_built event))
is_event None word words = ((λ is. some_is_none _ _ is), (λ is. absurd (cc)))
is_event (Some event) word words = is_built (built event) event

is_comment : (comment : Bool) (why : Option BadLine) (said : Option Statement) → ((why ≡ None) ↔ IsSome said) → ((if comment then None else why) ≡ None) ↔ IsSome (if comment then Some Nothing else said)
is_comment true why said same = ((λ _. refl), (λ _. refl))
is_comment false why said same = same

pub words-exact : (words : List (List ℕ)) → (words_reason words ≡ None) ↔ IsSome (words_statement words)
words-exact [] = ((λ _. refl), (λ _. refl))
words-exact ([] ∷ words) = ((λ is. some_is_none _ _ is), (λ is. absurd (cc)))
words-exact ((b ∷ word) ∷ words) =
    is_comment (b == 35) (event_reason (words_event (b ∷ word) words) (b ∷ word) words) (option_map Run (option_and_then if_built (words_event (b ∷ word) words)))
    (is_event (words_event (b ∷ word) words) (b ∷ word) words)

pub exact-ok : {E : Type 0} (result : Result (Option BadLine) E) (words : List (List ℕ)) (said : Option Statement) → said ≡ words_statement words
    → IfOk result (λ found. found ≡ words_reason words) → IfOk result (λ found. (found ≡ None) ↔ IsSome said)
exact-ok (Ok found) words said same is =
    subst (λ found. (found ≡ None) ↔ IsSome said) (sym is) (subst (λ said. (words_reason words ≡ None) ↔ IsSome said) (sym same) (words-exact words))
exact-ok (Err error) words said same is = tt
