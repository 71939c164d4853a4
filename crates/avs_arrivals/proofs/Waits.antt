-- What is held at a place, after one more entry is held and after one was taken out.
use Rattle.std.proofs.Common.{◌≡◌, ◌≢◌, ◌⊎◌, inl, inr, ℕ, zero, suc, ◌<◌, ◌≤◌, Bool, true, false, Option, Some, None, List, [], ◌∷◌, ◌++◌, length, get_or, take, drop, ap, sym, refl, ◌∙◌, arith}
use Rattle.std.specs.Prelude.{◌==◌, ◌&&◌, if◌then◌else◌, is_none, is_some, position, remove}
use Rattle.std.specs.List.{position_or_len}
use Rattle.std.proofs.lemmas.Bool.{cases_eq, and_parts}
use Rattle.std.proofs.lemmas.Bool.Decides.{nat_tests}
use Rattle.std.proofs.lemmas.Grind.{common_steps}
use Rattle.std.proofs.lemmas.List.{length_push}
use Rattle.std.proofs.lemmas.List.Edits.{length-remove}
use Rattle.std.proofs.lemmas.List.Quantifiers.{position-Some}
use Rattle.std.proofs.lemmas.List.Sums.{fails_before_first}
use Rattle.avs_model.specs.declared.entry.Entry.{Entry}
use Rattle.avs_arrivals.specs.declared.arrivals.Arrival.{Arrival}
use Rattle.avs_arrivals.specs.Arrivals.{Waiting, has_place, entry_among, entry_at, is_distinct, without_place, Holds, Gives}

-- ---- tests

is_same : (p q : ℕ) → p ≡ q → (p == q) ≡ true
is_same p q e = grind (arith, nat_tests)

is_other : (p q : ℕ) → p ≢ q → (p == q) ≡ false
is_other p q other = grind (arith, nat_tests)

same_of : (p q : ℕ) → (p == q) ≡ true → p ≡ q
same_of p q test = grind (arith, nat_tests)

none_of : (o : Option Entry) → is_none o ≡ true → o ≡ None
none_of None is = refl
none_of (Some e) is = cc

-- where the entry of a place is not held, no place is that one
absent : (a : Arrival) (more : List Arrival) (p : ℕ) → entry_among (a ∷ more) p ≡ None → (a.place ≢ p) × (entry_among more p ≡ None)
absent a more p none = elim (cases_eq a.place p) [
  | inl same ↦ absurd (let e : Some a.entry ≡ None = rw (is_same a.place p same) at none in cc)
  | inr other ↦ (other, rw (is_other a.place p other) at none)
]

-- ---- one more

among-push_other : (xs : List Arrival) (b : Arrival) (q : ℕ) → q ≢ b.place → entry_among (xs ++ b ∷ []) q ≡ entry_among xs q
among-push_other [] b q other = rw (is_other b.place q (λ e. other (sym e))) refl
among-push_other (a ∷ more) b q other =
    ap (λ (o : Option Entry). if has_place q a then Some a.entry else o) (among-push_other more b q other)

among-push_same : (xs : List Arrival) (b : Arrival) → entry_among xs b.place ≡ None → entry_among (xs ++ b ∷ []) b.place ≡ Some b.entry
among-push_same [] b none = rw (is_same b.place b.place refl) refl
among-push_same (a ∷ more) b none =
    let rest = absent a more b.place none in
    rw (is_other a.place b.place rest.0) (among-push_same more b rest.1)

pub distinct-push : (xs : List Arrival) (b : Arrival) → entry_among xs b.place ≡ None → is_distinct xs ≡ true → is_distinct (xs ++ b ∷ []) ≡ true
distinct-push [] b none distinct = refl
distinct-push (a ∷ more) b none distinct =
    let rest = absent a more b.place none in
    let parts = and_parts (is_none (entry_among more a.place)) (is_distinct more) distinct in
    rw (among-push_other more b a.place rest.0, parts.0, distinct-push more b rest.1 parts.1) refl

pub holds : (old new : Waiting) (place : ℕ) (entry : Entry) → new.held ≡ old.held ++ record { place = place; entry = entry } ∷ [] → new.limit ≡ old.limit → entry_at old place ≡ None → Holds old place entry new
holds old new place entry held limit none =
    let b : Arrival = record { place = place; entry = entry } in
    record {
      held = held;
      count = omega (arith, ap length held, length_push old.held b);
      limit = limit;
      there = ap (λ (l : List Arrival). entry_among l place) held ∙ among-push_same old.held b none;
      others = λ p other. ap (λ (l : List Arrival). entry_among l p) held ∙ among-push_other old.held b p other;
    }

-- ---- one less

without-absent : (xs : List Arrival) (p : ℕ) → entry_among xs p ≡ None → without_place p xs ≡ xs
without-absent [] p none = refl
without-absent (a ∷ more) p none =
    let rest = absent a more p none in
    rw (is_other a.place p rest.0) (ap (λ (l : List Arrival). a ∷ l) (without-absent more p rest.1))

among-without_same : (xs : List Arrival) (p : ℕ) → entry_among (without_place p xs) p ≡ None
among-without_same [] p = refl
among-without_same (a ∷ more) p = elim (cases_eq a.place p) [
  | inl same ↦ rw (is_same a.place p same) (among-without_same more p)
  | inr other ↦
      let test = is_other a.place p other in
      let kept : entry_among (a ∷ without_place p more) p ≡ None = rw test (among-without_same more p) in
      rw test kept
]

among-without_other : (xs : List Arrival) (p q : ℕ) → q ≢ p → entry_among (without_place p xs) q ≡ entry_among xs q
among-without_other [] p q apart = refl
among-without_other (a ∷ more) p q apart = elim (cases_eq a.place p) [
  | inl same ↦
      rw (is_same a.place p same, is_other a.place q (λ e. apart (sym e ∙ same))) (among-without_other more p q apart)
  | inr other ↦
      rw (is_other a.place p other) (ap (λ (o : Option Entry). if has_place q a then Some a.entry else o) (among-without_other more p q apart))
]

pub distinct-without : (xs : List Arrival) (p : ℕ) → is_distinct xs ≡ true → is_distinct (without_place p xs) ≡ true
distinct-without [] p distinct = refl
distinct-without (a ∷ more) p distinct =
    let parts = and_parts (is_none (entry_among more a.place)) (is_distinct more) distinct in
    elim (cases_eq a.place p) [
      | inl same ↦ rw (is_same a.place p same) (distinct-without more p parts.1)
      | inr other ↦
          let kept : is_distinct (a ∷ without_place p more) ≡ true =
          rw (among-without_other more p a.place other, parts.0, distinct-without more p parts.1) refl in
          rw (is_other a.place p other) kept
    ]

-- an arrival that is the first of its place
among-first : (xs : List Arrival) (i p : ℕ) (d : Arrival) → i < length xs → has_place p (get_or xs i d) ≡ true → ((k : ℕ) → k < i → has_place p (get_or xs k d) ≡ false) → entry_among xs p ≡ Some (get_or xs i d).entry
among-first [] i p d inside is before = absurd (omega arith)
among-first (a ∷ more) zero p d inside is before = rw is refl
among-first (a ∷ more) (suc i) p d inside is before =
    let test : has_place p a ≡ false = before 0 (omega arith) in
    rw test (among-first more i p d (omega arith) is (λ k low. before (suc k) (omega arith)))

pub remove-without : (xs : List Arrival) (i p : ℕ) (d : Arrival) → is_distinct xs ≡ true → i < length xs → has_place p (get_or xs i d) ≡ true → ((k : ℕ) → k < i → has_place p (get_or xs k d) ≡ false) → remove xs i ≡ without_place p xs
remove-without [] i p d distinct inside is before = absurd (omega arith)
remove-without (a ∷ more) zero p d distinct inside is before =
    let parts = and_parts (is_none (entry_among more a.place)) (is_distinct more) distinct in
    let none : entry_among more p ≡ None =
    ap (λ (q : ℕ). entry_among more q) (sym (same_of a.place p is)) ∙ none_of (entry_among more a.place) parts.0 in
    rw is (sym (without-absent more p none))
remove-without (a ∷ more) (suc i) p d distinct inside is before =
    let parts = and_parts (is_none (entry_among more a.place)) (is_distinct more) distinct in
    let test : has_place p a ≡ false = before 0 (omega arith) in
    rw test (ap (λ (l : List Arrival). a ∷ l) (remove-without more i p d parts.1 (omega arith) is (λ k low. before (suc k) (omega arith))))

-- no arrival has the place
fails : (xs : List Arrival) (p : ℕ) (d : Arrival) → position (has_place p) xs ≡ None → (k : ℕ) → k < length xs → has_place p (get_or xs k d) ≡ false
fails xs p d none k inside =
    let past : length xs ≤ position_or_len (has_place p) xs = grind (arith, common_steps) in
    fails_before_first (has_place p) xs k d (omega arith)

among-failing : (xs : List Arrival) (p : ℕ) (d : Arrival) → ((k : ℕ) → k < length xs → has_place p (get_or xs k d) ≡ false) → entry_among xs p ≡ None
among-failing [] p d none = refl
among-failing (a ∷ more) p d none =
    let test : has_place p a ≡ false = none 0 (omega arith) in
    rw test (among-failing more p d (λ k inside. none (suc k) (omega arith)))

pub among-none : (xs : List Arrival) (p : ℕ) → position (has_place p) xs ≡ None → entry_among xs p ≡ None
among-none [] p none = refl
among-none (a ∷ more) p none = among-failing (a ∷ more) p a (fails (a ∷ more) p a none)

-- an arrival has it
pub among-some : (xs : List Arrival) (i p : ℕ) (d : Arrival) → position (has_place p) xs ≡ Some i → entry_among xs p ≡ Some (get_or xs i d).entry
among-some xs i p d some =
    let first = position-Some (has_place p) xs i d some in
    among-first xs i p d first.0 first.1 first.2

-- whether the place is held, by where its arrival stands
held-position : (xs : List Arrival) (p : ℕ) (r : Option ℕ) → r ≡ position (has_place p) xs → is_some r ≡ is_some (entry_among xs p)
held-position xs p None e = rw (among-none xs p (sym e)) refl
held-position [] p (Some i) e = absurd (let none : Some i ≡ None = e in cc)
held-position (a ∷ more) p (Some i) e = rw (among-some (a ∷ more) i p a (sym e)) refl

pub is_held : (xs slice : List Arrival) (p : ℕ) (r : Option ℕ) (b : Bool) → slice ≡ xs → r ≡ position (has_place p) slice → b ≡ is_some r → b ≡ is_some (entry_among xs p)
is_held xs slice p r b same first test =
    test ∙ held-position xs p r (first ∙ ap (λ (l : List Arrival). position (has_place p) l) same)

none_unless : (o : Option Entry) → false ≡ is_some o → o ≡ None
none_unless None test = refl
none_unless (Some e) test = cc

pub not_held : (xs slice : List Arrival) (p : ℕ) (r : Option ℕ) → slice ≡ xs → r ≡ position (has_place p) slice → false ≡ is_some r → entry_among xs p ≡ None
not_held xs slice p r same first test = none_unless (entry_among xs p) (is_held xs slice p r false same first test)

pub absent_at : (xs slice : List Arrival) (p : ℕ) → slice ≡ xs → None ≡ position (has_place p) slice → entry_among xs p ≡ None
absent_at xs slice p same first = not_held xs slice p None same first refl

pub found_at : (xs slice : List Arrival) (p i : ℕ) → slice ≡ xs → Some i ≡ position (has_place p) slice → position (has_place p) xs ≡ Some i
found_at xs slice p i same first =
    sym (first ∙ ap (λ (l : List Arrival). position (has_place p) l) same)

pub gives_none : (old : Waiting) (place : ℕ) → entry_at old place ≡ None → Gives old place None old
gives_none old place none = record {
  answer = sym none;
  held = sym (without-absent old.held place none);
  count = omega arith;
  limit = refl;
  gone = none;
  others = λ p other. refl;
}

pub gives_some : (old new : Waiting) (place i : ℕ) (a : Arrival) → is_distinct old.held ≡ true → position (has_place place) old.held ≡ Some i → a ≡ get_or old.held i a → new.held ≡ remove old.held i → new.limit ≡ old.limit → Gives old place (Some a.entry) new
gives_some old new place i a distinct some is removed limit =
    let first = position-Some (has_place place) old.held i a some in
    let held = removed ∙ remove-without old.held i place a distinct first.0 first.1 first.2 in
    record {
      answer = ap (λ (b : Arrival). Some b.entry) is ∙ sym (among-some old.held i place a some);
      held = held;
      count = omega (arith, ap length removed, length-remove old.held i first.0);
      limit = limit;
      gone = ap (λ (l : List Arrival). entry_among l place) held ∙ among-without_same old.held place;
      others = λ p other. ap (λ (l : List Arrival). entry_among l p) held ∙ among-without_other old.held place p other;
    }

-- after a removal no place is held twice
pub distinct-remove : (xs : List Arrival) (i p : ℕ) (d : Arrival) → is_distinct xs ≡ true → position (has_place p) xs ≡ Some i → is_distinct (remove xs i) ≡ true
distinct-remove xs i p d distinct some =
    let first = position-Some (has_place p) xs i d some in
    rw (remove-without xs i p d distinct first.0 first.1 first.2) (distinct-without xs p distinct)
