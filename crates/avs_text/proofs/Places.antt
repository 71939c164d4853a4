-- The first place in a list that passes a test.
use Rattle.std.proofs.Common.{◌≡◌, ℕ, ◌<◌, ◌≤◌, Bool, List, length, sym, ◌∙◌, inl, inr}
use Rattle.std.proofs.lemmas.Bool.{cases_Bool, cond-true, cond-false, ltb-true, ltb-false}
use Rattle.std.specs.Prelude.{position, nat_lt, Option, Some, None}
use Rattle.std.specs.List.{position_or_len}

-- there is none
pub position-none : {X : Type 0} (p : X → Bool) (xs : List X) → position p xs ≡ None → length xs ≤ position_or_len p xs
position-none p xs none = elim (cases_Bool (nat_lt (position_or_len p xs) (length xs))) [
  | inl inside ↦
      let n = position_or_len p xs in
      let o : Option ℕ = None in
      let e : Some n ≡ o = sym (cond-true (nat_lt n (length xs)) (Some n) None inside) ∙ none in absurd (cc)
  | inr outside ↦ ltb-false (position_or_len p xs) (length xs) outside
]

-- there is one
pub position-some : {X : Type 0} (p : X → Bool) (xs : List X) (n : ℕ) → position p xs ≡ Some n → (n ≡ position_or_len p xs) × (n < length xs)
position-some p xs n some = elim (cases_Bool (nat_lt (position_or_len p xs) (length xs))) [
  | inl inside ↦
      let m = position_or_len p xs in
      let e : Some m ≡ Some n = sym (cond-true (nat_lt m (length xs)) (Some m) None inside) ∙ some in
      let same : n ≡ m = cc in
      let less : m < length xs = ltb-true m (length xs) inside in
      (same, rw same less)
  | inr outside ↦
      let m = position_or_len p xs in
      let o : Option ℕ = None in
      let e : o ≡ Some n = sym (cond-false (nat_lt m (length xs)) (Some m) None outside) ∙ some in absurd (cc)
]
