-- Keys of a set, in the order in which they came.
use Rattle.std.proofs.Common.{◌≡◌, ◌+◌, ◌≤◌, Bool, false, not, cond, nat_lt, ◌||◌, None, Some, List, [], ◌∷◌, ◌++◌, length, map, refl, ◌∙◌, ap, inl, inr, arith}
use Rattle.std.specs.List.{list_any, position, position_or_len}
use Rattle.std.proofs.lemmas.Bool.{cases_Bool, cond-true, cond-false, not_from_true, not_from_false}
use Rattle.std.proofs.lemmas.List.{length-map}
use Rattle.indexmap.specs.IndexSet.{insert_key}
use Rattle.avs_model.proofs.Volumes.{position_none, position_or_len-map}

-- no element passes where the first that does is behind them all
list_any-past : {X : Type 0} (p : X → Bool) (xs : List X) → length xs ≤ position_or_len p xs → list_any p xs ≡ false
list_any-past p [] past = refl
list_any-past p (x ∷ xs) past = elim (cases_Bool (p x)) [
  | inl is ↦ absurd (omega (arith, cond-false (not (p x)) (1 + position_or_len p xs) 0 (not_from_true (p x) is)))
  | inr none ↦
      ap (λ b. b || list_any p xs) none
      ∙ list_any-past p xs (omega (arith, cond-true (not (p x)) (1 + position_or_len p xs) 0 (not_from_false (p x) none)))
]

-- nor where there is no position
pub list_any-none : {X : Type 0} (p : X → Bool) (xs : List X) → position p xs ≡ None → list_any p xs ≡ false
list_any-none p xs none = list_any-past p xs (position_none p xs none)

-- a new key goes behind the others
pub insert_key-new : {K : Type 0} (eq : K → K → Bool) (keys : List K) (key : K) → position (eq key) keys ≡ None → insert_key eq keys key ≡ keys ++ key ∷ []
insert_key-new eq keys key none = cond-false (list_any (eq key) keys) keys (keys ++ key ∷ []) (list_any-none (eq key) keys none)

-- the place of what a test passes among what f makes of the keys
pub position-map : {K Y : Type 0} (f : K → Y) (p : Y → Bool) (keys : List K) → position p (map f keys) ≡ position (λ k. p (f k)) keys
position-map f p keys = λ i. cond (nat_lt (position_or_len-map f p keys i) (length-map keys f i)) (Some (position_or_len-map f p keys i)) None
