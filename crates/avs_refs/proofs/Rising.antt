-- Lists of numbers that rise, and what is among them.
use Rattle.std.proofs.Common.{◌≡◌, inl, inr, ℕ, suc, ◌+◌, ◌-◌, ◌<◌, ◌≤◌, Bool, true, false, not, ◌&&◌, ◌||◌, eqb, ltb, List, [], ◌∷◌, ◌++◌, length, get_or, ap, subst, sym, refl, ◌∙◌, arith}
use Rattle.std.specs.List.{filter, All}
use Rattle.std.specs.List.Sorted.{IsStrictlyIncreasing}
use Rattle.std.proofs.Math.Bool.{or-false}
use Rattle.std.proofs.lemmas.Bool.{cases_lt, ltb-true, eqb-true, eq-eqb, or_cases, or_left, le-ltb, lt-ltb, false_from_ne_true, false≢true}
use Rattle.std.proofs.lemmas.List.{length_push, get_or_append_left, get_or_push}
use Rattle.std.proofs.lemmas.List.Elements.{All-nil, All-cons, All-head, All-tail, All-weaker}
use Rattle.std.proofs.lemmas.List.Folds.{list_any-append}
use Rattle.std.proofs.lemmas.List.Kept.{AllPairs-from_increasing}
use Rattle.std.proofs.lemmas.Map.Views.{any-filter_same}
use Rattle.avs_refs.specs.Places.{is_among}
use Rattle.avs_refs.specs.Touches.{is_behind}

-- ---- lists that rise

pub rising_tail : (x : ℕ) (xs : List ℕ) → IsStrictlyIncreasing (x ∷ xs) → IsStrictlyIncreasing xs
rising_tail x xs rising k inside =
    let next : suc k + 1 ≡ suc (k + 1) = omega arith in
    omega (arith, rising (suc k) (omega arith), ap (λ (i : ℕ). get_or {A = ℕ} (x ∷ xs) i 0) next)

pub above_head : (x : ℕ) (xs : List ℕ) → IsStrictlyIncreasing (x ∷ xs) → All (λ p. x < p) xs
above_head x xs rising k d inside = AllPairs-from_increasing (x ∷ xs) rising 0 (suc k) d (omega arith) (omega arith)

pub rising_push : (xs : List ℕ) (y : ℕ) → IsStrictlyIncreasing xs → All (λ p. p < y) xs → IsStrictlyIncreasing (xs ++ y ∷ [])
rising_push xs y rising below k inside =
    let len = length_push xs y in
    let here = get_or_append_left xs (y ∷ []) 0 k (omega arith) in
    elim (cases_lt (k + 1) (length xs)) [
      | inl within ↦ omega (arith, here, get_or_append_left xs (y ∷ []) 0 (k + 1) within, rising k within)
      | inr last ↦ omega (arith, here, get_or_push xs y 0 (k + 1) (omega arith), below k 0 (omega arith))
    ]

-- numbers that rise above one number up to another are at most as many as lie between
pub length_rising : (xs : List ℕ) (low high : ℕ) → IsStrictlyIncreasing xs → All (λ p. low < p) xs → All (λ p. p ≤ high) xs → length xs ≤ high - low
length_rising [] low high rising above below = omega arith
length_rising (x ∷ xs) low high rising above below =
    let rest = length_rising xs x high (rising_tail x xs rising) (above_head x xs rising) (All-tail (λ p. p ≤ high) x xs below) in
    omega (arith, All-head (λ p. low < p) x xs above, All-head (λ p. p ≤ high) x xs below)

-- ---- what is among them

pub among_all : (P : ℕ → Type 0) (xs : List ℕ) (n : ℕ) → All P xs → is_among xs n ≡ true → P n
among_all P [] n all among = absurd (false≢true among)
among_all P (x ∷ xs) n all among = elim (or_cases (eqb x n) (is_among xs n) among) [
  | inl here ↦ subst P (eqb-true x n here) (All-head P x xs all)
  | inr there ↦ among_all P xs n (All-tail P x xs all) there
]

pub is_among-filter : (xs : List ℕ) (upto n : ℕ) → is_among (filter (λ p. ltb upto p) xs) n ≡ (ltb upto n && is_among xs n)
is_among-filter xs upto n = any-filter_same (λ p. eqb p n) (λ p. ltb upto p) (ltb upto n) (λ k is. ap (λ (p : ℕ). ltb upto p) (eqb-true k n is)) xs

-- one more number
pub among_more : (xs : List ℕ) (x n : ℕ) → is_among (xs ++ x ∷ []) n ≡ (is_among xs n || eqb x n)
among_more xs x n =
    list_any-append (λ p. eqb p n) xs (x ∷ []) ∙ ap (λ (b : Bool). is_among xs n || b) (or-false (eqb x n))

pub among_head : (x : ℕ) (xs : List ℕ) → is_among (x ∷ xs) x ≡ true
among_head x xs = or_left (eqb x x) (is_among xs x) (eq-eqb x x refl)

-- a number that is one of the rising ones where it is not below one of them, is none of them exactly where it is below the first
pub is_behind_is : (xs : List ℕ) (n : ℕ) → IsStrictlyIncreasing xs → ((p : ℕ) → is_among xs p ≡ true → p ≤ n → is_among xs n ≡ true) → is_behind xs n ≡ not (is_among xs n)
is_behind_is [] n rising own = refl
is_behind_is (x ∷ xs) n rising own = elim (cases_lt n x) [
  | inl below ↦
      let all = All-cons (λ p. x ≤ p) x xs (omega arith) (All-weaker (λ p. x < p) (λ p. x ≤ p) (λ p h. omega arith) xs (above_head x xs rising)) in
      let none : is_among (x ∷ xs) n ≡ false = false_from_ne_true (is_among (x ∷ xs) n) (λ is. let low = among_all (λ p. x ≤ p) (x ∷ xs) n all is in omega arith) in
      lt-ltb n x below ∙ sym (ap not none)
  | inr from ↦ le-ltb n x from ∙ sym (ap not (own x (among_head x xs) from))
]

pub all_above : (xs : List ℕ) (n : ℕ) → IsStrictlyIncreasing xs → is_behind xs n ≡ true → All (λ p. n < p) xs
all_above [] n rising behind = All-nil (λ p. n < p)
all_above (x ∷ xs) n rising behind =
    let first = ltb-true n x behind in
    All-cons (λ p. n < p) x xs first (All-weaker (λ p. x < p) (λ p. n < p) (λ p h. omega arith) xs (above_head x xs rising))
