-- Numbers, a digit at a time.
use Rattle.std.proofs.Common.{◌≡◌, ℕ, ◌+◌, ◌*◌, ◌-◌, ◌≤◌, ◌<◌, ◌^◌, true, false, cond, ltb, ◌&&◌, Some, None, List, [], ◌∷◌, length, get_or, drop, sym, ◌∙◌, ap, inl, inr, arith}
use Rattle.std.proofs.lemmas.Bool.{cases_Bool, cond-true, cond-false, le-ltb, lt-ltb, and_right, and_from, ltb-false}
use Rattle.std.proofs.lemmas.List.{drop_more}
use Rattle.avs_model.specs.Words.{is_numeral, number, value_behind}

-- a number only grows
value_behind-le : (n : ℕ) (digits : List ℕ) → n ≤ value_behind n digits
value_behind-le n [] = omega arith
value_behind-le n (d ∷ digits) = omega (arith, value_behind-le (10 * n + (d - 48)) digits)

-- the number of the first digits is too large already
number-over : (word : List ℕ) (n : ℕ) (digits : List ℕ) → value_behind n digits ≡ value_behind 0 word → 2 ^ 32 ≤ n → number word ≡ None
number-over word n digits is large =
    let value = value_behind 0 word in
    let over : ltb value (2 ^ 32) ≡ false = le-ltb value (2 ^ 32) (omega (arith, is, value_behind-le n digits)) in
    cond-false (is_numeral word && ltb value (2 ^ 32)) (Some value) None (and_right (is_numeral word) (ltb value (2 ^ 32)) over)

-- all digits are read
pub number-all : (word : List ℕ) (n : ℕ) → n ≡ value_behind 0 word → n < 2 ^ 32 → is_numeral word ≡ true → number word ≡ Some n
number-all word n is fits numeral =
    let value = value_behind 0 word in
    cond-true (is_numeral word && ltb value (2 ^ 32)) (Some value) None
    (and_from (is_numeral word) (ltb value (2 ^ 32)) numeral (lt-ltb value (2 ^ 32) (omega arith)))
    ∙ ap Some (sym is)

-- the number n does not fit
too_large : (n : ℕ) → None ≡ cond (ltb n (2 ^ 32)) (Some n) None → 2 ^ 32 ≤ n
too_large n is = elim (cases_Bool (ltb n (2 ^ 32))) [
  | inl fits ↦ let e : None ≡ Some n = is ∙ cond-true (ltb n (2 ^ 32)) (Some n) None fits in absurd (cc)
  | inr over ↦ ltb-false n (2 ^ 32) over
]

-- the digit at place i makes it too large
pub number-at : (word : List ℕ) (i n d : ℕ) → i < length word → d ≡ get_or word i 0 → value_behind n (drop i word) ≡ value_behind 0 word
    → None ≡ cond (ltb (10 * n + (d - 48)) (2 ^ 32)) (Some (10 * n + (d - 48))) None → number word ≡ None
number-at word i n d inside is value none =
    let rest : drop i word ≡ d ∷ drop (i + 1) word = drop_more word i 0 inside ∙ ap (λ b. b ∷ drop (i + 1) word) (sym is) in
    number-over word (10 * n + (d - 48)) (drop (i + 1) word) (sym (ap (value_behind n) rest) ∙ value) (too_large (10 * n + (d - 48)) none)
