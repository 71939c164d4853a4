-- How many of the first numbers pass a test.
use Rattle.std.proofs.Common.{◌≡◌, ◌≢◌, inl, inr, ℕ, zero, suc, ◌+◌, ◌<◌, ◌≤◌, Bool, true, false, cond, List, [], ◌∷◌, length, filter, refl, sym, ◌∙◌, ap, subst, arith}
use Rattle.std.proofs.lemmas.Bool.{cases_eq}
use Rattle.std.specs.List.{range_with_len}

one_more : (b : Bool) (x : ℕ) (l : List ℕ) → length (cond b (x ∷ l) l) ≡ cond b 1 0 + length l
one_more true x l = omega arith
one_more false x l = omega arith

count_from : (p : ℕ → Bool) (a n : ℕ) → length (filter p (range_with_len a (suc n))) ≡ length (filter p (range_with_len a n)) + cond (p (a + n)) 1 0
count_from p a zero =
    let here : a ≡ a + 0 = omega arith in
    one_more (p a) a [] ∙ ap (λ (k : ℕ). cond (p k) 1 0 + 0) here ∙ omega arith
count_from p a (suc n) =
    let here : a + 1 + n ≡ a + suc n = omega arith in
    let rest = count_from p (a + 1) n ∙ ap (λ (k : ℕ). length (filter p (range_with_len (a + 1) n)) + cond (p k) 1 0) here in
    let before = one_more (p a) a (filter p (range_with_len (a + 1) n)) in
    let after = one_more (p a) a (filter p (range_with_len (a + 1) (suc n))) in
    omega (arith, rest, before, after)

pub count_more : (p : ℕ → Bool) (n : ℕ) → length (filter p (range_with_len 0 (n + 1))) ≡ length (filter p (range_with_len 0 n)) + cond (p n) 1 0
count_more p n =
    let next : n + 1 ≡ suc n = omega arith in
    let here : 0 + n ≡ n = omega arith in
    ap (λ (k : ℕ). length (filter p (range_with_len 0 k))) next ∙ count_from p 0 n ∙ ap (λ (k : ℕ). length (filter p (range_with_len 0 n)) + cond (p k) 1 0) here

pub one_most : (b : Bool) → cond b 1 0 ≤ 1
one_most true = omega arith
one_most false = omega arith

pub count_most : (p : ℕ → Bool) (n : ℕ) → length (filter p (range_with_len 0 n)) ≤ n
count_most p zero = omega arith
count_most p (suc n) =
    let e : suc n ≡ n + 1 = omega arith in
    subst (λ (k : ℕ). length (filter p (range_with_len 0 k)) ≤ k) (sym e) (omega (arith, count_more p n, one_most (p n), count_most p n))

pub count_none : (p : ℕ → Bool) (n : ℕ) → ((k : ℕ) → k < n → p k ≡ false) → length (filter p (range_with_len 0 n)) ≡ 0
count_none p zero none = refl
count_none p (suc n) none =
    let e : suc n ≡ n + 1 = omega arith in
    let last : ◌≡◌ {A = ℕ} (cond (p n) 1 0) 0 = ap (λ (b : Bool). cond b 1 0) (none n (omega arith)) in
    subst (λ (k : ℕ). length (filter p (range_with_len 0 k)) ≡ 0) (sym e) (omega (arith, count_more p n, last, count_none p n (λ k lt. none k (omega (arith, lt)))))

pub count_some : (p : ℕ → Bool) (n k : ℕ) → k < n → p k ≡ true → 0 < length (filter p (range_with_len 0 n))
count_some p zero k lt is = absurd (omega (arith, lt))
count_some p (suc n) k lt is =
    let e : suc n ≡ n + 1 = omega arith in
    subst (λ (j : ℕ). 0 < length (filter p (range_with_len 0 j))) (sym e)
    (elim (cases_eq k n) [
      | inl last ↦
          let one : ◌≡◌ {A = ℕ} (cond (p n) 1 0) 1 = ap (λ (j : ℕ). cond (p j) 1 0) (sym last) ∙ ap (λ (b : Bool). cond b 1 0) is in
          omega (arith, count_more p n, one)
      | inr ne ↦
          let rest = count_some p n k (omega (arith, lt, ne)) is in
          omega (arith, count_more p n, rest)
    ])

pub count_same : (p q : ℕ → Bool) (n : ℕ) → ((k : ℕ) → k < n → q k ≡ p k) → length (filter q (range_with_len 0 n)) ≡ length (filter p (range_with_len 0 n))
count_same p q zero same = refl
count_same p q (suc n) same =
    let e : suc n ≡ n + 1 = omega arith in
    let last : ◌≡◌ {A = ℕ} (cond (q n) 1 0) (cond (p n) 1 0) = ap (λ (b : Bool). cond b 1 0) (same n (omega arith)) in
    subst (λ (k : ℕ). length (filter q (range_with_len 0 k)) ≡ length (filter p (range_with_len 0 k))) (sym e)
    (omega (arith, count_more p n, count_more q n, last, count_same p q n (λ k lt. same k (omega (arith, lt)))))

-- one of the numbers may pass it or not
pub count_set : (p q : ℕ → Bool) (n k : ℕ) → k < n → ((c : ℕ) → c < n → c ≢ k → q c ≡ p c)
    → length (filter q (range_with_len 0 n)) + cond (p k) 1 0 ≡ length (filter p (range_with_len 0 n)) + cond (q k) 1 0
count_set p q zero k lt others = absurd (omega (arith, lt))
count_set p q (suc n) k lt others =
    let e : suc n ≡ n + 1 = omega arith in
    subst (λ (j : ℕ). length (filter q (range_with_len 0 j)) + cond (p k) 1 0 ≡ length (filter p (range_with_len 0 j)) + cond (q k) 1 0) (sym e)
    (elim (cases_eq k n) [
      | inl is ↦
          let p_is : ◌≡◌ {A = ℕ} (cond (p n) 1 0) (cond (p k) 1 0) = ap (λ (j : ℕ). cond (p j) 1 0) (sym is) in
          let q_is : ◌≡◌ {A = ℕ} (cond (q n) 1 0) (cond (q k) 1 0) = ap (λ (j : ℕ). cond (q j) 1 0) (sym is) in
          let rest = count_same p q n (λ c low. others c (omega (arith, low)) (λ z. omega (arith, low, z, is))) in
          omega (arith, count_more p n, count_more q n, p_is, q_is, rest)
      | inr ne ↦
          let last : ◌≡◌ {A = ℕ} (cond (q n) 1 0) (cond (p n) 1 0) = ap (λ (b : Bool). cond b 1 0) (others n (omega arith) (λ z. ne (sym z))) in
          let rest = count_set p q n k (omega (arith, lt, ne)) (λ c low. others c (omega (arith, low))) in
          omega (arith, count_more p n, count_more q n, last, rest)
    ])
