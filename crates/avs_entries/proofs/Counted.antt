-- How counts of blocks add up, and how many of the first numbers pass a test.
use Rattle.std.proofs.Common.{◌≡◌, ◌≢◌, inl, inr, ℕ, zero, suc, ◌+◌, ◌≤◌, ◌<◌, Bool, true, false, cond, eqb, List, [], ◌∷◌, length, filter, refl, sym, ◌∙◌, ap, subst, arith}
use Rattle.std.proofs.lemmas.Bool.{cases_eq, eq-eqb}
use Rattle.std.proofs.lemmas.Bool.Decides.{eqb_tells}
use Rattle.std.specs.List.{range_with_len}
use Rattle.avs_dev.specs.Memory.{counted}
use Rattle.avs_dev.specs.Devices.{raised}

-- ---- counts of blocks

pub cond_is : {A : Type 0} (a b : ℕ) (x y : A) → a ≡ b → cond (eqb a b) x y ≡ x
cond_is a b x y is = ap (λ (t : Bool). cond t x y) (eq-eqb a b is)

pub cond_not : {A : Type 0} (a b : ℕ) (x y : A) → a ≢ b → cond (eqb a b) x y ≡ y
cond_not a b x y other = elim (eqb_tells a b) [
  | inl same ↦ absurd (other same.1)
  | inr apart ↦ ap (λ (t : Bool). cond t x y) apart.0
]

pub raised-none : (w k : ℕ) → k ≡ 0 → raised w k ≡ w
raised-none w k none = cond_is k 0 _ _ none

pub raised-some : (w k : ℕ) → 0 < k → raised w k ≡ counted w k
raised-some w k some = cond_not k 0 _ _ (omega arith)

pub raised-then : (w a b : ℕ) → raised (raised w a) b ≡ raised w (a + b)
raised-then w a b = elim (cases_eq b 0) [
  | inl none ↦ raised-none (raised w a) b none ∙ ap (λ (k : ℕ). raised w k) (let e : a ≡ a + b = omega arith in e)
  | inr some ↦ elim (cases_eq a 0) [
    | inl none ↦ ap (λ (v : ℕ). raised v b) (raised-none w a none) ∙ ap (λ (k : ℕ). raised w k) (let e : b ≡ a + b = omega arith in e)
    | inr more ↦
        raised-some (raised w a) b (omega arith)
        ∙ ap (λ (v : ℕ). counted v b) (raised-some w a (omega arith))
        ∙ (let e : counted (counted w a) b ≡ counted w (a + b) = omega arith in e)
        ∙ sym (raised-some w (a + b) (omega arith))
  ]
]

pub raised_most : (w k : ℕ) → raised w k ≤ w + k
raised_most w k = elim (cases_eq k 0) [
  | inl none ↦ subst (λ (v : ℕ). v ≤ w + k) (sym (raised-none w k none)) (omega arith)
  | inr some ↦ subst (λ (v : ℕ). v ≤ w + k) (sym (raised-some w k (omega arith))) (omega arith)
]

-- ---- how many pass a test

one_more : (b : Bool) (x : ℕ) (l : List ℕ) → length (cond b (x ∷ l) l) ≡ cond b 1 0 + length l
one_more true x l = omega arith
one_more false x l = omega arith

pub count_from : (p : ℕ → Bool) (a n : ℕ) → length (filter p (range_with_len a (suc n))) ≡ length (filter p (range_with_len a n)) + cond (p (a + n)) 1 0
count_from p a zero =
    let here : a ≡ a + 0 = omega arith in
    one_more (p a) a [] ∙ ap (λ (k : ℕ). cond (p k) 1 0 + 0) here ∙ omega arith
count_from p a (suc n) =
    let here : a + 1 + n ≡ a + suc n = omega arith in
    let rest = count_from p (a + 1) n ∙ ap (λ (k : ℕ). length (filter p (range_with_len (a + 1) n)) + cond (p k) 1 0) here in
    let before = one_more (p a) a (filter p (range_with_len (a + 1) n)) in
    let after = one_more (p a) a (filter p (range_with_len (a + 1) (suc n))) in
    omega (arith, rest, before, after)

pub count_on : (p : ℕ → Bool) (a n : ℕ) → length (filter p (range_with_len a (n + 1))) ≡ length (filter p (range_with_len a n)) + cond (p (a + n)) 1 0
count_on p a n =
    let next : n + 1 ≡ suc n = omega arith in
    ap (λ (k : ℕ). length (filter p (range_with_len a k))) next ∙ count_from p a n

pub count_more : (p : ℕ → Bool) (n : ℕ) → length (filter p (range_with_len 0 (n + 1))) ≡ length (filter p (range_with_len 0 n)) + cond (p n) 1 0
count_more p n =
    let next : n + 1 ≡ suc n = omega arith in
    let here : 0 + n ≡ n = omega arith in
    ap (λ (k : ℕ). length (filter p (range_with_len 0 k))) next ∙ count_from p 0 n ∙ ap (λ (k : ℕ). length (filter p (range_with_len 0 n)) + cond (p k) 1 0) here

pub one_most : (b : Bool) → cond b 1 0 ≤ 1
one_most true = omega arith
one_most false = omega arith

-- fewer or as many where the test is passed at most, and none where it is passed by none
pub count_most : (p : ℕ → Bool) (n : ℕ) → length (filter p (range_with_len 0 n)) ≤ n
count_most p zero = omega arith
count_most p (suc n) =
    let e : suc n ≡ n + 1 = omega arith in
    subst (λ (k : ℕ). length (filter p (range_with_len 0 k)) ≤ k) (sym e) (omega (arith, count_more p n, one_most (p n), count_most p n))

pub count_none : (p : ℕ → Bool) (n : ℕ) → ((k : ℕ) → k < n → p k ≡ false) → length (filter p (range_with_len 0 n)) ≡ 0
count_none p zero none = refl
count_none p (suc n) none =
    let e : suc n ≡ n + 1 = omega arith in
    let last : ◌≡◌ {A = ℕ} (cond (p n) 1 0) 0 = ap (λ (b : Bool). cond b 1 0) (none n (omega arith)) in
    subst (λ (k : ℕ). length (filter p (range_with_len 0 k)) ≡ 0) (sym e) (omega (arith, count_more p n, last, count_none p n (λ k lt. none k (omega (arith, lt)))))

-- the numbers that pass one of two tests, of which none passes both
pub count_sum : (p q r : ℕ → Bool) (n : ℕ) → ((k : ℕ) → cond (r k) 1 0 ≡ cond (p k) 1 0 + cond (q k) 1 0) → length (filter r (range_with_len 0 n)) ≡ length (filter p (range_with_len 0 n)) + length (filter q (range_with_len 0 n))
count_sum p q r zero each = refl
count_sum p q r (suc n) each =
    let e : suc n ≡ n + 1 = omega arith in
    subst (λ (k : ℕ). length (filter r (range_with_len 0 k)) ≡ length (filter p (range_with_len 0 k)) + length (filter q (range_with_len 0 k))) (sym e)
    (omega (arith, count_more r n, count_more p n, count_more q n, each n, count_sum p q r n each))

pub count_some : (p : ℕ → Bool) (n k : ℕ) → k < n → p k ≡ true → 0 < length (filter p (range_with_len 0 n))
count_some p zero k lt is = absurd (omega (arith, lt))
count_some p (suc n) k lt is =
    let e : suc n ≡ n + 1 = omega arith in
    subst (λ (j : ℕ). 0 < length (filter p (range_with_len 0 j))) (sym e)
    (elim (cases_eq k n) [
      | inl last ↦
          let one : ◌≡◌ {A = ℕ} (cond (p n) 1 0) 1 = ap (λ (j : ℕ). cond (p j) 1 0) (sym last) ∙ ap (λ (b : Bool). cond b 1 0) is in
          omega (arith, count_more p n, one)
      | inr ne ↦
          let rest = count_some p n k (omega (arith, lt, ne)) is in
          omega (arith, count_more p n, rest)
    ])

-- two tests that tell the same, or the same but of one number
pub count_same : (p q : ℕ → Bool) (n : ℕ) → ((k : ℕ) → k < n → q k ≡ p k) → length (filter q (range_with_len 0 n)) ≡ length (filter p (range_with_len 0 n))
count_same p q zero same = refl
count_same p q (suc n) same =
    let e : suc n ≡ n + 1 = omega arith in
    let last : ◌≡◌ {A = ℕ} (cond (q n) 1 0) (cond (p n) 1 0) = ap (λ (b : Bool). cond b 1 0) (same n (omega arith)) in
    subst (λ (k : ℕ). length (filter q (range_with_len 0 k)) ≡ length (filter p (range_with_len 0 k))) (sym e)
    (omega (arith, count_more p n, count_more q n, last, count_same p q n (λ k lt. same k (omega (arith, lt)))))

pub count_set : (p q : ℕ → Bool) (n k : ℕ) → k < n → ((c : ℕ) → c < n → c ≢ k → q c ≡ p c)
    → length (filter q (range_with_len 0 n)) + cond (p k) 1 0 ≡ length (filter p (range_with_len 0 n)) + cond (q k) 1 0
count_set p q zero k lt others = absurd (omega (arith, lt))
count_set p q (suc n) k lt others =
    let e : suc n ≡ n + 1 = omega arith in
    subst (λ (j : ℕ). length (filter q (range_with_len 0 j)) + cond (p k) 1 0 ≡ length (filter p (range_with_len 0 j)) + cond (q k) 1 0) (sym e)
    (elim (cases_eq k n) [
      | inl is ↦
          let p_is : ◌≡◌ {A = ℕ} (cond (p n) 1 0) (cond (p k) 1 0) = ap (λ (j : ℕ). cond (p j) 1 0) (sym is) in
          let q_is : ◌≡◌ {A = ℕ} (cond (q n) 1 0) (cond (q k) 1 0) = ap (λ (j : ℕ). cond (q j) 1 0) (sym is) in
          let rest = count_same p q n (λ c low. others c (omega (arith, low)) (λ z. omega (arith, low, z, is))) in
          omega (arith, count_more p n, count_more q n, p_is, q_is, rest)
      | inr ne ↦
          let last : ◌≡◌ {A = ℕ} (cond (q n) 1 0) (cond (p n) 1 0) = ap (λ (b : Bool). cond b 1 0) (others n (omega arith) (λ z. ne (sym z))) in
          let rest = count_set p q n k (omega (arith, lt, ne)) (λ c low. others c (omega (arith, low))) in
          omega (arith, count_more p n, count_more q n, last, rest)
    ])
