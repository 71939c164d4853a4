-- Sums over chunks.
use Rattle.std.proofs.Common.{◌≡◌, ℕ, zero, suc, ◌+◌, ◌-◌, ◌≤◌, ◌∙◌, ap, arith}
use Rattle.avs_chunks.specs.States.{sum_from}

pub sum_none : (f : ℕ → ℕ) (a : ℕ) → sum_from f a (a - a) ≡ 0
sum_none f a =
    let e : a - a ≡ 0 = omega arith in
    ap (λ (n : ℕ). sum_from f a n) e

pub sum_more : (f : ℕ → ℕ) (a b : ℕ) → a ≤ b → sum_from f a (b + 1 - a) ≡ sum_from f a (b - a) + f b
sum_more f a b le =
    let e : b + 1 - a ≡ suc (b - a) = omega arith in
    let at : a + (b - a) ≡ b = omega arith in
    ap (λ (n : ℕ). sum_from f a n) e ∙ ap (λ (k : ℕ). sum_from f a (b - a) + f k) at

pub sum_one : (f : ℕ → ℕ) (a : ℕ) → sum_from f a (a + 1 - a) ≡ f a
sum_one f a = sum_more f a a (omega arith) ∙ ap (λ (n : ℕ). n + f a) (sum_none f a) ∙ omega arith

sum_grows : (f : ℕ → ℕ) (a n k : ℕ) → sum_from f a n ≤ sum_from f a (k + n)
sum_grows f a n zero = let e : 0 + n ≡ n = omega arith in rw e (omega arith)
sum_grows f a n (suc k) =
    let e : suc k + n ≡ suc (k + n) = omega arith in
    rw e (omega (arith, sum_grows f a n k))

pub sum_less : (f : ℕ → ℕ) (a b e : ℕ) → a ≤ b → b ≤ e → sum_from f a (b - a) ≤ sum_from f a (e - a)
sum_less f a b e low high =
    let k : (e - b) + (b - a) ≡ e - a = omega arith in
    rw (← k) (sum_grows f a (b - a) (e - b))
