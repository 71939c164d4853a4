-- Segments that are found one after another.
use Rattle.std.proofs.Common.{◌≡◌, ℕ, zero, suc, ◌+◌, ◌-◌, ◌<◌, ◌≤◌, Bool, true, false, ◌&&◌, cond, ltb, List, [], ◌∷◌, ◌++◌, refl, sym, ◌∙◌, ap, append-nil, arith}
use Rattle.std.specs.List.{filter, range_with_len}
use Rattle.std.proofs.lemmas.List.Elements.{filter-append}
use Rattle.std.proofs.lemmas.Bool.Decides.{nat_tests}

range-append : (a m n : ℕ) → range_with_len a (m + n) ≡ range_with_len a m ++ range_with_len (a + m) n
range-append a zero n = let z : 0 + n ≡ n = omega arith in let s : a + 0 ≡ a = omega arith in ap (λ (k : ℕ). range_with_len a k) z ∙ sym (ap (λ (k : ℕ). range_with_len k n) s)
range-append a (suc m) n =
    let one : suc m + n ≡ suc (m + n) = omega arith in
    let here : a + suc m ≡ a + 1 + m = omega arith in
    ap (λ (k : ℕ). range_with_len a k) one ∙ ap (λ (l : List ℕ). a ∷ l) (range-append (a + 1) m n) ∙ ap (λ (k : ℕ). a ∷ (range_with_len (a + 1) m ++ range_with_len k n)) (sym here)

filter_none : (p : ℕ → Bool) (a n : ℕ) → ((k : ℕ) → a ≤ k → k < a + n → p k ≡ false) → filter p (range_with_len a n) ≡ []
filter_none p a zero none = refl
filter_none p a (suc n) none =
    let first : p a ≡ false = none a (omega arith) (omega arith) in
    ap (λ (b : Bool). cond b (a ∷ filter p (range_with_len (a + 1) n)) (filter p (range_with_len (a + 1) n))) first ∙ filter_none p (a + 1) n (λ k low high. none k (omega (arith, low)) (omega (arith, high)))

-- none was found up to the end
pub found_all : (p : ℕ → Bool) (from segs : ℕ) → from ≤ segs → ((k : ℕ) → from ≤ k → k < segs → p k ≡ false) → filter p (range_with_len 0 from) ≡ filter p (range_with_len 0 segs)
found_all p from segs within none =
    let n : ℕ = segs - from in
    let whole : segs ≡ from + n = omega (arith, within) in
    let zero-from : 0 + from ≡ from = omega arith in
    let split : range_with_len 0 segs ≡ range_with_len 0 from ++ range_with_len from n = ap (λ (k : ℕ). range_with_len 0 k) whole ∙ range-append 0 from n ∙ ap (λ (k : ℕ). range_with_len 0 from ++ range_with_len k n) zero-from in
    let rest : filter p (range_with_len from n) ≡ [] = filter_none p from n (λ k low high. none k low (omega (arith, high, whole))) in
    sym (ap (λ (l : List ℕ). filter p l) split ∙ filter-append p (range_with_len 0 from) (range_with_len from n) ∙ ap (λ (l : List ℕ). filter p (range_with_len 0 from) ++ l) rest ∙ append-nil (filter p (range_with_len 0 from)))

one_kept : (p : ℕ → Bool) (seg : ℕ) → p seg ≡ true → filter p (range_with_len seg 1) ≡ seg ∷ []
one_kept p seg is = ap (λ (b : Bool). cond b (seg ∷ []) []) is

-- the next one was found
pub found_next : (p : ℕ → Bool) (from seg : ℕ) → from ≤ seg → p seg ≡ true → ((k : ℕ) → from ≤ k → k < seg → p k ≡ false) → filter p (range_with_len 0 from) ++ seg ∷ [] ≡ filter p (range_with_len 0 (seg + 1))
found_next p from seg low is none =
    let zero-seg : 0 + seg ≡ seg = omega arith in
    ap (λ (l : List ℕ). l ++ seg ∷ []) (found_all p from seg low none) ∙ sym (ap (λ (l : List ℕ). filter p l) (range-append 0 seg 1 ∙ ap (λ (k : ℕ). range_with_len 0 seg ++ range_with_len k 1) zero-seg) ∙ filter-append p (range_with_len 0 seg) (range_with_len seg 1) ∙ ap (λ (l : List ℕ). filter p (range_with_len 0 seg) ++ l) (one_kept p seg is))

both : (a b : Bool) → a ≡ true → b ≡ true → (a && b) ≡ true
both a b p q = rw (p, q) refl

off : (a b : Bool) → b ≡ false → (a && b) ≡ false
off true b is = is
off false b is = refl

-- the segments of a set, of which there are so many
module _ (set : ℕ → Bool) (segs from : ℕ) (l : List ℕ) (so : l ≡ filter (λ s. ltb s segs && set s) (range_with_len 0 from)) where
  pub found_more : (seg : ℕ) → from ≤ seg → seg < segs → set seg ≡ true → ((q : ℕ) → from ≤ q → q < seg → set q ≡ false) → l ++ seg ∷ [] ≡ filter (λ s. ltb s segs && set s) (range_with_len 0 (seg + 1))
  found_more seg low high is none =
      let within : ltb seg segs ≡ true = grind (arith, nat_tests) in
      ap (λ (k : List ℕ). k ++ seg ∷ []) so ∙ found_next (λ s. ltb s segs && set s) from seg low (both (ltb seg segs) (set seg) within is) (λ q above below. off (ltb q segs) (set q) (none q above below))

  pub found_end : from ≤ segs → ((q : ℕ) → from ≤ q → q < segs → set q ≡ false) → l ≡ filter (λ s. ltb s segs && set s) (range_with_len 0 segs)
  found_end within none = so ∙ found_all (λ s. ltb s segs && set s) from segs within (λ q above below. off (ltb q segs) (set q) (none q above below))
