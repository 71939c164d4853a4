-- Room on a stack of segments, and a part of a list that is filled.
use Rattle.std.proofs.Common.{◌≡◌, inl, inr, ℕ, ◌+◌, ◌-◌, ◌<◌, ◌≤◌, Bool, true, false, cond, List, ◌++◌, length, get_or, set, take, drop, replicate, ap, sym, ◌∙◌, arith}
use Rattle.std.specs.List.{count_by, slice_index}
use Rattle.std.proofs.lemmas.Bool.{cases_lt, cond-true, cond-false}
use Rattle.std.proofs.lemmas.Bool.Decides.{nat_tests}
use Rattle.std.proofs.lemmas.List.{length-set, length-replicate, length-take-le, get_or_append_left, get_or-append_right, get_or-replicate, get_or-drop, get_or-take}
use Rattle.std.proofs.lemmas.List.Sums.{sum_by-set, count_by-le-length}
use Rattle.avs_seg.specs.Image.{is_inside}
use borrow.Rule.Slice.PartMut.{put_mid}

-- where one element is not true, not all are
pub count_by-below : (has : List Bool) (i : ℕ) → i < length has → get_or has i false ≡ false → count_by (λ b. b) has < length has
count_by-below has i inside unset =
    let one = sum_by-set (λ (b : Bool). cond {A = ℕ} b 1 0) has i true false inside in
    let none = ap (λ (b : Bool). cond {A = ℕ} b 1 0) unset in
    omega (arith, count_by-le-length (λ b. b) (set has i true), length-set has i true)

-- an element of a list of which `count` elements from `first` on are x now
pub slice_index-put_mid : (xs : List ℕ) (first count x i : ℕ) → first + count ≤ length xs → slice_index (put_mid first count xs (replicate count x)) i ≡ cond (is_inside first count i) x (slice_index xs i)
slice_index-put_mid xs first count x i inside = elim (cases_lt i first) [
  | inl below ↦
      let out : is_inside first count i ≡ false = grind (arith, nat_tests) in
      get_or_append_left (take first xs) (replicate count x ++ rest) 0 i (omega (arith, front))
      ∙ get_or-take first xs i 0 below
      ∙ sym (cond-false (is_inside first count i) x (slice_index xs i) out)
  | inr from ↦ elim (cases_lt i (first + count)) [
    | inl within ↦
        let here : is_inside first count i ≡ true = grind (arith, nat_tests) in
        get_or-append_right (take first xs) (replicate count x ++ rest) first i 0 front from
        ∙ get_or_append_left (replicate count x) rest 0 (i - first) (omega (arith, length-replicate count x))
        ∙ get_or-replicate count (i - first) x 0 (omega arith)
        ∙ sym (cond-true (is_inside first count i) x (slice_index xs i) here)
    | inr past ↦
        let out : is_inside first count i ≡ false = grind (arith, nat_tests) in
        let at : first + (count + (i - first - count)) ≡ i = omega arith in
        get_or-append_right (take first xs) (replicate count x ++ rest) first i 0 front from
        ∙ get_or-append_right (replicate count x) rest count (i - first) 0 (length-replicate count x) (omega arith)
        ∙ get_or-drop count (drop first xs) (i - first - count) 0
        ∙ get_or-drop first xs (count + (i - first - count)) 0
        ∙ ap (λ (k : ℕ). slice_index xs k) at
        ∙ sym (cond-false (is_inside first count i) x (slice_index xs i) out)
  ]
]
  where
    rest : List ℕ
    rest = drop count (drop first xs)

    front : length (take first xs) ≡ first
    front = length-take-le first xs (omega arith)
