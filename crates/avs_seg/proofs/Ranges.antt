-- The blocks of a range, also after a write.
use Rattle.std.proofs.Common.{◌≡◌, ◌⊎◌, inl, inr, ℕ, ◌+◌, ◌-◌, ◌<◌, ◌≤◌, [], ◌∷◌, ◌++◌, length, set, take, drop, ◌∙◌, sym, ap, arith}
use Rattle.std.specs.List.{between}
use Rattle.std.proofs.lemmas.Bool.{cases_lt}
use Rattle.std.proofs.lemmas.List.{length-set, get_or-set_other, length-take, length-drop, length-append, get_or-take, get_or-drop, get_or_append_left, get_or-append_right}
use Rattle.std.proofs.lemmas.Grind.{get_or-set_at}
use Rattle.avs_seg.specs.Image.{Block, Image, block_at, put, range}
use Rattle.avs_seg.proofs.Blocks.{length-tabulate, block_at-tabulate, same_images, same_place}
use Rattle.avs_seg.proofs.Puts.{length-put, put_inside, put_below, put_above, put_one, put_outside}

pub length-range : (img : Image) (at n : ℕ) → length (range img at n) ≡ n
unfolding range
length-range img at n = length-tabulate _ _

pub block_at-range : (img : Image) (at n i : ℕ) → i < n → block_at (range img at n) i ≡ block_at img (at + i)
unfolding range
block_at-range img at n i lt = block_at-tabulate _ _ i lt

-- the range of all blocks
pub range_all : (img : Image) (n : ℕ) → n ≡ length img → range img 0 n ≡ img
range_all img n is = same_images _ _ (length-range img 0 n ∙ is) (λ i lt. block_at-range img 0 n i (omega (arith, lt, length-range img 0 n)) ∙ same_place img (0 + i) i (omega arith))

-- the range of one block
pub range_one : (img : Image) (at : ℕ) → range img at 1 ≡ block_at img at ∷ []
range_one img at = same_images _ _ (length-range img at 1) (λ i lt. each i (omega (arith, lt, length-range img at 1)))
  where
    each : (i : ℕ) → i < 1 → block_at (range img at 1) i ≡ block_at (block_at img at ∷ []) i
    each i lt =
        let first : i ≡ 0 = omega arith in
        block_at-range img at 1 i lt ∙ same_place img (at + i) at (omega arith) ∙ sym (same_place (block_at img at ∷ []) i 0 first)

-- two ranges whose blocks are the same
pub same_ranges : (a b : Image) (at at' n : ℕ) → ((i : ℕ) → i < n → block_at a (at + i) ≡ block_at b (at' + i)) → range a at n ≡ range b at' n
same_ranges a b at at' n each = same_images _ _ (length-range a at n ∙ sym (length-range b at' n)) (λ i lt.
    let lt' : i < n = omega (arith, lt, length-range a at n) in
    block_at-range a at n i lt' ∙ each i lt' ∙ sym (block_at-range b at' n i lt'))

-- a range of a range
pub range-range : (img : Image) (at n from k : ℕ) → from + k ≤ n → range (range img at n) from k ≡ range img (at + from) k
range-range img at n from k part = same_ranges _ img from (at + from) k (λ i lt. block_at-range img at n (from + i) (omega arith) ∙ same_place img (at + (from + i)) (at + from + i) (omega arith))

-- two ranges, one behind the other
pub range-append : (img : Image) (at n k : ℕ) → range img at (n + k) ≡ range img at n ++ range img (at + n) k
range-append img at n k = same_images _ _ (length-range img at (n + k) ∙ sym size) (λ i lt. each i (omega (arith, lt, length-range img at (n + k))))
  where
    front : Image
    front = range img at n

    back : Image
    back = range img (at + n) k

    size : length (front ++ back) ≡ n + k
    size = omega (arith, length-append front back, length-range img at n, length-range img (at + n) k)

    each : (i : ℕ) → i < n + k → block_at (range img at (n + k)) i ≡ block_at (front ++ back) i
    each i lt = block_at-range img at (n + k) i lt ∙ elim (cases_lt i n) [
      | inl low ↦ sym (get_or_append_left front back [] i (omega (arith, length-range img at n)) ∙ block_at-range img at n i low)
      | inr high ↦ sym (get_or-append_right front back n i [] (length-range img at n) high ∙ block_at-range img (at + n) k (i - n) (omega arith) ∙ same_place img (at + n + (i - n)) (at + i) (omega arith))
    ]

-- what std's cut of a list gives
pub between-range : (img : Image) (at n e : ℕ) → e ≡ at + n → e ≤ length img → between at e img ≡ range img at n
between-range img at n e is fits = same_images _ _ (size ∙ sym (length-range img at n)) (λ i lt.
    let lt' : i < n = omega (arith, lt, size) in
    get_or-take (e - at) (drop at img) i [] (omega arith) ∙ get_or-drop at img i [] ∙ sym (block_at-range img at n i lt'))
  where
    size : length (take (e - at) (drop at img)) ≡ n
    size = simp (length-take, length-drop) (omega arith)

-- what was written is there
pub range-put : (img : Image) (at : ℕ) (bs : Image) → at + length bs ≤ length img → range (put img at bs) at (length bs) ≡ bs
range-put img at bs fits = same_images _ _ (length-range _ at (length bs)) (λ i lt.
    let lt' : i < length bs = omega (arith, lt, length-range (put img at bs) at (length bs)) in
    block_at-range _ at (length bs) i lt' ∙ put_inside img at bs (at + i) (omega arith) (omega arith) (omega arith) ∙ same_place bs (at + i - at) i (omega arith))

-- a range apart from what was written
pub range-put_apart : (img : Image) (at : ℕ) (bs : Image) (from k : ℕ) → (from + k ≤ at) ⊎ (at + length bs ≤ from) → range (put img at bs) from k ≡ range img from k
range-put_apart img at bs from k apart = same_ranges _ img from from k (λ i lt. put_outside img at bs (from + i) (elim apart [ inl before ↦ inl (omega arith) | inr behind ↦ inr (omega arith) ]))

-- a range in which all that was written lies
pub range-put_within : (img : Image) (from k at : ℕ) (bs : Image) → at + length bs ≤ k → from + k ≤ length img → range (put img (from + at) bs) from k ≡ put (range img from k) at bs
range-put_within img from k at bs part fits = same_images _ _ (length-range _ from k ∙ sym (length-range img from k) ∙ sym (length-put (range img from k) at bs)) (λ i below. each i (omega (arith, below, length-range (put img (from + at) bs) from k)))
  where
    each : (i : ℕ) → i < k → block_at (range (put img (from + at) bs) from k) i ≡ block_at (put (range img from k) at bs) i
    each i lt = block_at-range _ from k i lt ∙ elim (cases_lt i at) [
      | inl low ↦ put_below img _ bs _ (omega arith) ∙ sym (put_below (range img from k) at bs i low ∙ block_at-range img from k i lt)
      | inr high ↦ elim (cases_lt i (at + length bs)) [
        | inl within ↦ put_inside img _ bs _ (omega arith) (omega arith) (omega arith) ∙ same_place bs (from + i - (from + at)) (i - at) (omega arith) ∙ sym (put_inside (range img from k) at bs i high within (omega (arith, length-range img from k)))
        | inr above ↦ put_above img _ bs _ (omega arith) ∙ sym (put_above (range img from k) at bs i above ∙ block_at-range img from k i lt)
      ]
    ]

-- one block of a range is written
pub range-put_one : (img : Image) (from k at : ℕ) (b : Block) → at < k → from + k ≤ length img → range (put img (from + at) (b ∷ [])) from k ≡ set (range img from k) at b
range-put_one img from k at b lt fits = same_images _ _ (length-range _ from k ∙ sym (length-range img from k) ∙ sym (length-set _ at b)) (λ i below. each i (omega (arith, below, length-range (put img (from + at) (b ∷ [])) from k)))
  where
    each : (i : ℕ) → i < k → block_at (range (put img (from + at) (b ∷ [])) from k) i ≡ block_at (set (range img from k) at b) i
    each i below = block_at-range _ from k i below ∙ elim (cases_lt i at) [
      | inl low ↦ put_below img _ _ _ (omega arith) ∙ sym (block_at-range img from k i below) ∙ sym (get_or-set_other (range img from k) at i b [] (omega arith))
      | inr high ↦ elim (cases_lt at i) [
        | inl above ↦ put_above img _ _ _ (omega arith) ∙ sym (block_at-range img from k i below) ∙ sym (get_or-set_other (range img from k) at i b [] (omega arith))
        | inr le ↦ put_one img (from + at) b (from + i) (omega arith) (omega arith) ∙ sym (get_or-set_at (range img from k) at i b [] (omega arith) (omega (arith, length-range img from k)))
      ]
    ]

-- the image held old, of which bs differs in that part alone
pub range-put_part : (img old bs : Image) (at n lo k : ℕ) → range img at n ≡ old → length bs ≡ n → lo + k ≤ n → at + n ≤ length img → ((i : ℕ) → (i < lo) ⊎ (lo + k ≤ i) → block_at bs i ≡ block_at old i) → range (put img (at + lo) (range bs lo k)) at n ≡ bs
range-put_part img old bs at n lo k held len part fits same = same_images _ _ (length-range new at n ∙ sym len) (λ i below. each i (omega (arith, below, length-range new at n)))
  where
    new : Image
    new = put img (at + lo) (range bs lo k)

    was : (i : ℕ) → i < n → (i < lo) ⊎ (lo + k ≤ i) → block_at img (at + i) ≡ block_at bs i
    was i lt apart = sym (block_at-range img at n i lt) ∙ ap (λ (l : Image). block_at l i) held ∙ sym (same i apart)

    each : (i : ℕ) → i < n → block_at (range new at n) i ≡ block_at bs i
    each i lt = block_at-range new at n i lt ∙ elim (cases_lt i lo) [
      | inl low ↦ put_below img _ _ _ (omega arith) ∙ was i lt (inl low)
      | inr le ↦ elim (cases_lt i (lo + k)) [
        | inr past ↦ put_above img _ _ _ (omega (arith, length-range bs lo k)) ∙ was i lt (inr past)
        | inl within ↦
            put_inside img (at + lo) (range bs lo k) (at + i) (omega arith) (omega (arith, length-range bs lo k)) (omega arith)
            ∙ block_at-range bs lo k (at + i - (at + lo)) (omega arith) ∙ same_place bs (lo + (at + i - (at + lo))) i (omega arith)
      ]
    ]

-- a range of the image written back to its place
pub put-range_same : (img : Image) (at n : ℕ) → at + n ≤ length img → put img at (range img at n) ≡ img
put-range_same img at n fits = same_images _ _ (length-put img at (range img at n)) (λ i lt. elim (cases_lt i at) [
  | inl low ↦ put_below img at _ i low
  | inr high ↦ elim (cases_lt i (at + n)) [
    | inl within ↦ put_inside img at _ i high (omega (arith, length-range img at n)) (omega (arith, lt, length-put img at (range img at n))) ∙ block_at-range img at n (i - at) (omega arith) ∙ same_place img (at + (i - at)) i (omega arith)
    | inr above ↦ put_above img at _ i (omega (arith, length-range img at n))
  ]
])

-- a block of the first i that were written
pub put_first_inside : (img bs : Image) (at i j : ℕ) → at ≤ j → j < at + i → j < length img → block_at (put img at (range bs 0 i)) j ≡ block_at bs (j - at)
put_first_inside img bs at i j low high lt =
    put_inside img at (range bs 0 i) j low (omega (arith, length-range bs 0 i)) lt
    ∙ block_at-range bs 0 i (j - at) (omega arith) ∙ same_place bs (0 + (j - at)) (j - at) (omega arith)

-- the first i blocks, and then n more
pub put_more : (img bs : Image) (at i n : ℕ) → put (put img at (range bs 0 i)) (at + i) (range bs i n) ≡ put img at (range bs 0 (i + n))
put_more img bs at i n = same_images _ _ (length-put first (at + i) (range bs i n) ∙ length-put img at (range bs 0 i) ∙ sym (length-put img at (range bs 0 (i + n)))) (λ j below. each j (omega (arith, below, length-put first (at + i) (range bs i n), length-put img at (range bs 0 i))))
  where
    first : Image
    first = put img at (range bs 0 i)

    each : (j : ℕ) → j < length img → block_at (put first (at + i) (range bs i n)) j ≡ block_at (put img at (range bs 0 (i + n))) j
    each j lt = elim (cases_lt j at) [
      | inl low ↦ put_below first _ _ j (omega arith) ∙ put_below img at _ j low ∙ sym (put_below img at _ j low)
      | inr le ↦ elim (cases_lt j (at + i)) [
        | inl old ↦ put_below first _ _ j old ∙ put_first_inside img bs at i j le old lt ∙ sym (put_first_inside img bs at (i + n) j le (omega arith) lt)
        | inr past ↦ elim (cases_lt j (at + i + n)) [
          | inl new ↦
              put_inside first (at + i) (range bs i n) j past (omega (arith, length-range bs i n)) (omega (arith, length-put img at (range bs 0 i)))
              ∙ block_at-range bs i n (j - (at + i)) (omega arith) ∙ same_place bs (i + (j - (at + i))) (j - at) (omega arith)
              ∙ sym (put_first_inside img bs at (i + n) j le (omega arith) lt)
          | inr above ↦
              put_above first (at + i) (range bs i n) j (omega (arith, length-range bs i n)) ∙ put_above img at (range bs 0 i) j (omega (arith, length-range bs 0 i))
              ∙ sym (put_above img at (range bs 0 (i + n)) j (omega (arith, length-range bs 0 (i + n))))
        ]
      ]
    ]
