-- A torn write is a mix for some list of the blocks kept, and each such mix is a torn write.
use Rattle.std.proofs.Common.{◌≡◌, ◌⊎◌, inl, inr, ℕ, zero, suc, ◌+◌, ◌-◌, ◌<◌, ◌≤◌, min, Bool, true, false, cond, eqb, ◌||◌, ◌&&◌, List, [], ◌∷◌, length, ◌∙◌, sym, refl, ap, arith}
use Rattle.std.specs.List.{list_any, range_with_len}
use Rattle.std.proofs.lemmas.Bool.{cases_lt, ne_eqb, eq-eqb, cond-true, cond-false}
use Rattle.std.proofs.lemmas.Bool.Decides.{nat_tests}
use Rattle.avs_seg.specs.Image.{Block, Image, block_at, is_inside, put, mix, range, IsMix}
use Rattle.avs_seg.proofs.Blocks.{length-tabulate, block_at-tabulate, same_images, same_place, tabulate_same, block_at_past}
use Rattle.avs_seg.proofs.Puts.{length-put, put_inside, put_below, put_above, put_outside}
use Rattle.avs_seg.proofs.Ranges.{length-range, block_at-range}

-- whether block k of a write is in the list
abbrev pub is_kept : List ℕ → ℕ → Bool
is_kept kept i = list_any (λ k. eqb k i) kept

pub length-mix : (img : Image) (at : ℕ) (bs : Image) (kept : List ℕ) → length (mix img at bs kept) ≡ length img
unfolding mix
length-mix img at bs kept = length-tabulate _ _

outside_test : (at n i : ℕ) (c : Bool) (a b : Block) → (i < at) ⊎ (at + n ≤ i) → cond (is_inside at n i && c) a b ≡ b
outside_test at n i c a b (inl low) = grind (arith, nat_tests)
outside_test at n i c a b (inr high) = grind (arith, nat_tests)

inside_test : (at n i : ℕ) (c : Bool) (a b : Block) → at ≤ i → i < at + n → cond (is_inside at n i && c) a b ≡ cond c a b
inside_test at n i c a b low high = grind (arith, nat_tests)

pub mix_outside : (img : Image) (at : ℕ) (bs : Image) (kept : List ℕ) (i : ℕ) → (i < at) ⊎ (at + length bs ≤ i) → block_at (mix img at bs kept) i ≡ block_at img i
unfolding mix
mix_outside img at bs kept i apart = tabulate_same img _ i (λ _. outside_test at (length bs) i _ _ _ apart)

pub mix_inside : (img : Image) (at : ℕ) (bs : Image) (kept : List ℕ) (i : ℕ) → at ≤ i → i < at + length bs → i < length img → block_at (mix img at bs kept) i ≡ cond (is_kept kept (i - at)) (block_at bs (i - at)) (block_at img i)
unfolding mix
mix_inside img at bs kept i low high lt = block_at-tabulate _ _ i lt ∙ inside_test at (length bs) i _ _ _ low high

either_kept : (b : Bool) (new old x : Block) → x ≡ cond b new old → (x ≡ old) ⊎ (x ≡ new)
either_kept true new old x is = inr is
either_kept false new old x is = inl is

-- each mix is a torn write
pub IsMix-mix : (img : Image) (at : ℕ) (bs : Image) (kept : List ℕ) → IsMix img at bs (mix img at bs kept)
IsMix-mix img at bs kept = record {
  same_length = length-mix img at bs kept;
  outside = λ i apart. mix_outside img at bs kept i apart;
  inside = λ i low high. elim (cases_lt i (length img)) [
    | inl lt ↦ either_kept (is_kept kept (i - at)) _ _ _ (mix_inside img at bs kept i low high lt)
    | inr past ↦ inl (block_at_past (mix img at bs kept) i (omega (arith, length-mix img at bs kept)) ∙ sym (block_at_past img i past))
  ];
}

-- the list says of the first n blocks which were written, and of no others
record KeptBelow (img : Image) (at : ℕ) (bs new : Image) (n : ℕ) (kept : List ℕ) : Type 0 where
  below : (i : ℕ) → i < n → block_at new (at + i) ≡ cond (is_kept kept i) (block_at bs i) (block_at img (at + i))
  above : (i : ℕ) → n ≤ i → is_kept kept i ≡ false

-- a block that was not written leaves the list as it is
old_more : (img : Image) (at : ℕ) (bs new : Image) (n : ℕ) (kept : List ℕ) → KeptBelow img at bs new n kept → block_at new (at + n) ≡ block_at img (at + n) → KeptBelow img at bs new (suc n) kept
old_more img at bs new n kept k old = record {
  below = λ i lt. elim (cases_lt i n) [
    | inl less ↦ k.below i less
    | inr le ↦
        let is : n ≡ i = omega arith in
        ap (λ (j : ℕ). block_at new (at + j)) (sym is) ∙ old ∙ ap (λ (j : ℕ). block_at img (at + j)) is ∙ sym (cond-false (is_kept kept i) _ _ (k.above i le))
  ];
  above = λ i le. k.above i (omega arith);
}

-- one that was written comes to the list
new_more : (img : Image) (at : ℕ) (bs new : Image) (n : ℕ) (kept : List ℕ) → KeptBelow img at bs new n kept → block_at new (at + n) ≡ block_at bs n → KeptBelow img at bs new (suc n) (n ∷ kept)
new_more img at bs new n kept k done = record {
  below = λ i lt. elim (cases_lt i n) [
    | inl less ↦ k.below i less ∙ ap (λ (b : Bool). cond b (block_at bs i) (block_at img (at + i))) (sym (others i (omega arith)))
    | inr le ↦
        let is : n ≡ i = omega arith in
        ap (λ (j : ℕ). block_at new (at + j)) (sym is) ∙ done ∙ ap (λ (j : ℕ). block_at bs j) is ∙ sym (cond-true (is_kept (n ∷ kept) i) _ _ (ap (λ (b : Bool). b || is_kept kept i) (eq-eqb n i is)))
  ];
  above = λ i le. others i (omega arith) ∙ k.above i (omega arith);
}
  where
    others : (i : ℕ) → (n ≡ i → ⊥) → is_kept (n ∷ kept) i ≡ is_kept kept i
    others i apart = ap (λ (b : Bool). b || is_kept kept i) (ne_eqb n i apart)

kept_below : (img : Image) (at : ℕ) (bs new : Image) → IsMix img at bs new → (n : ℕ) → n ≤ length bs → (kept : List ℕ) × KeptBelow img at bs new n kept
kept_below img at bs new m zero le = ([], record { below = λ i lt. absurd (omega arith); above = λ i le. refl })
kept_below img at bs new m (suc n) le =
    let before = kept_below img at bs new m n (omega arith) in
    elim (m.inside (at + n) (omega arith) (omega arith)) [
      | inl old ↦ (before.0, old_more img at bs new n before.0 before.1 old)
      | inr done ↦ (n ∷ before.0, new_more img at bs new n before.0 before.1 (done ∙ same_place bs (at + n - at) n (omega arith)))
    ]

-- and each torn write is such a mix
pub mix-IsMix : (img : Image) (at : ℕ) (bs new : Image) → IsMix img at bs new → (kept : List ℕ) × (new ≡ mix img at bs kept)
mix-IsMix img at bs new m =
    let found = kept_below img at bs new m (length bs) (omega arith) in (
      found.0,
      same_images new (mix img at bs found.0) (m.same_length ∙ sym (length-mix img at bs found.0)) (λ i lt. elim (cases_lt i at) [
        | inl low ↦ m.outside i (inl low) ∙ sym (mix_outside img at bs found.0 i (inl low))
        | inr high ↦ elim (cases_lt i (at + length bs)) [
          | inl within ↦
              let lt' : i < length img = omega (arith, lt, m.same_length) in
              same_place new i (at + (i - at)) (omega arith) ∙ found.1.below (i - at) (omega arith)
              ∙ ap (λ (b : Block). cond (is_kept found.0 (i - at)) (block_at bs (i - at)) b) (same_place img (at + (i - at)) i (omega arith))
              ∙ sym (mix_inside img at bs found.0 i high within lt')
          | inr above ↦ m.outside i (inr above) ∙ sym (mix_outside img at bs found.0 i (inr above))
        ]
      ]),
    )

-- with nothing kept the image is the old one
pub mix_nothing : (img : Image) (at : ℕ) (bs : Image) → mix img at bs [] ≡ img
mix_nothing img at bs = same_images _ _ (length-mix img at bs []) (λ i lt. elim (cases_lt i at) [
  | inl low ↦ mix_outside img at bs [] i (inl low)
  | inr high ↦ elim (cases_lt i (at + length bs)) [
    | inl within ↦ mix_inside img at bs [] i high within (omega (arith, lt, length-mix img at bs []))
    | inr above ↦ mix_outside img at bs [] i (inr above)
  ]
])

-- with everything kept the write was whole
pub mix_everything : (img : Image) (at : ℕ) (bs : Image) (kept : List ℕ) → ((i : ℕ) → i < length bs → is_kept kept i ≡ true) → mix img at bs kept ≡ put img at bs
mix_everything img at bs kept every = same_images _ _ (length-mix img at bs kept ∙ sym (length-put img at bs)) (λ i lt. elim (cases_lt i at) [
  | inl low ↦ mix_outside img at bs kept i (inl low) ∙ sym (put_outside img at bs i (inl low))
  | inr high ↦ elim (cases_lt i (at + length bs)) [
    | inl within ↦
        let lt' : i < length img = omega (arith, lt, length-mix img at bs kept) in
        mix_inside img at bs kept i high within lt' ∙ cond-true (is_kept kept (i - at)) _ _ (every (i - at) (omega arith)) ∙ sym (put_inside img at bs i high within lt')
    | inr above ↦ mix_outside img at bs kept i (inr above) ∙ sym (put_outside img at bs i (inr above))
  ]
])

-- of a row of numbers, k is one of those between its ends
pub is_kept-range_with_len : (from count k : ℕ) → is_kept (range_with_len from count) k ≡ is_inside from count k
is_kept-range_with_len from zero k = grind (arith, nat_tests)
is_kept-range_with_len from (suc count) k = ap (λ (b : Bool). eqb from k || b) (is_kept-range_with_len (from + 1) count k) ∙ grind (arith, nat_tests)

-- with a row of blocks kept, those of them that the write has were put
pub mix-range_with_len : (img : Image) (at : ℕ) (bs : Image) (from count f n : ℕ) → f ≡ min from (length bs) → n ≡ min count (length bs - f) → mix img at bs (range_with_len from count) ≡ put img (at + f) (range bs f n)
mix-range_with_len img at bs from count f n f-is n-is = same_images _ _ (length-mix img at bs row ∙ sym (length-put img (at + f) (range bs f n))) (λ i lt. each i (omega (arith, lt, length-mix img at bs row)))
  where
    row : List ℕ
    row = range_with_len from count

    test : (k : ℕ) (a b : Block) → cond (is_kept row k) a b ≡ cond (is_inside from count k) a b
    test k a b = ap (λ (t : Bool). cond t a b) (is_kept-range_with_len from count k)

    not_kept : (k : ℕ) (a b : Block) → (k < from) ⊎ (from + count ≤ k) → cond (is_inside from count k) a b ≡ b
    not_kept k a b (inl low) = grind (arith, nat_tests)
    not_kept k a b (inr high) = grind (arith, nat_tests)

    kept : (k : ℕ) (a b : Block) → from ≤ k → k < from + count → cond (is_inside from count k) a b ≡ a
    kept k a b low high = grind (arith, nat_tests)

    within : (i : ℕ) → i < length img → at ≤ i → i < at + length bs → block_at (mix img at bs row) i ≡ block_at (put img (at + f) (range bs f n)) i
    within i lt low high = mix_inside img at bs row i low high lt ∙ test (i - at) _ _ ∙ elim (cases_lt (i - at) f) [
      | inl before ↦ not_kept (i - at) _ _ (inl (omega arith)) ∙ sym (put_below img (at + f) (range bs f n) i (omega arith))
      | inr le ↦ elim (cases_lt (i - at) (f + n)) [
        | inl one ↦
            kept (i - at) _ _ (omega arith) (omega arith)
            ∙ same_place bs (i - at) (f + (i - (at + f))) (omega arith)
            ∙ sym (put_inside img (at + f) (range bs f n) i (omega arith) (omega (arith, length-range bs f n)) lt ∙ block_at-range bs f n (i - (at + f)) (omega arith))
        | inr behind ↦ not_kept (i - at) _ _ (inr (omega arith)) ∙ sym (put_above img (at + f) (range bs f n) i (omega (arith, length-range bs f n)))
      ]
    ]

    each : (i : ℕ) → i < length img → block_at (mix img at bs row) i ≡ block_at (put img (at + f) (range bs f n)) i
    each i lt = elim (cases_lt i at) [
      | inl low ↦ mix_outside img at bs row i (inl low) ∙ sym (put_below img (at + f) (range bs f n) i (omega arith))
      | inr high ↦ elim (cases_lt i (at + length bs)) [
        | inl inner ↦ within i lt high inner
        | inr above ↦ mix_outside img at bs row i (inr above) ∙ sym (put_above img (at + f) (range bs f n) i (omega (arith, length-range bs f n)))
      ]
    ]
