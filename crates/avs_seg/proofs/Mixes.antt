-- What a torn write may leave.
use Rattle.std.proofs.Common.{◌≡◌, ◌⊎◌, inl, inr, ℕ, ◌+◌, ◌-◌, ◌<◌, ◌≤◌, [], ◌∷◌, length, set, ◌∙◌, sym, refl, ap, arith}
use Rattle.std.proofs.lemmas.Bool.{cases_lt}
use Rattle.avs_seg.specs.Image.{Block, Image, block_at, put, range, IsMix}
use Rattle.avs_seg.proofs.Blocks.{same_images, same_place, block_at_past}
use Rattle.avs_seg.proofs.Puts.{length-put, put_inside, put_below, put_above, put_outside, put_one}
use Rattle.avs_seg.proofs.Ranges.{length-range, block_at-range, range-put_one, put_first_inside}

-- no block was written
pub IsMix-same : (img : Image) (at : ℕ) (bs : Image) → IsMix img at bs img
IsMix-same img at bs = record { same_length = refl; outside = λ i apart. refl; inside = λ i low high. inl refl }

-- each block was written
pub IsMix-put : (img : Image) (at : ℕ) (bs : Image) → IsMix img at bs (put img at bs)
IsMix-put img at bs = record {
  same_length = length-put img at bs;
  outside = λ i apart. put_outside img at bs i apart;
  inside = λ i low high. elim (cases_lt i (length img)) [
    | inl lt ↦ inr (put_inside img at bs i low high lt)
    | inr past ↦ inl (block_at_past (put img at bs) i (omega (arith, length-put img at bs)) ∙ sym (block_at_past img i past))
  ];
}

-- a mix of n of the blocks is a mix of all
pub mix_part : (img bs new : Image) (at lo k : ℕ) → lo + k ≤ length bs → IsMix img (at + lo) (range bs lo k) new → IsMix img at bs new
mix_part img bs new at lo k part mix = record {
  same_length = mix.same_length;
  outside = λ i apart. elim apart [
    | inl low ↦ mix.outside i (inl (omega arith))
    | inr high ↦ mix.outside i (inr (omega (arith, length-range bs lo k)))
  ];
  inside = λ i low high. elim (cases_lt i (at + lo)) [
    | inl below ↦ inl (mix.outside i (inl below))
    | inr le ↦ elim (cases_lt i (at + lo + k)) [
      | inr above ↦ inl (mix.outside i (inr (omega (arith, length-range bs lo k))))
      | inl within ↦ elim (mix.inside i le (omega (arith, length-range bs lo k))) [
        | inl same ↦ inl same
        | inr done ↦ inr (done ∙ block_at-range bs lo k (i - (at + lo)) (omega arith) ∙ same_place bs (lo + (i - (at + lo))) (i - at) (omega arith))
      ]
    ]
  ];
}

-- n blocks of them were written, in their places
pub IsMix-part : (img : Image) (at : ℕ) (bs : Image) (from n : ℕ) → from + n ≤ length bs → IsMix img at bs (put img (at + from) (range bs from n))
IsMix-part img at bs from n part = mix_part img bs (put img (at + from) (range bs from n)) at from n part (IsMix-put img (at + from) (range bs from n))

-- the first i were written, and the write of the next n was torn
pub mix_more : (img bs new : Image) (at i n : ℕ) → i + n ≤ length bs → at + length bs ≤ length img → IsMix (put img at (range bs 0 i)) (at + i) (range bs i n) new → IsMix img at bs new
mix_more img bs new at i n part fits mix = record {
  same_length = mix.same_length ∙ length-put img at (range bs 0 i);
  outside = λ j apart. elim apart [
    | inl low ↦ mix.outside j (inl (omega arith)) ∙ put_below img at _ j low
    | inr high ↦ mix.outside j (inr (omega (arith, length-range bs i n))) ∙ put_above img at _ j (omega (arith, length-range bs 0 i))
  ];
  inside = λ j low high. elim (cases_lt j (at + i)) [
    | inl old ↦ inr (mix.outside j (inl old) ∙ put_first_inside img bs at i j low old (omega arith))
    | inr past ↦ elim (cases_lt j (at + i + n)) [
      | inr above ↦ inl (mix.outside j (inr (omega (arith, length-range bs i n))) ∙ put_above img at _ j (omega (arith, length-range bs 0 i)))
      | inl within ↦ elim (mix.inside j past (omega (arith, length-range bs i n))) [
        | inl same ↦ inl (same ∙ put_above img at _ j (omega (arith, length-range bs 0 i)))
        | inr done ↦ inr (done ∙ block_at-range bs i n (j - (at + i)) (omega arith) ∙ same_place bs (i + (j - (at + i))) (j - at) (omega arith))
      ]
    ]
  ];
}

-- a write that was torn, once more torn
pub IsMix_then : (img mid new : Image) (at : ℕ) (bs : Image) → IsMix img at bs mid → IsMix mid at bs new → IsMix img at bs new
IsMix_then img mid new at bs first second = record {
  same_length = second.same_length ∙ first.same_length;
  outside = λ i apart. second.outside i apart ∙ first.outside i apart;
  inside = λ i low high. elim (second.inside i low high) [
    | inl same ↦ elim (first.inside i low high) [ inl old ↦ inl (same ∙ old) | inr done ↦ inr (same ∙ done) ]
    | inr done ↦ inr done
  ];
}

-- a write that was torn, done once more
pub put-mix : (img new : Image) (at : ℕ) (bs : Image) → IsMix img at bs new → put new at bs ≡ put img at bs
put-mix img new at bs mix = same_images _ _ (length-put new at bs ∙ mix.same_length ∙ sym (length-put img at bs)) (λ i lt. each i (omega (arith, lt, length-put new at bs)) (omega (arith, lt, length-put new at bs, mix.same_length)))
  where
    each : (i : ℕ) → i < length new → i < length img → block_at (put new at bs) i ≡ block_at (put img at bs) i
    each i lt lt' = elim (cases_lt i at) [
      | inl low ↦ put_below new at bs i low ∙ mix.outside i (inl low) ∙ sym (put_below img at bs i low)
      | inr high ↦ elim (cases_lt i (at + length bs)) [
        | inl within ↦ put_inside new at bs i high within lt ∙ sym (put_inside img at bs i high within lt')
        | inr above ↦ put_above new at bs i above ∙ mix.outside i (inr above) ∙ sym (put_above img at bs i above)
      ]
    ]

-- a range in which all of the torn write lies
pub IsMix-range : (img new : Image) (from k at : ℕ) (bs : Image) → at + length bs ≤ k → IsMix img (from + at) bs new → IsMix (range img from k) at bs (range new from k)
IsMix-range img new from k at bs part mix = record {
  same_length = length-range new from k ∙ sym (length-range img from k);
  outside = λ i apart. elim (cases_lt i k) [
    | inl lt ↦ block_at-range new from k i lt ∙ mix.outside (from + i) (elim apart [ inl low ↦ inl (omega arith) | inr high ↦ inr (omega arith) ]) ∙ sym (block_at-range img from k i lt)
    | inr past ↦ block_at_past (range new from k) i (omega (arith, length-range new from k)) ∙ sym (block_at_past (range img from k) i (omega (arith, length-range img from k)))
  ];
  inside = λ i low high.
      let lt : i < k = omega arith in
      elim (mix.inside (from + i) (omega arith) (omega arith)) [
        | inl same ↦ inl (block_at-range new from k i lt ∙ same ∙ sym (block_at-range img from k i lt))
        | inr done ↦ inr (block_at-range new from k i lt ∙ done ∙ same_place bs (from + i - (from + at)) (i - at) (omega arith))
      ];
}

-- of one block: the old image, or the whole write
pub mix_one : (img new : Image) (at : ℕ) (b : Block) → at < length img → IsMix img at (b ∷ []) new → (new ≡ img) ⊎ (new ≡ put img at (b ∷ []))
mix_one img new at b lt mix = elim (mix.inside at (omega arith) (omega arith)) [
  | inl old ↦ inl (same_images new img mix.same_length (λ i _. elim (cases_lt i at) [
    | inl low ↦ mix.outside i (inl low)
    | inr high ↦ elim (cases_lt at i) [
      | inl above ↦ mix.outside i (inr (omega arith))
      | inr le ↦ same_place new i at (omega arith) ∙ old ∙ same_place img at i (omega arith)
    ]
  ]))
  | inr done ↦ inr (same_images new (put img at (b ∷ [])) (mix.same_length ∙ sym (length-put img at (b ∷ []))) (λ i _. elim (cases_lt i at) [
    | inl low ↦ mix.outside i (inl low) ∙ sym (put_below img at _ i low)
    | inr high ↦ elim (cases_lt at i) [
      | inl above ↦ mix.outside i (inr (omega arith)) ∙ sym (put_above img at (b ∷ []) i (omega arith))
      | inr le ↦ same_place new i at (omega arith) ∙ done ∙ same_place (b ∷ []) (at - at) 0 (omega arith) ∙ sym (put_one img at b i (omega arith) lt)
    ]
  ]))
]

-- of one block, in a range around it
pub range-mix_one : (img : Image) (from k at : ℕ) (b : Block) (new : Image) → at < k → from + k ≤ length img → IsMix img (from + at) (b ∷ []) new → (range new from k ≡ range img from k) ⊎ (range new from k ≡ set (range img from k) at b)
range-mix_one img from k at b new lt fits mix = elim (mix_one img new (from + at) b (omega arith) mix) [
  | inl old ↦ inl (ap (λ (l : Image). range l from k) old)
  | inr done ↦ inr (ap (λ (l : Image). range l from k) done ∙ range-put_one img from k at b lt fits)
]
