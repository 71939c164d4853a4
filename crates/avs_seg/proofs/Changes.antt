-- Which blocks of an image may have changed.
use Rattle.std.proofs.Common.{◌≡◌, ◌⊎◌, inl, inr, ℕ, ◌+◌, ◌-◌, ◌<◌, ◌≤◌, length, ◌∙◌, sym, refl, ap, arith}
use Rattle.std.proofs.lemmas.Bool.{cases_lt}
use Rattle.avs_seg.specs.Image.{Image, block_at, put, range, IsMix, ChangesWithin}
use Rattle.avs_seg.proofs.Blocks.{same_images, same_place}
use Rattle.avs_seg.proofs.Puts.{length-put, put_inside, put_outside}
use Rattle.avs_seg.proofs.Ranges.{block_at-range, same_ranges}

pub ChangesWithin-put : (img : Image) (at : ℕ) (bs : Image) → ChangesWithin at (length bs) img (put img at bs)
ChangesWithin-put img at bs = record { same_length = length-put img at bs; outside = λ i apart. put_outside img at bs i apart }

pub ChangesWithin-mix : (img : Image) (at : ℕ) (bs new : Image) → IsMix img at bs new → ChangesWithin at (length bs) img new
ChangesWithin-mix img at bs new m = record { same_length = m.same_length; outside = m.outside }

pub ChangesWithin-same : (at n : ℕ) (img : Image) → ChangesWithin at n img img
ChangesWithin-same at n img = record { same_length = refl; outside = λ i apart. refl }

-- a change of the first range is one of a range around it
pub ChangesWithin_wider : (at n at' n' : ℕ) (img new : Image) → at' ≤ at → at + n ≤ at' + n' → ChangesWithin at n img new → ChangesWithin at' n' img new
ChangesWithin_wider at n at' n' img new low high c = record {
  same_length = c.same_length;
  outside = λ i apart. c.outside i (elim apart [ inl below ↦ inl (omega arith) | inr above ↦ inr (omega arith) ]);
}

-- one change after another
pub ChangesWithin_then : (at n : ℕ) (img mid new : Image) → ChangesWithin at n img mid → ChangesWithin at n mid new → ChangesWithin at n img new
ChangesWithin_then at n img mid new first second = record { same_length = second.same_length ∙ first.same_length; outside = λ i apart. second.outside i apart ∙ first.outside i apart }

-- a change of one range, and then of another, is one of a range around both
pub ChangesWithin_union : (at n at' n' from k : ℕ) (img mid new : Image) → from ≤ at → at + n ≤ from + k → from ≤ at' → at' + n' ≤ from + k → ChangesWithin at n img mid → ChangesWithin at' n' mid new → ChangesWithin from k img new
ChangesWithin_union at n at' n' from k img mid new low high low' high' first second =
    ChangesWithin_then from k img mid new (ChangesWithin_wider at n from k img mid low high first) (ChangesWithin_wider at' n' from k mid new low' high' second)

pub ChangesWithin-sym : (at n : ℕ) (img new : Image) → ChangesWithin at n img new → ChangesWithin at n new img
ChangesWithin-sym at n img new c = record { same_length = sym c.same_length; outside = λ i apart. sym (c.outside i apart) }

-- where no block may change, none does
pub ChangesWithin_none : (at n : ℕ) (img new : Image) → n ≡ 0 → ChangesWithin at n img new → new ≡ img
ChangesWithin_none at n img new none c = same_images new img c.same_length (λ i _. c.outside i (elim (cases_lt i at) [ inl low ↦ inl low | inr high ↦ inr (omega arith) ]))

-- a range apart from what changed
pub range_apart : (at n : ℕ) (img new : Image) (from k : ℕ) → ChangesWithin at n img new → (from + k ≤ at) ⊎ (at + n ≤ from) → range new from k ≡ range img from k
range_apart at n img new from k c apart = same_ranges new img from from k (λ i lt. c.outside (from + i) (elim apart [ inl low ↦ inl (omega arith) | inr high ↦ inr (omega arith) ]))

-- where the range alone changed and holds these blocks, they were put
pub put_from_range : (img new : Image) (at : ℕ) (bs : Image) → ChangesWithin at (length bs) img new → range new at (length bs) ≡ bs → new ≡ put img at bs
put_from_range img new at bs c held = same_images new (put img at bs) (c.same_length ∙ sym (length-put img at bs)) (λ i lt. elim (cases_lt i at) [
  | inl low ↦ c.outside i (inl low) ∙ sym (put_outside img at bs i (inl low))
  | inr high ↦ elim (cases_lt i (at + length bs)) [
    | inl within ↦ inside i high within (omega (arith, lt, c.same_length))
    | inr above ↦ c.outside i (inr above) ∙ sym (put_outside img at bs i (inr above))
  ]
])
  where
    inside : (i : ℕ) → at ≤ i → i < at + length bs → i < length img → block_at new i ≡ block_at (put img at bs) i
    inside i high within lt =
        same_place new i (at + (i - at)) (omega arith)
        ∙ sym (block_at-range new at (length bs) (i - at) (omega arith))
        ∙ ap (λ (l : Image). block_at l (i - at)) held
        ∙ sym (put_inside img at bs i high within lt)
