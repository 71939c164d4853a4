-- What a whole write makes of an image.
use Rattle.std.proofs.Common.{◌≡◌, ◌⊎◌, inl, inr, ℕ, ◌+◌, ◌-◌, ◌<◌, ◌≤◌, cond, [], ◌∷◌, length, set, ◌∙◌, sym, arith}
use Rattle.std.proofs.lemmas.Bool.{cases_lt}
use Rattle.std.proofs.lemmas.Bool.Decides.{nat_tests}
use Rattle.std.proofs.lemmas.List.{length-set, get_or-set_other}
use Rattle.std.proofs.lemmas.Grind.{get_or-set_at}
use Rattle.avs_seg.specs.Image.{Block, Image, block_at, is_inside, put}
use Rattle.avs_seg.proofs.Blocks.{length-tabulate, block_at-tabulate, same_images, same_place, tabulate_same}

pub length-put : (img : Image) (at : ℕ) (bs : Image) → length (put img at bs) ≡ length img
unfolding put
length-put img at bs = length-tabulate _ _

pub put_inside : (img : Image) (at : ℕ) (bs : Image) (i : ℕ) → at ≤ i → i < at + length bs → i < length img → block_at (put img at bs) i ≡ block_at bs (i - at)
unfolding put
put_inside img at bs i low high lt = block_at-tabulate _ _ i lt ∙ grind (arith, nat_tests)

below_test : (at n i : ℕ) (a b : Block) → i < at → cond (is_inside at n i) a b ≡ b
below_test at n i a b low = grind (arith, nat_tests)

above_test : (at n i : ℕ) (a b : Block) → at + n ≤ i → cond (is_inside at n i) a b ≡ b
above_test at n i a b high = grind (arith, nat_tests)

pub put_below : (img : Image) (at : ℕ) (bs : Image) (i : ℕ) → i < at → block_at (put img at bs) i ≡ block_at img i
unfolding put
put_below img at bs i low = tabulate_same img _ i (λ _. below_test at (length bs) i _ _ low)

pub put_above : (img : Image) (at : ℕ) (bs : Image) (i : ℕ) → at + length bs ≤ i → block_at (put img at bs) i ≡ block_at img i
unfolding put
put_above img at bs i high = tabulate_same img _ i (λ _. above_test at (length bs) i _ _ high)

pub put_outside : (img : Image) (at : ℕ) (bs : Image) (i : ℕ) → (i < at) ⊎ (at + length bs ≤ i) → block_at (put img at bs) i ≡ block_at img i
put_outside img at bs i apart = elim apart [ inl low ↦ put_below img at bs i low | inr high ↦ put_above img at bs i high ]

-- the block that one block is written to
pub put_one : (img : Image) (at : ℕ) (b : Block) (i : ℕ) → i ≡ at → at < length img → block_at (put img at (b ∷ [])) i ≡ b
put_one img at b i is lt = put_inside img at (b ∷ []) i (omega arith) (omega arith) (omega arith) ∙ same_place (b ∷ []) (i - at) 0 (omega arith)

-- one block written is one element set
pub put_one-set : (img : Image) (at : ℕ) (b : Block) → at < length img → put img at (b ∷ []) ≡ set img at b
put_one-set img at b lt = same_images _ _ (length-put img at (b ∷ []) ∙ sym (length-set img at b)) (λ i _. elim (cases_lt i at) [
  | inl low ↦ put_below img at (b ∷ []) i low ∙ sym (get_or-set_other img at i b [] (omega arith))
  | inr high ↦ elim (cases_lt at i) [
    | inl above ↦ put_above img at (b ∷ []) i (omega arith) ∙ sym (get_or-set_other img at i b [] (omega arith))
    | inr le ↦ put_one img at b i (omega arith) lt ∙ sym (get_or-set_at img at i b [] (omega arith) lt)
  ]
])

-- nothing is written
pub put_none : (img : Image) (at : ℕ) (bs : Image) → length bs ≡ 0 → put img at bs ≡ img
put_none img at bs none = same_images _ _ (length-put img at bs) (λ i _. put_outside img at bs i (elim (cases_lt i at) [ inl low ↦ inl low | inr high ↦ inr (omega arith) ]))

-- an image without blocks stays so
pub put_untold : (at : ℕ) (bs : Image) → put [] at bs ≡ []
put_untold at bs = same_images _ _ (length-put [] at bs) (λ i lt. absurd (omega (arith, lt, length-put [] at bs)))

-- the whole image is replaced
pub put_all : (img bs : Image) → length bs ≡ length img → put img 0 bs ≡ bs
put_all img bs len = same_images _ _ (length-put img 0 bs ∙ sym len) (λ i lt.
    let lt' : i < length img = omega (arith, lt, length-put img 0 bs) in
    put_inside img 0 bs i (omega arith) (omega arith) lt' ∙ same_place bs (i - 0) i (omega arith))

-- the later of two writes to one place stands
pub put-put : (img : Image) (at : ℕ) (old new : Image) → length old ≤ length new → put (put img at old) at new ≡ put img at new
put-put img at old new le = same_images _ _ (length-put _ at new ∙ length-put img at old ∙ sym (length-put img at new)) (λ i below. each i (omega (arith, below, length-put (put img at old) at new, length-put img at old)))
  where
    each : (i : ℕ) → i < length img → block_at (put (put img at old) at new) i ≡ block_at (put img at new) i
    each i lt = elim (cases_lt i at) [
      | inl low ↦ put_below _ at new i low ∙ put_below img at old i low ∙ sym (put_below img at new i low)
      | inr high ↦ elim (cases_lt i (at + length new)) [
        | inl within ↦ put_inside _ at new i high within (omega (arith, length-put img at old)) ∙ sym (put_inside img at new i high within lt)
        | inr above ↦ put_above _ at new i above ∙ put_above img at old i (omega arith) ∙ sym (put_above img at new i above)
      ]
    ]

-- writes to places apart may be done in either order
pub put_apart : (img : Image) (at : ℕ) (cs : Image) (at' : ℕ) (bs : Image) → (at + length cs ≤ at') ⊎ (at' + length bs ≤ at) → put (put img at cs) at' bs ≡ put (put img at' bs) at cs
put_apart img at cs at' bs apart = same_images _ _ (size ∙ sym size') (λ i below. each i (omega (arith, below, size)))
  where
    size : length (put (put img at cs) at' bs) ≡ length img
    size = length-put (put img at cs) at' bs ∙ length-put img at cs

    size' : length (put (put img at' bs) at cs) ≡ length img
    size' = length-put (put img at' bs) at cs ∙ length-put img at' bs

    -- a place of the first, and so none of the second
    first : (i : ℕ) → at ≤ i → i < at + length cs → (i < at') ⊎ (at' + length bs ≤ i)
    first i low high = elim apart [ inl before ↦ inl (omega arith) | inr behind ↦ inr (omega arith) ]

    at_first : (i : ℕ) → i < length img → at ≤ i → i < at + length cs → block_at (put (put img at cs) at' bs) i ≡ block_at (put (put img at' bs) at cs) i
    at_first i lt low high = put_outside (put img at cs) at' bs i (first i low high) ∙ put_inside img at cs i low high lt ∙ sym (put_inside (put img at' bs) at cs i low high (omega (arith, length-put img at' bs)))

    at_second : (i : ℕ) → i < length img → (i < at) ⊎ (at + length cs ≤ i) → block_at (put (put img at cs) at' bs) i ≡ block_at (put (put img at' bs) at cs) i
    at_second i lt out = elim (cases_lt i at') [
      | inl low ↦ put_below (put img at cs) at' bs i low ∙ put_outside img at cs i out ∙ sym (put_outside (put img at' bs) at cs i out ∙ put_below img at' bs i low)
      | inr high ↦ elim (cases_lt i (at' + length bs)) [
        | inl within ↦ put_inside (put img at cs) at' bs i high within (omega (arith, length-put img at cs)) ∙ sym (put_outside (put img at' bs) at cs i out ∙ put_inside img at' bs i high within lt)
        | inr above ↦ put_above (put img at cs) at' bs i above ∙ put_outside img at cs i out ∙ sym (put_outside (put img at' bs) at cs i out ∙ put_above img at' bs i above)
      ]
    ]

    each : (i : ℕ) → i < length img → block_at (put (put img at cs) at' bs) i ≡ block_at (put (put img at' bs) at cs) i
    each i lt = elim (cases_lt i at) [
      | inl low ↦ at_second i lt (inl low)
      | inr high ↦ elim (cases_lt i (at + length cs)) [ inl within ↦ at_first i lt high within | inr above ↦ at_second i lt (inr above) ]
    ]
