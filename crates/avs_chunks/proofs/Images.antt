-- When both images of a set stay, and what a write to the shadow's disk makes of them.
use Rattle.std.proofs.Common.{◌≡◌, ◌≢◌, ◌⊎◌, inl, inr, ℕ, ◌+◌, ◌/◌, ◌<◌, ◌≤◌, cond, eqb, [], length, refl, sym, ◌∙◌, arith}
use Rattle.std.proofs.lemmas.Bool.{cases_lt, cases_eq}
use Rattle.std.proofs.lemmas.List.{get_or_past}
use Rattle.avs_seg.specs.Image.{Block, Image, block_at, range, put, IsMix, ChangesWithin}
use Rattle.avs_seg.specs.Segment.{seg_count}
use Rattle.avs_seg.proofs.Blocks.{same_images, length-tabulate, block_at-tabulate}
use Rattle.avs_seg.proofs.Puts.{length-put, put_inside, put_outside}
use Rattle.avs_seg.proofs.Ranges.{same_ranges}
use Rattle.avs_chunks.specs.States.{state_on}
use Rattle.avs_chunks.specs.ChunkSet.{shadow_by, master_by}
use Rattle.avs_chunks.proofs.Going.{cond_is, cond_not}

-- ---- a state is one of four

pub is_0_not_3 : (a : ℕ) → a ≡ 0 → a ≢ 3
is_0_not_3 a is other = omega arith

pub is_3_not_0 : (a : ℕ) → a ≡ 3 → a ≢ 0
is_3_not_0 a is other = omega arith

pub is_2_not_0 : (a : ℕ) → a ≡ 2 → a ≢ 0
is_2_not_0 a is other = omega arith

pub is_2_not_3 : (a : ℕ) → a ≡ 2 → a ≢ 3
is_2_not_3 a is other = omega arith

pub is_1_not_0 : (a : ℕ) → a ≡ 1 → a ≢ 0
is_1_not_0 a is other = omega arith

pub is_1_not_3 : (a : ℕ) → a ≡ 1 → a ≢ 3
is_1_not_3 a is other = omega arith

pub is_1_not_2 : (a : ℕ) → a ≡ 1 → a ≢ 2
is_1_not_2 a is other = omega arith

pub is_0_not_2 : (a : ℕ) → a ≡ 0 → a ≢ 2
is_0_not_2 a is other = omega arith

-- ---- blocks of the two images

pub length-shadow_by : (n : ℕ) (area s m : Image) → length (shadow_by n area s m) ≡ n
unfolding shadow_by
length-shadow_by n area s m = length-tabulate _ _

pub length-master_by : (n : ℕ) (area s m : Image) → length (master_by n area s m) ≡ n
unfolding master_by
length-master_by n area s m = length-tabulate _ _

pub block_at-shadow_by : (n : ℕ) (area s m : Image) (i : ℕ) → i < n → block_at (shadow_by n area s m) i ≡ cond (eqb (state_on area (i / 64)) 0) (block_at m i) (block_at s i)
unfolding shadow_by
block_at-shadow_by n area s m i lt = block_at-tabulate _ _ i lt

pub block_at-master_by : (n : ℕ) (area s m : Image) (i : ℕ) → i < n → block_at (master_by n area s m) i ≡ cond (eqb (state_on area (i / 64)) 3) (block_at s i) (block_at m i)
unfolding master_by
block_at-master_by n area s m i lt = block_at-tabulate _ _ i lt

-- a choice by a state, made twice
pick : (a b : ℕ) (x x' y y' : Block) → (a ≡ b → x ≡ x') → (a ≢ b → y ≡ y') → cond (eqb a b) x y ≡ cond (eqb a b) x' y'
pick a b x x' y y' p q = elim (cases_eq a b) [
  | inl same ↦ cond_is a b x y same ∙ p same ∙ sym (cond_is a b x' y' same)
  | inr apart ↦ cond_not a b x y apart ∙ q apart ∙ sym (cond_not a b x' y' apart)
]

pub same_shadow : (n : ℕ) (area s m area' s' m' : Image) → ((i : ℕ) → i < n → cond (eqb (state_on area' (i / 64)) 0) (block_at m' i) (block_at s' i) ≡ cond (eqb (state_on area (i / 64)) 0) (block_at m i) (block_at s i)) → shadow_by n area' s' m' ≡ shadow_by n area s m
same_shadow n area s m area' s' m' each = same_images _ _ (length-shadow_by n area' s' m' ∙ sym (length-shadow_by n area s m)) (λ i below.
    let lt : i < n = omega (arith, below, length-shadow_by n area' s' m') in
    block_at-shadow_by n area' s' m' i lt ∙ each i lt ∙ sym (block_at-shadow_by n area s m i lt))

pub same_master : (n : ℕ) (area s m area' s' m' : Image) → ((i : ℕ) → i < n → cond (eqb (state_on area' (i / 64)) 3) (block_at s' i) (block_at m' i) ≡ cond (eqb (state_on area (i / 64)) 3) (block_at s i) (block_at m i)) → master_by n area' s' m' ≡ master_by n area s m
same_master n area s m area' s' m' each = same_images _ _ (length-master_by n area' s' m' ∙ sym (length-master_by n area s m)) (λ i below.
    let lt : i < n = omega (arith, below, length-master_by n area' s' m') in
    block_at-master_by n area' s' m' i lt ∙ each i lt ∙ sym (block_at-master_by n area s m i lt))

-- ---- a write to the shadow's disk in split chunks

module _ (n : ℕ) (area m s : Image) (at len : ℕ) (all : (i : ℕ) → at ≤ i → i < at + len → state_on area (i / 64) ≡ 2) (fits : at + len ≤ n) where
  from_shadow : (s' : Image) (i : ℕ) → at ≤ i → i < at + len → block_at (shadow_by n area s' m) i ≡ block_at s' i
  from_shadow s' i low high = block_at-shadow_by n area s' m i (omega arith) ∙ cond_not _ 0 _ _ (is_2_not_0 _ (all i low high))

  -- a block that the disks share is shared by the images
  same_at : (s' : Image) (i : ℕ) → block_at s' i ≡ block_at s i → block_at (shadow_by n area s' m) i ≡ block_at (shadow_by n area s m) i
  same_at s' i same = elim (cases_lt i n) [
    | inl lt ↦ block_at-shadow_by n area s' m i lt ∙ pick (state_on area (i / 64)) 0 _ _ _ _ (λ _. refl) (λ _. same) ∙ sym (block_at-shadow_by n area s m i lt)
    | inr past ↦ get_or_past (shadow_by n area s' m) i [] (omega (arith, length-shadow_by n area s' m)) ∙ sym (get_or_past (shadow_by n area s m) i [] (omega (arith, length-shadow_by n area s m)))
  ]

  pub shadow-mix : (bs s' : Image) → length bs ≡ len → IsMix s at bs s' → IsMix (shadow_by n area s m) at bs (shadow_by n area s' m)
  shadow-mix bs s' long mix = record {
    same_length = length-shadow_by n area s' m ∙ sym (length-shadow_by n area s m);
    outside = λ i apart. same_at s' i (mix.outside i apart);
    inside = λ i low high. elim (mix.inside i low high) [
      | inl old ↦ inl (same_at s' i old)
      | inr new ↦ inr (from_shadow s' i low (omega (arith, high, long)) ∙ new)
    ];
  }

  pub shadow-put : (bs : Image) → length bs ≡ len → n ≤ length s → shadow_by n area (put s at bs) m ≡ put (shadow_by n area s m) at bs
  shadow-put bs long room = same_images _ _ (length-shadow_by n area (put s at bs) m ∙ sym (length-put (shadow_by n area s m) at bs ∙ length-shadow_by n area s m)) (λ i below. each i (omega (arith, below, length-shadow_by n area (put s at bs) m)))
    where
      other : (i : ℕ) → (i < at) ⊎ (at + length bs ≤ i) → block_at (shadow_by n area (put s at bs) m) i ≡ block_at (put (shadow_by n area s m) at bs) i
      other i apart = same_at (put s at bs) i (put_outside s at bs i apart) ∙ sym (put_outside (shadow_by n area s m) at bs i apart)

      each : (i : ℕ) → i < n → block_at (shadow_by n area (put s at bs) m) i ≡ block_at (put (shadow_by n area s m) at bs) i
      each i lt = elim (cases_lt i at) [
        | inl low ↦ other i (inl low)
        | inr le ↦ elim (cases_lt i (at + len)) [
          | inr past ↦ other i (inr (omega (arith, past, long)))
          | inl within ↦
              from_shadow (put s at bs) i le within
              ∙ put_inside s at bs i le (omega (arith, within, long)) (omega arith)
              ∙ sym (put_inside (shadow_by n area s m) at bs i le (omega (arith, within, long)) (omega (arith, lt, length-shadow_by n area s m)))
        ]
      ]

  -- the master's image does not look at these blocks of the shadow's disk
  pub master-kept : (s' : Image) → ChangesWithin at len s s' → master_by n area s' m ≡ master_by n area s m
  master-kept s' changes = same_master n area s m area s' m (λ i lt. pick (state_on area (i / 64)) 3 _ _ _ _ (λ is. changes.outside i (out i is)) (λ _. refl))
    where
      out : (i : ℕ) → state_on area (i / 64) ≡ 3 → (i < at) ⊎ (at + len ≤ i)
      out i is = elim (cases_lt i at) [
        | inl low ↦ inl low
        | inr le ↦ elim (cases_lt i (at + len)) [
          | inl within ↦ absurd (is_2_not_3 _ (all i le within) is)
          | inr past ↦ inr past
        ]
      ]

  pub alike-kept : (s' : Image) → ChangesWithin at len s s' → (i : ℕ) → state_on area (i / 64) ≡ 1 → block_at s' i ≡ block_at s i
  alike-kept s' changes i is = changes.outside i (elim (cases_lt i at) [
    | inl low ↦ inl low
    | inr le ↦ elim (cases_lt i (at + len)) [
      | inl within ↦ absurd (is_1_not_2 _ is (all i le within))
      | inr past ↦ inr past
    ]
  ])

-- ---- reads of the shadow where the blocks stand on one disk

module _ (n : ℕ) (area m s : Image) (at k : ℕ) (fits : at + k ≤ n) where
  pub range_alone : ((i : ℕ) → i < k → state_on area ((at + i) / 64) ≡ 0) → range m at k ≡ range (shadow_by n area s m) at k
  range_alone all = same_ranges m (shadow_by n area s m) at at k (λ i lt. sym (block_at-shadow_by n area s m (at + i) (omega arith) ∙ cond_is _ 0 _ _ (all i lt)))

  pub range_there : ((i : ℕ) → i < k → state_on area ((at + i) / 64) ≢ 0) → range s at k ≡ range (shadow_by n area s m) at k
  range_there all = same_ranges s (shadow_by n area s m) at at k (λ i lt. sym (block_at-shadow_by n area s m (at + i) (omega arith) ∙ cond_not _ 0 _ _ (all i lt)))

-- ---- every chunk stands on the master alone

pub shadow_is_master : (n : ℕ) (area s m : Image) → length m ≡ n → ((c : ℕ) → c < seg_count n → state_on area c ≡ 0) → shadow_by n area s m ≡ m
shadow_is_master n area s m len all = same_images _ _ (length-shadow_by n area s m ∙ sym len) (λ i below.
    let lt : i < n = omega (arith, below, length-shadow_by n area s m) in
    block_at-shadow_by n area s m i lt ∙ cond_is _ 0 _ _ (all (i / 64) (omega arith)))

pub master_is_master : (n : ℕ) (area s m : Image) → length m ≡ n → ((c : ℕ) → c < seg_count n → state_on area c ≡ 0) → master_by n area s m ≡ m
master_is_master n area s m len all = same_images _ _ (length-master_by n area s m ∙ sym len) (λ i below.
    let lt : i < n = omega (arith, below, length-master_by n area s m) in
    block_at-master_by n area s m i lt ∙ cond_not _ 3 _ _ (is_0_not_3 _ (all (i / 64) (omega arith))))
