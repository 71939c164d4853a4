-- The segments in which two images differ.
use Rattle.std.proofs.Common.{◌≡◌, ◌≢◌, ◌⊎◌, inl, inr, ℕ, zero, suc, ◌<◌, Bool, true, false, not, List, [], ◌∷◌, length, get_or, filter, ◌∙◌, sym, refl, ap, arith}
use Rattle.std.specs.List.{Contains, All, range_with_len}
use Rattle.std.proofs.lemmas.Bool.{cases_Bool, false≢true, not-true}
use Rattle.std.proofs.lemmas.Bool.Decides.{same_from_decides}
use Rattle.std.proofs.lemmas.Slice.Eq.{slice_eq-Decides, bytes_eq-Decides}
use Rattle.std.proofs.lemmas.List.Elements.{All-filter, All-contains, All-from_get_or, filter_passes, filter_agree}
use Rattle.std.proofs.lemmas.List.FromFn.{length-range_with_len, get_or-range_with_len}
use Rattle.avs_seg.specs.Image.{Image, put, ChangesWithin}
use Rattle.avs_seg.specs.Segment.{seg_count, segment, same_blocks, touch, differ}
use Rattle.avs_seg.proofs.Changes.{ChangesWithin-put}
use Rattle.avs_seg.proofs.Cuts.{same_from_segments, segment_apart}
use Rattle.avs_seg.proofs.Touch.{Contains-touch, cases_Meets}

-- what the test of two lists of blocks tells
pub same_blocks_true : (a b : Image) → same_blocks a b ≡ true → a ≡ b
same_blocks_true a b is = (slice_eq-Decides bytes_eq-Decides a b (same_blocks a b) refl).0 is

pub same_blocks_from : (a b : Image) → a ≡ b → same_blocks a b ≡ true
same_blocks_from a b is = (slice_eq-Decides bytes_eq-Decides a b (same_blocks a b) refl).1 is

-- a filter that nothing passes, and what is in a filter
filter_nothing : (p : ℕ → Bool) (xs : List ℕ) → ((x : ℕ) → p x ≡ false) → filter p xs ≡ []
filter_nothing p [] none = refl
filter_nothing p (x ∷ xs) none = rw (none x) (filter_nothing p xs none)

Contains-cons : (x y : ℕ) (xs : List ℕ) → Contains xs y → Contains (x ∷ xs) y
Contains-cons x y xs found = (suc found.0, omega (arith, found.1), found.2)

Contains-filter : (p : ℕ → Bool) (xs : List ℕ) (k : ℕ) → k < length xs → p (get_or xs k 0) ≡ true → Contains (filter p xs) (get_or xs k 0)
Contains-filter p [] k lt passes = absurd (omega arith)
Contains-filter p (x ∷ xs) zero lt passes = rw passes (0, omega arith, refl)
Contains-filter p (x ∷ xs) (suc k) lt passes = elim (cases_Bool (p x)) [
  | inl passed ↦ rw passed (Contains-cons x (get_or xs k 0) (filter p xs) (Contains-filter p xs k (omega arith) passes))
  | inr failed ↦ rw failed (Contains-filter p xs k (omega arith) passes)
]

-- a segment is in the list exactly where it is one of the image's and differs
pub differ_inside : (a b : Image) (s : ℕ) → Contains (differ a b) s → s < seg_count (length a)
differ_inside a b s found = All-contains (λ (k : ℕ). k < seg_count (length a)) (differ a b) s (All-filter _ (λ (k : ℕ). k < seg_count (length a)) (range_with_len 0 (seg_count (length a))) below) found
  where
    below : All (λ (k : ℕ). k < seg_count (length a)) (range_with_len 0 (seg_count (length a)))
    below = All-from_get_or (λ (k : ℕ). k < seg_count (length a)) _ 0 (λ i lt. let lt' : i < seg_count (length a) = omega (arith, lt, length-range_with_len 0 (seg_count (length a))) in omega (arith, get_or-range_with_len 0 (seg_count (length a)) i 0 lt'))

pub differ_differs : (a b : Image) (s : ℕ) → Contains (differ a b) s → segment a s ≢ segment b s
differ_differs a b s found same =
    let passes = All-contains (λ (k : ℕ). not (same_blocks (segment a k) (segment b k)) ≡ true) (differ a b) s (filter_passes _ (range_with_len 0 (seg_count (length a)))) found in
    false≢true (sym (not-true (same_blocks (segment a s) (segment b s)) passes) ∙ same_blocks_from _ _ same)

pub cases_differ : (a b : Image) (s : ℕ) → s < seg_count (length a) → (segment a s ≡ segment b s) ⊎ Contains (differ a b) s
cases_differ a b s lt = elim (cases_Bool (same_blocks (segment a s) (segment b s))) [
  | inl same ↦ inl (same_blocks_true _ _ same)
  | inr other ↦ inr (found other)
]
  where
    n : ℕ
    n = seg_count (length a)

    test : ℕ → Bool
    test k = not (same_blocks (segment a k) (segment b k))

    place : get_or (range_with_len 0 n) s 0 ≡ s
    place = get_or-range_with_len 0 n s 0 lt ∙ omega arith

    found : same_blocks (segment a s) (segment b s) ≡ false → Contains (differ a b) s
    found other = rw place at (Contains-filter test (range_with_len 0 n) s (omega (arith, lt, length-range_with_len 0 n)) (ap (λ (k : ℕ). test k) place ∙ ap not other))

-- equal images differ nowhere, and images that differ nowhere are equal
pub differ_same : (img : Image) → differ img img ≡ []
differ_same img = filter_nothing (λ s. not (same_blocks (segment img s) (segment img s))) (range_with_len 0 (seg_count (length img))) (λ s. ap not (same_blocks_from (segment img s) (segment img s) refl))

pub same_from_differ : (a b : Image) → length a ≡ length b → differ a b ≡ [] → a ≡ b
same_from_differ a b len none = same_from_segments a b len (λ s lt. elim (cases_differ a b s lt) [
  | inl same ↦ same
  | inr found ↦ absurd (nowhere s (rw none at found))
])
  where
    nowhere : (s : ℕ) → Contains [] s → ⊥
    nowhere s c = omega (arith, c.1)

pub differ_sym : (a b : Image) → length a ≡ length b → differ a b ≡ differ b a
differ_sym a b len = ap (λ (n : ℕ). filter (λ s. not (same_blocks (segment a s) (segment b s))) (range_with_len 0 (seg_count n))) len ∙ filter_agree _ _ (λ s. ap not (swapped (segment a s) (segment b s))) (range_with_len 0 (seg_count (length b)))
  where
    swapped : (x y : Image) → same_blocks x y ≡ same_blocks y x
    swapped x y = same_from_decides (same_blocks x y) (same_blocks y x) ((λ t. same_blocks_true x y t), (λ p. same_blocks_from x y p)) ((λ t. sym (same_blocks_true y x t)), (λ p. same_blocks_from y x (sym p)))

-- after a change the image differs from the old one in segments that the range touches alone
pub touch-differ_within : (at n : ℕ) (img new : Image) (s : ℕ) → ChangesWithin at n img new → Contains (differ img new) s → Contains (touch at n) s
touch-differ_within at n img new s c found = elim (cases_Meets at n s) [
  | inl meets ↦ Contains-touch at n s meets
  | inr apart ↦ absurd (differ_differs img new s found (sym (segment_apart at n img new s c apart)))
]

pub touch-differ_put : (img : Image) (at : ℕ) (bs : Image) (s : ℕ) → Contains (differ img (put img at bs)) s → Contains (touch at (length bs)) s
touch-differ_put img at bs s found = touch-differ_within at (length bs) img (put img at bs) s (ChangesWithin-put img at bs) found

-- and from a third one in those and where it differed before
pub differ_after : (at n : ℕ) (img new other : Image) (s : ℕ) → ChangesWithin at n img new → Contains (differ new other) s → Contains (touch at n) s ⊎ Contains (differ img other) s
differ_after at n img new other s c found = elim (cases_Meets at n s) [
  | inl meets ↦ inl (Contains-touch at n s meets)
  | inr apart ↦ elim (cases_differ img other s (inside (differ_inside new other s found))) [
    | inl same ↦ absurd (differ_differs new other s found (segment_apart at n img new s c apart ∙ same))
    | inr before ↦ inr before
  ]
]
  where
    inside : s < seg_count (length new) → s < seg_count (length img)
    inside lt = omega (arith, lt, c.same_length)
