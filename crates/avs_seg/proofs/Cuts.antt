-- The segments of an image, as ranges of its blocks.
use Rattle.std.proofs.Common.{◌≡◌, ◌⊎◌, inl, inr, ℕ, ◌+◌, ◌-◌, ◌*◌, ◌/◌, ◌<◌, ◌≤◌, min, [], length, drop, ◌∙◌, sym, ap, arith}
use Rattle.std.proofs.lemmas.List.{get_or-take, get_or-drop, length-take, length-drop}
use Rattle.avs_seg.specs.Image.{Image, block_at, range, ChangesWithin}
use Rattle.avs_seg.specs.Segment.{seg_count, seg_len, segment}
use Rattle.avs_seg.proofs.Blocks.{same_images, same_place}
use Rattle.avs_seg.proofs.Ranges.{length-range, block_at-range}

pub length-segment : (img : Image) (s : ℕ) → length (segment img s) ≡ seg_len s (length img)
length-segment img s = length-take 64 (drop (64 * s) img) ∙ ap (λ (n : ℕ). min 64 n) (length-drop (64 * s) img)

pub block_at-segment : (img : Image) (s i : ℕ) → i < 64 → block_at (segment img s) i ≡ block_at img (64 * s + i)
block_at-segment img s i lt = get_or-take 64 (drop (64 * s) img) i [] lt ∙ get_or-drop (64 * s) img i []

-- a segment as a range
pub segment-range : (img : Image) (s : ℕ) → segment img s ≡ range img (64 * s) (seg_len s (length img))
segment-range img s = same_images _ _ (length-segment img s ∙ sym (length-range img (64 * s) n)) (λ i lt.
    let lt' : i < n = omega (arith, lt, length-segment img s) in
    block_at-segment img s i (omega arith) ∙ sym (block_at-range img (64 * s) n i lt'))
  where
    n : ℕ
    n = seg_len s (length img)

-- segments with the same blocks
pub same_segment : (a b : Image) (s : ℕ) → length a ≡ length b → ((i : ℕ) → 64 * s ≤ i → i < 64 * s + 64 → block_at a i ≡ block_at b i) → segment a s ≡ segment b s
same_segment a b s len each = same_images _ _ (length-segment a s ∙ ap (λ (n : ℕ). seg_len s n) len ∙ sym (length-segment b s)) (λ i lt.
    let lt' : i < 64 = omega (arith, lt, length-segment a s) in
    block_at-segment a s i lt' ∙ each (64 * s + i) (omega arith) (omega arith) ∙ sym (block_at-segment b s i lt'))

-- a segment that holds none of the blocks that changed
pub segment_apart : (at n : ℕ) (img new : Image) (s : ℕ) → ChangesWithin at n img new → (at + n ≤ 64 * s) ⊎ (64 * s + 64 ≤ at) → segment new s ≡ segment img s
segment_apart at n img new s c apart = same_segment new img s c.same_length (λ i low high. c.outside i (elim apart [ inl before ↦ inr (omega arith) | inr behind ↦ inl (omega arith) ]))

-- block i is in segment i / 64
pub block_at_segment : (a b : Image) (i : ℕ) → segment a (i / 64) ≡ segment b (i / 64) → block_at a i ≡ block_at b i
block_at_segment a b i same =
    same_place a i (64 * (i / 64) + (i - 64 * (i / 64))) (omega arith)
    ∙ sym (block_at-segment a (i / 64) (i - 64 * (i / 64)) (omega arith))
    ∙ ap (λ (l : Image). block_at l (i - 64 * (i / 64))) same
    ∙ block_at-segment b (i / 64) (i - 64 * (i / 64)) (omega arith)
    ∙ same_place b (64 * (i / 64) + (i - 64 * (i / 64))) i (omega arith)

-- images of one length whose segments are the same
pub same_from_segments : (a b : Image) → length a ≡ length b → ((s : ℕ) → s < seg_count (length a) → segment a s ≡ segment b s) → a ≡ b
same_from_segments a b len each = same_images a b len (λ i lt. block_at_segment a b i (each (i / 64) (omega arith)))

-- a whole segment lies inside the image
pub seg_len_inside : (s n : ℕ) → s < seg_count n → 64 * s + seg_len s n ≤ n
seg_len_inside s n lt = omega arith
