-- A slice that is filled with the blocks of an image, a piece at a time.
use Rattle.std.proofs.Common.{◌≡◌, inl, inr, ℕ, ◌+◌, ◌-◌, ◌*◌, ◌<◌, ◌≤◌, List, length, take, drop, ◌∙◌, sym, ap, arith}
use borrow.Rule.Slice.PartMut.{put_mid}
use Rattle.std.proofs.lemmas.Bool.{cases_lt}
use Rattle.avs_seg.specs.Image.{Image, block_at, range, blocks_of}
use Rattle.avs_seg.proofs.Blocks.{same_place}
use Rattle.avs_seg.proofs.Ranges.{length-range, block_at-range}
use Rattle.avs_seg.proofs.Bytes.{block_at-blocks_of, blocks_of_all, block_before, block_inside}

-- the first blocks of the slice are those of the image from at on
pub record ShowsFirst (img : Image) (at : ℕ) (out : List ℕ) (done : ℕ) : Type 0 where
  pub shows : (k : ℕ) → k < done → take 512 (drop (512 * k) out) ≡ block_at img (at + k)

pub shows_none : (img : Image) (at : ℕ) (out : List ℕ) → ShowsFirst img at out 0
shows_none img at out = record { shows = λ k lt. absurd (omega arith) }

pub shows_more : (img : Image) (at : ℕ) (out part : List ℕ) (done len a n from : ℕ) → ShowsFirst img at out done → a ≡ 512 * done → length part ≡ 512 * len → 512 * done ≤ length out → from ≡ at + done → blocks_of part ≡ range img from len → ShowsFirst img at (put_mid a n out part) (done + len)
shows_more img at out part done len a n from before a-is part-len fits from-is shown = record {
  shows = λ k lt. elim (cases_lt k done) [
    | inl old ↦ block_before out part (512 * k) a n (omega arith) (omega arith) ∙ before.shows k old
    | inr new ↦
        block_inside out part (512 * k) a n (omega arith) (omega arith) (omega arith)
        ∙ ap (λ (j : ℕ). take 512 (drop j part)) (place k new)
        ∙ sym (block_at-blocks_of part (k - done) (omega arith))
        ∙ ap (λ (l : Image). block_at l (k - done)) shown
        ∙ block_at-range img from len (k - done) (omega arith)
        ∙ same_place img (from + (k - done)) (at + k) (omega arith)
  ];
}
  where
    place : (k : ℕ) → done ≤ k → 512 * k - a ≡ 512 * (k - done)
    place k le = omega arith

pub shows_all : (img : Image) (at : ℕ) (out : List ℕ) (n : ℕ) → length out ≡ 512 * n → ShowsFirst img at out n → blocks_of out ≡ range img at n
shows_all img at out n len shown = sym (blocks_of_all out (range img at n) (len ∙ ap (λ (j : ℕ). 512 * j) (sym (length-range img at n))) (λ k lt.
    let lt' : k < n = omega (arith, lt, length-range img at n) in
    block_at-range img at n k lt' ∙ sym (shown.shows k lt')))
