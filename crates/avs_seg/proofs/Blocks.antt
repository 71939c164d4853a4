-- Images made from a function of the place, and when two images are the same.
use Rattle.std.proofs.Common.{◌≡◌, inl, inr, ℕ, ◌<◌, ◌≤◌, [], length, ◌∙◌, sym, ap, arith}
use Rattle.std.proofs.lemmas.Bool.{cases_lt}
use Rattle.std.proofs.lemmas.List.{ext_get_or, get_or_past, length-replicate, get_or-replicate}
use Rattle.std.proofs.lemmas.List.FromFn.{length-map-range_with_len, get_or-map-range_with_len}
use Rattle.avs_seg.specs.Image.{Block, Image, block_at, tabulate, zero_block, blank}

pub length-tabulate : (n : ℕ) (f : ℕ → Block) → length (tabulate n f) ≡ n
unfolding tabulate
length-tabulate n f = length-map-range_with_len f 0 n

pub block_at-tabulate : (n : ℕ) (f : ℕ → Block) (i : ℕ) → i < n → block_at (tabulate n f) i ≡ f i
unfolding tabulate
block_at-tabulate n f i lt = get_or-map-range_with_len f 0 n i i [] lt (omega arith)

-- images of one length with the same blocks
pub same_images : (a b : Image) → length a ≡ length b → ((i : ℕ) → i < length a → block_at a i ≡ block_at b i) → a ≡ b
same_images a b len each = ext_get_or [] a b len each

-- the same place, written in two ways
pub same_place : (img : Image) (i j : ℕ) → i ≡ j → block_at img i ≡ block_at img j
same_place img i j same = ap (λ k. block_at img k) same

-- behind its end an image has no blocks
pub block_at_past : (img : Image) (i : ℕ) → length img ≤ i → block_at img i ≡ []
block_at_past img i past = get_or_past img i [] past

-- a block that f leaves alone, also behind the end
pub tabulate_same : (img : Image) (f : ℕ → Block) (i : ℕ) → (i < length img → f i ≡ block_at img i) → block_at (tabulate (length img) f) i ≡ block_at img i
tabulate_same img f i same = elim (cases_lt i (length img)) [
  | inl lt ↦ block_at-tabulate _ f i lt ∙ same lt
  | inr le ↦ block_at_past (tabulate (length img) f) i (omega (arith, length-tabulate (length img) f)) ∙ sym (block_at_past img i le)
]

pub length-blank : (n : ℕ) → length (blank n) ≡ n
length-blank n = length-replicate n zero_block

pub block_at-blank : (n i : ℕ) → i < n → block_at (blank n) i ≡ zero_block
block_at-blank n i lt = get_or-replicate n i zero_block [] lt
