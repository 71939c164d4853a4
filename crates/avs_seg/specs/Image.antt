-- Images: lists of blocks, and what a write makes of one.
use Rattle.std.specs.Prelude.{◌≡◌, ◌⊎◌, ℕ, ◌+◌, ◌-◌, ◌*◌, ◌/◌, ◌<◌, ◌≤◌, ◌==◌, Bool, ◌&&◌, if◌then◌else◌, nat_le, nat_lt, List, [], length, map, take, drop, replicate, slice_index_or}
use Rattle.std.specs.List.{list_any, range_with_len}

-- a block: 512 bytes
abbrev pub Block : Type 0
Block = List ℕ

-- an image: the blocks of a volume in order
abbrev pub Image : Type 0
Image = List Block

-- block i of an image
abbrev pub block_at : Image → ℕ → Block
block_at img i = slice_index_or img i []

-- the image of n blocks whose block i is f i
unfoldable pub tabulate : ℕ → (ℕ → Block) → Image
tabulate n f = map f (range_with_len 0 n)

-- a block of zeros
unfoldable pub zero_block : Block
zero_block = replicate 512 0

-- n blocks of zeros
abbrev pub blank : ℕ → Image
blank n = replicate n zero_block

-- i is one of the n places from at on
abbrev pub is_inside : ℕ → ℕ → ℕ → Bool
is_inside at n i = nat_le at i && nat_lt i (at + n)

-- the image with the blocks from at on replaced by these
unfoldable pub put : Image → ℕ → Image → Image
put img at bs = tabulate (length img) (λ i. if is_inside at (length bs) i then block_at bs (i - at) else block_at img i)

-- put for the blocks at + i with i in the list kept, and img elsewhere
unfoldable pub mix : Image → ℕ → Image → List ℕ → Image
mix img at bs kept = tabulate (length img) (λ i. if is_inside at (length bs) i && list_any (λ k. k == i - at) kept then block_at bs (i - at) else block_at img i)

-- the n blocks from at on
unfoldable pub range : Image → ℕ → ℕ → Image
range img at n = tabulate n (λ i. block_at img (at + i))

-- the blocks of a slice of whole blocks
unfoldable pub blocks_of : List ℕ → Image
blocks_of bytes = tabulate (length bytes / 512) (λ i. take 512 (drop (512 * i) bytes))

-- each block of the range is old or new, and the others are old: a mix for some list of blocks kept
pub record IsMix (img : Image) (at : ℕ) (bs new : Image) : Type 0 where
  pub same_length : length new ≡ length img
  pub outside : (i : ℕ) → (i < at) ⊎ (at + length bs ≤ i) → block_at new i ≡ block_at img i
  pub inside : (i : ℕ) → at ≤ i → i < at + length bs → (block_at new i ≡ block_at img i) ⊎ (block_at new i ≡ block_at bs (i - at))

-- only the n blocks from at on may differ
pub record ChangesWithin (at n : ℕ) (img new : Image) : Type 0 where
  pub same_length : length new ≡ length img
  pub outside : (i : ℕ) → (i < at) ⊎ (at + n ≤ i) → block_at new i ≡ block_at img i
