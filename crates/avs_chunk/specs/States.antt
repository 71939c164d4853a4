-- The states of chunks: where the contents of each stand.
use Rattle.std.specs.Prelude.{◌≡◌, ◌⊎◌, ℕ, zero, suc, ◌+◌, ◌*◌, ◌/◌, ◌%◌, ◌^◌, ◌<◌, ◌≤◌, ◌==◌, if◌then◌else◌, List, slice_index}
use Rattle.avs_seg.specs.Image.{Image, block_at}
use Rattle.avs_seg.specs.Segment.{seg_len}

-- on the master alone
abbrev pub on_master : ℕ
on_master = 0

-- the same on both
abbrev pub on_both : ℕ
on_both = 1

-- split: the shadow's on the shadow's disk, and the master's on the master
abbrev pub split : ℕ
split = 2

-- on the shadow's disk alone
abbrev pub on_shadow : ℕ
on_shadow = 3

-- place k of the four of a byte: two bits each, counted from the lowest
unfoldable pub quarter : ℕ → ℕ → ℕ
quarter byte k = byte / 2 ^ (2 * k) % 4

-- the state of a chunk in bytes: chunk c lies in byte c / 4, in the two bits from 2 * (c mod 4) on
unfoldable pub state_in : List ℕ → ℕ → ℕ
state_in bytes c = quarter (slice_index bytes (c / 4)) (c % 4)

-- the state of a chunk in an area: each block has 2,048
unfoldable pub state_on : Image → ℕ → ℕ
state_on area c = state_in (block_at area (c / 2048)) (c % 2048)

-- the blocks of an area with the states of so many chunks
abbrev pub area_len : ℕ → ℕ
area_len chunks = (chunks + 2047) / 2048

-- the label, area A and area B
abbrev pub blocks_for : ℕ → ℕ
blocks_for chunks = 1 + 2 * area_len chunks

-- of n chunks, those from `first` up to `end` are split now, and the others are as they were
pub record Splits (old new : ℕ → ℕ) (n first end : ℕ) : Type 0 where
  pub inside : (c : ℕ) → c < n → first ≤ c → c < end → new c ≡ split
  pub outside : (c : ℕ) → c < n → (c < first) ⊎ (end ≤ c) → new c ≡ old c

-- some of the chunks from `first` up to `end`, from the first on
pub record SplitsFirst (old new : ℕ → ℕ) (n first end : ℕ) : Type 0 where
  pub upto : ℕ
  pub low : first ≤ upto
  pub high : upto ≤ end
  pub splits : Splits old new n first upto

-- the sum of f over the n numbers from `first` on
abbrev pub sum_from : (ℕ → ℕ) → ℕ → ℕ → ℕ
sum_from f first zero = 0
sum_from f first (suc n) = sum_from f first n + f (first + n)

-- how many blocks those of n chunks from `first` on have that are in a state, in a volume of so many blocks
abbrev pub blocks_in : (ℕ → ℕ) → ℕ → ℕ → ℕ → ℕ → ℕ
blocks_in states blocks state first n = sum_from (λ c. if states c == state then seg_len c blocks else 0) first n

-- how many of n chunks from `first` on are not split
abbrev pub whole_in : (ℕ → ℕ) → ℕ → ℕ → ℕ
whole_in states first n = sum_from (λ c. if states c == split then 0 else 1) first n
