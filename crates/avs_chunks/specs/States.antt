-- The states of chunks: where the contents of each stand.
use Rattle.std.specs.Prelude.{◌≡◌, ◌≢◌, ◌⊎◌, ℕ, zero, suc, ◌+◌, ◌*◌, ◌/◌, ◌%◌, ◌^◌, ◌<◌, ◌≤◌, List, slice_index}
use Rattle.avs_seg.specs.Image.{Image, block_at}
use Rattle.avs_chunks.specs.declared.states.ChunkState.{ChunkState}
use Rattle.avs_chunks.specs.declared.states.ChunkState.TheVariants.{OnMaster, OnBoth, Split, OnShadow}

-- on the master alone
abbrev pub on_master : ℕ
on_master = 0

-- the same on both
abbrev pub on_both : ℕ
on_both = 1

-- split: the shadow's on the shadow's disk, and the master's on the master
abbrev pub split : ℕ
split = 2

-- on the shadow's disk alone
abbrev pub on_shadow : ℕ
on_shadow = 3

-- the code of a state
abbrev pub code_of : ChunkState → ℕ
code_of OnMaster = on_master
code_of OnBoth = on_both
code_of Split = split
code_of OnShadow = on_shadow

-- place k of the four of a byte: two bits each, counted from the lowest
unfoldable pub quarter : ℕ → ℕ → ℕ
quarter byte k = byte / 2 ^ (2 * k) % 4

-- the state of a chunk in bytes: chunk c lies in byte c / 4, in the two bits from 2 * (c mod 4) on
unfoldable pub state_in : List ℕ → ℕ → ℕ
state_in bytes c = quarter (slice_index bytes (c / 4)) (c % 4)

-- the state of a chunk in an area: each block has 2,048
unfoldable pub state_on : Image → ℕ → ℕ
state_on area c = state_in (block_at area (c / 2048)) (c % 2048)

-- the blocks of an area with the states of so many chunks
abbrev pub area_len : ℕ → ℕ
area_len chunks = (chunks + 2047) / 2048

-- the label, area A and area B
abbrev pub blocks_for : ℕ → ℕ
blocks_for chunks = 1 + 2 * area_len chunks

-- of n chunks one is in this state now, and the others are as they were
pub record SetsOne (old new : ℕ → ℕ) (n chunk state : ℕ) : Type 0 where
  pub now : new chunk ≡ state
  pub others : (c : ℕ) → c < n → c ≢ chunk → new c ≡ old c

-- of n chunks, those from `first` up to `end` are split now, and the others are as they were
pub record Splits (old new : ℕ → ℕ) (n first end : ℕ) : Type 0 where
  pub inside : (c : ℕ) → c < n → first ≤ c → c < end → new c ≡ split
  pub outside : (c : ℕ) → c < n → (c < first) ⊎ (end ≤ c) → new c ≡ old c

-- some of the chunks from `first` up to `end`, from the first on
pub record SplitsFirst (old new : ℕ → ℕ) (n first end : ℕ) : Type 0 where
  pub upto : ℕ
  pub low : first ≤ upto
  pub high : upto ≤ end
  pub splits : Splits old new n first upto

-- all of n chunks are as they were
pub record AreSame (old new : ℕ → ℕ) (n : ℕ) : Type 0 where
  pub each : (c : ℕ) → c < n → new c ≡ old c

-- the sum of f over the n numbers from `first` on
abbrev pub sum_from : (ℕ → ℕ) → ℕ → ℕ → ℕ
sum_from f first zero = 0
sum_from f first (suc n) = sum_from f first n + f (first + n)
