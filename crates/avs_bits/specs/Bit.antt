-- Bits in bytes and on a disk, and what a change makes of them.
use Rattle.std.specs.Prelude.{◌≡◌, ◌⊎◌, ℕ, ◌+◌, ◌-◌, ◌*◌, ◌/◌, ◌%◌, ◌<◌, ◌≤◌, min, max, Bool, ◌==◌, true, false, not, if◌then◌else◌, List, count_by, slice_index, Option, IfSome, IfNone, Result, IsOk}
use Rattle.std.specs.Int.{bit_at}
use Rattle.std.specs.List.{list_any, range_with_len}
use Rattle.avs_seg.specs.Image.{Image, block_at}
use Rattle.avs_dev.specs.Seen.{Seen, IsTold}
use Rattle.avs_dev.specs.Memory.{counted}

-- bit p of bytes: it lies in byte p / 8, counted from the lowest
unfoldable pub bit_of : List ℕ → ℕ → Bool
bit_of bytes p = bit_at (slice_index bytes (p / 8)) (p % 8) == 1

-- the byte whose bits are all as `on` says
abbrev pub byte_of : Bool → ℕ
byte_of on = if on then 255 else 0

-- bit p of a disk: each block has 4,096
unfoldable pub disk_bit : Image → ℕ → Bool
disk_bit img p = bit_of (block_at img (p / 4096)) (p % 4096)

-- the bits from `first` up to `end` are as `on` says, and the others as before
pub record IsPut (old new : ℕ → Bool) (first end : ℕ) (on : Bool) : Type 0 where
  pub inside : (p : ℕ) → first ≤ p → p < end → new p ≡ on
  pub outside : (p : ℕ) → (p < first) ⊎ (end ≤ p) → new p ≡ old p

-- of these bits some are as `on` says, and the others are as before
pub record IsPart (keys : ℕ → Bool) (on : Bool) (old new : ℕ → Bool) : Type 0 where
  pub inside : (p : ℕ) → keys p ≡ true → (new p ≡ old p) ⊎ (new p ≡ on)
  pub outside : (p : ℕ) → keys p ≡ false → new p ≡ old p

-- the bits of a disk behind its first block are these, as far as bit n
pub record IsHeld (img : Image) (n : ℕ) (bits : ℕ → Bool) : Type 0 where
  pub each : (p : ℕ) → 4096 ≤ p → p < n → disk_bit img p ≡ bits p

-- a bit is not as `on` says
abbrev pub is_other : Bool → Bool → Bool
is_other on bit = if on then not bit else bit

-- one of the bits from `first` up to `end` is not as `on` says
unfoldable pub has_other : (ℕ → Bool) → ℕ → ℕ → Bool → Bool
has_other bits first end on = list_any (λ p. is_other on (bits p)) (range_with_len first (end - first))

-- of the bits from `first` up to `end`, one of those in block k is not as `on` says
abbrev pub is_due : (ℕ → Bool) → ℕ → ℕ → Bool → ℕ → Bool
is_due bits first end on k = has_other bits (max first (4096 * k)) (min end (4096 * (k + 1))) on

-- how many blocks below block k have such a bit
unfoldable pub due_below : (ℕ → Bool) → ℕ → ℕ → Bool → ℕ → ℕ
due_below bits first end on k = count_by (is_due bits first end on) (range_with_len (first / 4096) (k - first / 4096))

-- how many blocks have such a bit
abbrev pub due_count : (ℕ → Bool) → ℕ → ℕ → Bool → ℕ
due_count bits first end on = due_below bits first end on ((end + 4095) / 4096)

-- a count that has risen by so many, up to the greatest u64, and stays where it rose by none
abbrev pub raised : ℕ → ℕ → ℕ
raised before more = if more == 0 then before else counted before more

-- a change stopped at block k, which had to change: in memory it was made up to the end of that block, the blocks below
-- it were written where they changed, and a disk that held the bits holds them as they were below the block, or as they
-- are in memory
pub record StopsAt (old new : ℕ → Bool) (first end : ℕ) (on : Bool) (before now : Seen) : Type 0 where
  pub block : ℕ
  pub due : is_due old first end on block ≡ true
  pub put : IsPut old new first (min (4096 * (block + 1)) end) on
  pub written : now.written ≡ raised before.written (due_below old first end on block)
  pub below : ℕ → Bool
  pub put_below : IsPut old below first (min (4096 * block) end) on
  pub held : IsTold before → (n : ℕ) → IsHeld before.image n old → IsHeld now.image n below ⊎ IsHeld now.image n new

-- a change of no bit: nothing was done, and the answer is Ok
pub record IsIdleChange {T E : Type 0} (before : Seen) (old : List ℕ) (result : Result T E) (now : Seen) (new : List ℕ) : Type 0 where
  pub answer : IsOk result
  pub disk : now ≡ before
  pub bytes : new ≡ old

-- the least bit from a place on that is set, below an end, and None where there is none
pub record FindsBit (bits : ℕ → Bool) (from end : ℕ) (result : Option ℕ) : Type 0 where
  pub found : IfSome result (λ p. (bits p ≡ true) × ((from ≤ p) × (p < end)))
  pub least : IfSome result (λ p. (q : ℕ) → from ≤ q → q < p → bits q ≡ false)
  pub none : IfNone result ((q : ℕ) → from ≤ q → q < end → bits q ≡ false)
