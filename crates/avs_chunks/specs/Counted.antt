-- How many chunks are in each state.
use Rattle.std.specs.Prelude.{◌≡◌, ℕ, ◌+◌, ◌<◌, ◌^◌, ◌==◌, if◌then◌else◌, filter, length}
use Rattle.std.specs.List.{range_with_len}
use Rattle.avs_chunks.specs.States.{on_master, split, on_shadow}
use Rattle.avs_chunks.specs.declared.counting.Counts.{Counts}

-- of the first n chunks, how many are in a state
abbrev pub count_of : (ℕ → ℕ) → ℕ → ℕ → ℕ
count_of states n state = length (filter (λ c. states c == state) (range_with_len 0 n))

-- the counts are those of the first n chunks
pub record AreCounted (states : ℕ → ℕ) (n : ℕ) (counts : Counts) : Type 0 where
  pub alone : counts.alone ≡ count_of states n on_master
  pub back : counts.back ≡ count_of states n on_shadow
  pub halves : counts.split ≡ count_of states n split

-- one of the chunks that are counted is in a state
pub record HasOne (counts : Counts) (state : ℕ) : Type 0 where
  pub alone : state ≡ on_master → 0 < counts.alone
  pub back : state ≡ on_shadow → 0 < counts.back
  pub halves : state ≡ split → 0 < counts.split

-- one more can be counted
pub record AreFew (counts : Counts) : Type 0 where
  pub alone : counts.alone < 2 ^ 31
  pub back : counts.back < 2 ^ 31
  pub halves : counts.split < 2 ^ 31

-- a chunk has come from a state to another
pub record Changes (old : Counts) (from to : ℕ) (new : Counts) : Type 0 where
  pub alone : new.alone + (if from == on_master then 1 else 0) ≡ old.alone + (if to == on_master then 1 else 0)
  pub back : new.back + (if from == on_shadow then 1 else 0) ≡ old.back + (if to == on_shadow then 1 else 0)
  pub halves : new.split + (if from == split then 1 else 0) ≡ old.split + (if to == split then 1 else 0)
