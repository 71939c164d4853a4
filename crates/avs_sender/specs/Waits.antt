-- Which segments of a set wait to be copied.
use Rattle.std.specs.Prelude.{◌≡◌, ℕ, ◌<◌, ◌≤◌, ◌^◌, Bool, true, false, List, length, slice_index_or}

abbrev pub waits_at : List Bool → ℕ → Bool
waits_at waits seg = slice_index_or waits seg false

-- the first place from one on at which there is true
pub record IsFirstFrom (waits : List Bool) (from i : ℕ) : Type 0 where
  pub inside : i < length waits
  pub from_there : from ≤ i
  pub on : waits_at waits i ≡ true
  pub before : (k : ℕ) → from ≤ k → k < i → waits_at waits k ≡ false

-- the least segment that waits
pub record IsLeastWaiting (waits : List Bool) (seg : ℕ) : Type 0 where
  pub inside : seg < length waits
  pub on : waits_at waits seg ≡ true
  pub before : (s : ℕ) → s < seg → waits_at waits s ≡ false

-- none below this one waits
pub record WaitFrom (waits : List Bool) (from : ℕ) : Type 0 where
  pub few : length waits < 2 ^ 32
  pub below : (s : ℕ) → s < from → waits_at waits s ≡ false
