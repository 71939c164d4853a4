-- Places that stand beside a plain reading of them.
use Rattle.std.specs.Prelude.{◌≡◌, ℕ, ◌≤◌, length}
use Rattle.avs_refs.specs.Places.{Places, IsAbove}

-- the next place is above all of them, of six segments, and there is room for those that were added
pub record IsReady (places : Places) (next added : ℕ) : Type 0 where
  pub above : IsAbove next places
  pub segs : length places.greatest ≡ 6
  pub few : length places.outstanding ≤ added
  pub room : places.room ≡ 40
