-- Segments that are named in a list for each set, whose bits are set.
use Rattle.std.specs.Prelude.{◌≡◌, ℕ, ◌<◌, List, [], length, slice_index_or}
use Rattle.avs_mirrors.specs.Due.{Keys}
use Rattle.avs_halves.specs.SetBits.{SetBits}
use Rattle.avs_halves.specs.Marks.{AreSegments, in_list}

-- the segments in the lists
abbrev pub in_lists : List (List ℕ) → Keys
in_lists lists set seg = in_list (slice_index_or lists set []) seg

-- a list for each set, of segments that it has
pub record AreLists (sets : List SetBits) (lists : List (List ℕ)) : Type 0 where
  pub count : length lists ≡ length sets
  pub each : (set : ℕ) → set < length sets → AreSegments sets set (slice_index_or lists set [])
