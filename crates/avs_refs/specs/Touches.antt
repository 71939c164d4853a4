-- The outstanding places with their segments.
use Rattle.std.specs.Prelude.{◌≡◌, ℕ, ◌+◌, ◌<◌, ◌≤◌, Bool, true, false, nat_lt, List, [], ◌∷◌, length, map, slice_index, All}
use Rattle.std.specs.List.Sorted.{IsStrictlyIncreasing}
use Rattle.avs_seg.specs.Image.{is_inside}
use Rattle.avs_refs.specs.declared.touch.Touch.{Touch}
use Rattle.avs_refs.specs.Places.{is_among}
use Rattle.avs_refs.specs.Listed.{has_at}

-- their places
abbrev pub places_of : List Touch → List ℕ
places_of touches = map (λ touch. touch.place) touches

-- a number is below the first of these, or there are none
abbrev pub is_behind : List ℕ → ℕ → Bool
is_behind [] number = true
is_behind (first ∷ rest) number = nat_lt number first

-- a place touches a segment
abbrev pub is_touched_by : Touch → ℕ → Bool
is_touched_by touch seg = is_inside touch.first touch.count seg

-- the greatest places of the segments, the outstanding ones, and the segments that are listed fit together
pub record IsConsistent (greatest : List ℕ) (touches : List Touch) (has : List Bool) : Type 0 where
  pub rising : IsStrictlyIncreasing (places_of touches)
  pub positive : All (λ place. 0 < place) (places_of touches)
  pub inside : All (λ touch. touch.first + touch.count ≤ length greatest) touches
  -- a segment whose greatest place is outstanding is touched by it
  pub own : All (λ touch. (seg : ℕ) → slice_index greatest seg ≡ touch.place → is_touched_by touch seg ≡ true) touches
  -- a segment's place that is not below the outstanding ones is one of them
  pub behind : (seg place : ℕ) → is_among (places_of touches) place ≡ true → place ≤ slice_index greatest seg
      → is_among (places_of touches) (slice_index greatest seg) ≡ true
  -- a segment that is left is listed
  pub listed : (seg : ℕ) → 0 < slice_index greatest seg
      → is_among (places_of touches) (slice_index greatest seg) ≡ false → has_at has seg ≡ true
  pub segs : length has ≡ length greatest
