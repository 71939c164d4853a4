-- Which place touched a segment last, and which places are outstanding.
use Rattle.std.specs.Prelude.{◌≡◌, ◌⊎◌, ℕ, ◌+◌, ◌-◌, ◌<◌, ◌≤◌, ◌==◌, Bool, true, false, ◌&&◌, ◌||◌, not, nat_le, nat_lt, if◌then◌else◌, List, [], ◌∷◌, ◌++◌, Option, None, Some, length, replicate, filter, count_by, slice_index, slice_set, All}
use Rattle.std.specs.List.{list_any}
use Rattle.avs_seg.specs.Image.{is_inside}
use Rattle.avs_seg.specs.Segment.{first_segment, touch_count}

-- of each segment the greatest place that touched it, until the segment is given as idle (else 0); the places that were added and not retired, in rising order; and how many of these there may be
pub record Places : Type 0 where
  pub greatest : List ℕ
  pub outstanding : List ℕ
  pub room : ℕ

-- no segment was touched, and no place is outstanding
abbrev pub untouched : ℕ → ℕ → Places
untouched segs room = record { greatest = replicate segs 0; outstanding = []; room = room }

abbrev pub greatest_at : Places → ℕ → ℕ
greatest_at places seg = slice_index places.greatest seg

-- one of these numbers is this one
abbrev pub is_among : List ℕ → ℕ → Bool
is_among numbers number = list_any (λ n. n == number) numbers

-- those of the places that are above this one
abbrev pub places_above : ℕ → List ℕ → List ℕ
places_above upto places = filter (λ p. nat_lt upto p) places

-- no outstanding place touches the segment: the greatest that touched it is not outstanding
abbrev pub is_idle : Places → ℕ → Bool
is_idle places seg = not (is_among places.outstanding (greatest_at places seg))

-- the segment is idle, and was not given since it was touched
abbrev pub is_left : Places → ℕ → Bool
is_left places seg = nat_lt 0 (greatest_at places seg) && is_idle places seg

-- how many segments were touched and not given
abbrev pub touched_count : Places → ℕ
touched_count places = count_by (λ place. nat_lt 0 place) places.greatest

-- the blocks touch the segment
abbrev pub is_touched : ℕ → ℕ → ℕ → Bool
is_touched at len seg = is_inside (first_segment at) (touch_count at len) seg

-- a place is above each that is outstanding and each that a segment has
pub record IsAbove (place : ℕ) (places : Places) : Type 0 where
  pub outstanding : All (λ p. p < place) places.outstanding
  pub greatest : All (λ p. p < place) places.greatest

-- a place is outstanding now, which touches these blocks
pub record Adds (old : Places) (place at len : ℕ) (new : Places) : Type 0 where
  pub outstanding : new.outstanding ≡ old.outstanding ++ place ∷ []
  pub segs : length new.greatest ≡ length old.greatest
  pub greatest : (seg : ℕ) → seg < length old.greatest
      → greatest_at new seg ≡ (if is_touched at len seg then place else greatest_at old seg)
  pub idle : (seg : ℕ) → seg < length old.greatest
      → is_idle new seg ≡ (if is_touched at len seg then false else is_idle old seg)
  pub room : new.room ≡ old.room
  pub above : (next : ℕ) → place < next → IsAbove next new

-- no place at or below this one is outstanding any more: the segments are idle now that were before, or whose greatest place it is or one below it
pub record Retires (old : Places) (upto : ℕ) (new : Places) : Type 0 where
  pub outstanding : new.outstanding ≡ places_above upto old.outstanding
  pub greatest : new.greatest ≡ old.greatest
  pub idle : (seg : ℕ) → is_idle new seg ≡ (is_idle old seg || nat_le (greatest_at old seg) upto)
  -- at most as many as there are places behind this one
  pub few : (last : ℕ) → All (λ p. p ≤ last) old.outstanding → length new.outstanding ≤ last - upto
  pub room : new.room ≡ old.room
  pub above : (next : ℕ) → IsAbove next old → IsAbove next new

-- a segment that was left is given, and has no place any more
pub record Gives (old : Places) (seg : ℕ) (new : Places) : Type 0 where
  pub inside : seg < length old.greatest
  pub left : is_left old seg ≡ true
  pub given : new ≡ record old { greatest = slice_set old.greatest seg 0 }
  pub fewer : touched_count new + 1 ≡ touched_count old

-- the same places are outstanding
pub record KeepsOutstanding (old new : Places) : Type 0 where
  pub outstanding : new.outstanding ≡ old.outstanding
  pub segs : length new.greatest ≡ length old.greatest
  pub room : new.room ≡ old.room
  pub above : (next : ℕ) → IsAbove next old → IsAbove next new

-- ---- places that are retired, and the segments that are given then

-- no segment is left to be given
pub record IsDrained (places : Places) : Type 0 where
  pub none : (seg : ℕ) → is_left places seg ≡ false

-- a place frees the segment: the greatest that touched it is not above
abbrev pub is_freed : Places → ℕ → ℕ → Bool
is_freed places upto seg = nat_lt 0 (greatest_at places seg) && nat_le (greatest_at places seg) upto

-- the places up to this one are retired, and of the segments that it frees some were given
pub record Drains (old : Places) (upto : ℕ) (new : Places) : Type 0 where
  pub outstanding : new.outstanding ≡ places_above upto old.outstanding
  pub segs : length new.greatest ≡ length old.greatest
  pub room : new.room ≡ old.room
  pub each : (seg : ℕ) → (greatest_at new seg ≡ greatest_at old seg)
      ⊎ ((is_freed old upto seg ≡ true) × (greatest_at new seg ≡ 0))

-- the places up to this one are retired, and exactly the segments that it frees were given; where no place is above it, places may begin again at 1
pub record Frees (old : Places) (upto : ℕ) (new : Places) : Type 0 where
  pub outstanding : new.outstanding ≡ places_above upto old.outstanding
  pub segs : length new.greatest ≡ length old.greatest
  pub room : new.room ≡ old.room
  pub greatest : (seg : ℕ) → greatest_at new seg ≡ (if is_freed old upto seg then 0 else greatest_at old seg)
  pub drained : IsDrained new
  pub ended : All (λ p. p ≤ upto) old.outstanding → new.outstanding ≡ []
  pub reset : All (λ p. p ≤ upto) old.outstanding → IsAbove 1 new

-- what an answer is, where a place was retired behind drained places: one more of the segments that it frees is given, or all were
abbrev pub GoesOnDraining : Places → ℕ → Places → Option ℕ → Places → Type 0
GoesOnDraining start upto old None new = Frees start upto new
GoesOnDraining start upto old (Some seg) new = Drains start upto new × (is_freed start upto seg ≡ true) × (greatest_at old seg ≡ greatest_at start seg)
