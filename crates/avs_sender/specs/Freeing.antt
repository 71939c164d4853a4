-- Segments that a known place frees: their bits are cleared.
use Rattle.std.specs.Prelude.{◌≡◌, ℕ, ◌-◌, ◌<◌, ◌≤◌, ◌==◌, ◌&&◌, not, nat_lt, Bool, false, List, length, slice_index_or, Ok, All}
use Rattle.avs_refs.specs.Places.{IsAbove, IsDrained, Drains, Frees, greatest_at, is_freed}
use Rattle.avs_mirrors.specs.Due.{Segments, Keys}
use Rattle.avs_halves.specs.SetBits.{SetBits}
use Rattle.avs_halves.specs.Changing.{ChangesSets, keys_of}
use Rattle.avs_sender.specs.Held.{SetPlaces}
use Rattle.avs_sender.specs.Meaning.{no_places}
use Rattle.avs_sender.specs.Waits.{waits_at}

-- the places of a set's segments, among those of all sets
abbrev pub set_places_at : List SetPlaces → ℕ → SetPlaces
set_places_at places set = slice_index_or places set no_places

-- a known place frees a segment: the greatest that touched it is not above, and while segments are copied it does not wait
abbrev pub freed_segs : Bool → SetPlaces → ℕ → Segments
freed_segs copying p upto seg = is_freed p.touched upto seg && not (copying && waits_at p.waiting seg)

abbrev pub freed_keys : Bool → List SetPlaces → ℕ → Keys
freed_keys copying places upto set = freed_segs copying (set_places_at places set) upto

-- each segment of a set has a place and may wait, and none is left to be given
pub record CanFree (m : SetBits) (p : SetPlaces) : Type 0 where
  pub segs : length p.touched.greatest ≡ m.bits.segs
  pub waiting : length p.waiting ≡ m.bits.segs
  pub drained : IsDrained p.touched

-- as many segments have places, as many places may be outstanding, and the same segments wait
pub record SizedAs (old new : SetPlaces) : Type 0 where
  pub segs : length new.touched.greatest ≡ length old.touched.greatest
  pub room : new.touched.room ≡ old.touched.room
  pub waiting : new.waiting ≡ old.waiting

-- the places up to this one are retired, and the segments that it frees have none
pub record FreesPlaces (old : SetPlaces) (upto : ℕ) (new : SetPlaces) : Type 0 where
  pub touched : Frees old.touched upto new.touched
  pub waiting : new.waiting ≡ old.waiting
  pub above : (next : ℕ) → IsAbove next old.touched → IsAbove next new.touched
  pub few : (last : ℕ) → All (λ p. p ≤ last) old.touched.outstanding → length new.touched.outstanding ≤ last - upto

-- of one set: of the segments that the place frees those that were given so far have no bit
abbrev pub given_segs : Bool → SetPlaces → SetPlaces → ℕ → Segments
given_segs copying old new upto seg = freed_segs copying old upto seg && greatest_at new.touched seg == 0

pub record FreesSoFar (set : ℕ) (copying : Bool) (old : List SetBits) (was : SetPlaces) (upto : ℕ) (new : List SetBits) (now : SetPlaces) : Type 0 where
  pub bits : ChangesSets {T = Unit {0}} {E = Unit {0}} (keys_of set (given_segs copying was now upto)) false old (Ok tt) new
  pub drains : Drains was.touched upto now.touched
  pub waiting : now.waiting ≡ was.waiting
  pub above : (next : ℕ) → IsAbove next was.touched → IsAbove next now.touched
  pub few : (last : ℕ) → All (λ p. p ≤ last) was.touched.outstanding → length now.touched.outstanding ≤ last - upto

-- of all sets
pub record FreesEach (old : List SetPlaces) (upto : ℕ) (new : List SetPlaces) : Type 0 where
  pub each : (set : ℕ) → set < length old → FreesPlaces (set_places_at old set) upto (set_places_at new set)

pub record AreSizedAs (old new : List SetPlaces) : Type 0 where
  pub count : length new ≡ length old
  pub each : (set : ℕ) → SizedAs (set_places_at old set) (set_places_at new set)

-- of the sets before this one
pub record FreesBelow (copying : Bool) (old : List SetBits) (was : List SetPlaces) (upto set : ℕ) (new : List SetBits) (now : List SetPlaces) : Type 0 where
  pub bits : ChangesSets {T = Unit {0}} {E = Unit {0}} (λ t seg. nat_lt t set && freed_keys copying was upto t seg) false old (Ok tt) new
  pub count : length now ≡ length was
  pub below : (t : ℕ) → t < set → FreesPlaces (set_places_at was t) upto (set_places_at now t)
  pub above : (t : ℕ) → set ≤ t → set_places_at now t ≡ set_places_at was t
