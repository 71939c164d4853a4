-- Places of the segments of new sets.
use Rattle.std.specs.Prelude.{◌≡◌, ℕ, ◌<◌, false, List, length, replicate, map, slice_index_or}
use Rattle.avs_refs.specs.Places.{untouched}
use Rattle.avs_halves.specs.SetBits.{SetBits, set_at, has_bit}
use Rattle.avs_sender.specs.Held.{SetPlaces}
use Rattle.avs_sender.specs.Meaning.{no_places}

-- no segment of so many is touched, and none waits
abbrev pub no_places_for : ℕ → ℕ → SetPlaces
no_places_for places segs = record { touched = untouched segs places; waiting = replicate segs false }

-- those of each set
abbrev pub places_for : ℕ → List SetBits → List SetPlaces
places_for places sets = map (λ s. no_places_for places s.bits.segs) sets

-- those of a set among them
abbrev pub places_in : List SetPlaces → ℕ → SetPlaces
places_in places set = slice_index_or places set no_places

-- no segment of the sets waits
pub record NoneWaits (sets : List SetBits) (places : List SetPlaces) : Type 0 where
  pub count : length places ≡ length sets
  pub each : (set : ℕ) → set < length sets → (places_in places set).waiting ≡ replicate (set_at sets set).bits.segs false

-- each segment with a bit waits to be copied, and no other; which was touched last is as it was
pub record WaitsForBits (sets : List SetBits) (old new : List SetPlaces) : Type 0 where
  pub count : length new ≡ length old
  pub touched : (set : ℕ) → (places_in new set).touched ≡ (places_in old set).touched
  pub segs : (set : ℕ) → length (places_in new set).waiting ≡ length (places_in old set).waiting
  pub waits : (set seg : ℕ) → set < length sets → slice_index_or (places_in new set).waiting seg false ≡ has_bit (set_at sets set) seg
