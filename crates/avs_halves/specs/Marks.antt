-- Sets that are named, each with segments of it whose bits are set before it is restored.
use Rattle.std.specs.Prelude.{◌≡◌, ◌≢◌, ℕ, ◌<◌, ◌==◌, ◌&&◌, true, List, [], ◌∷◌, length, map, All}
use Rattle.std.specs.Int.{bit_at}
use Rattle.std.specs.List.{list_any}
use Rattle.avs_mirrors.specs.Due.{Segments, Keys}
use Rattle.avs_mirrors.specs.Entries.{Images}
use Rattle.avs_mirrors.specs.Events.{Restored}
use Rattle.avs_mirrors.specs.Half.{HalfState, Sets, with_change}
use Rattle.avs_halves.specs.SetBits.{SetBits, set_at}
use Rattle.avs_halves.specs.Found.{is_filled}

-- ---- segments in lists

abbrev pub in_list : List ℕ → Segments
in_list list seg = list_any (λ n. n == seg) list

-- the set has these segments
abbrev pub AreSegments : List SetBits → ℕ → List ℕ → Type 0
AreSegments sets set list = All (λ seg. seg < (set_at sets set).bits.segs) list

-- ---- sets with segments

abbrev pub Mark : Type 0
Mark = ℕ × List ℕ

-- the segments that are marked, and the sets that are named
abbrev pub marked : List Mark → Keys
marked marks set seg = list_any (λ m. set == m.0 && in_list m.1 seg) marks

abbrev pub named : List Mark → Sets
named marks set = list_any (λ m. set == m.0) marks

-- the set is there, and has the segments
pub record IsMark (sets : List SetBits) (m : Mark) : Type 0 where
  pub there : m.0 < length sets
  pub segs : AreSegments sets m.0 m.1

pub record AreMarks (sets : List SetBits) (marks : List Mark) : Type 0 where
  pub each : All (IsMark sets) marks

-- ---- the named sets have contents

-- a slot is that of no named set
abbrev pub IsUnnamed : List SetBits → List Mark → ℕ → Type 0
IsUnnamed sets marks slot = (set : ℕ) → named marks set ≡ true → (set_at sets set).slot ≢ slot

-- they have contents by the slots of a note, and all other slots are as they were
pub record AreNamedFilled (sets : List SetBits) (marks : List Mark) (old new : ℕ) : Type 0 where
  pub sets_are : (set : ℕ) → named marks set ≡ true → is_filled new (set_at sets set).slot ≡ true
  pub others : (slot : ℕ) → slot < 16 → IsUnnamed sets marks slot → bit_at new slot ≡ bit_at old slot

-- they have these images
abbrev pub restored_in : List Mark → Images → List Restored
restored_in marks images = map (λ m. (m.0, images m.0)) marks

-- a half whose sets have other images and contents, one after another
abbrev pub changed_all : HalfState → List Restored → HalfState
changed_all h [] = h
changed_all h (r ∷ rs) = changed_all (with_change h r.0 r.1) rs
