-- What each call on the shelf makes of the places of the disks.
use Rattle.std.specs.Prelude.{◌≡◌, ℕ, Bool, false, if◌then◌else◌, Option, None, Some, List, Result, slice_get, slice_set, slice_index_or}
use Rattle.avs_dev.specs.Seen.{Seen, IsRange, Reads, Writes, Arms}
use Rattle.avs_dev.specs.declared.disk.Tear.{Tear}
use Rattle.avs_world.specs.declared.place.Place.{Place}
use Rattle.avs_world.specs.declared.place.Place.TheVariants.{Here, Spent, Lent}
use Rattle.avs_world.specs.Ranges.{disk_here}

-- a place, with another disk there
abbrev pub with_disk : Place Seen → Seen → Place Seen
with_disk (Here d) new = Here new
with_disk (Spent d) new = Spent new
with_disk Lent new = Lent

-- the places, of which one has another disk
abbrev pub places_with : List (Place Seen) → ℕ → Seen → List (Place Seen)
places_with places place disk = slice_set places place (with_disk (slice_index_or places place Lent) disk)

-- a disk is there, and has the range
pub record HasRange (places : List (Place Seen)) (place at len : ℕ) : Type 0 where
  pub disk : Seen
  pub here : disk_here (slice_get places place) ≡ Some disk
  pub range : IsRange disk at len

-- the disk at a place is read, and is written
pub record ReadsPlace {T E : Type 0} (old : List (Place Seen)) (place at : ℕ) (out : List ℕ) (result : Result T E) (new : List (Place Seen)) : Type 0 where
  pub disk : Seen
  pub disk_new : Seen
  pub here : disk_here (slice_get old place) ≡ Some disk
  pub reads : Reads disk at out result disk_new
  pub is : new ≡ places_with old place disk_new

pub record WritesPlace {T E : Type 0} (old : List (Place Seen)) (place at : ℕ) (bytes : List ℕ) (result : Result T E) (new : List (Place Seen)) : Type 0 where
  pub disk : Seen
  pub disk_new : Seen
  pub here : disk_here (slice_get old place) ≡ Some disk
  pub writes : Writes disk at bytes result disk_new
  pub is : new ≡ places_with old place disk_new

-- this tear is armed on the disk at a place, where it is here; else nothing changes
abbrev pub ArmsPlace : Option Seen → List (Place Seen) → ℕ → Tear → Bool → List (Place Seen) → Type 0
ArmsPlace None old place tear result new = (result ≡ false) × (new ≡ old)
ArmsPlace (Some disk) old place tear result new = (disk_new : Seen) × (Arms disk tear result disk_new) × (new ≡ places_with old place disk_new)

-- a volume whose disk is here, by whether its contents are gone
abbrev pub place_of : Bool → Seen → Place Seen
place_of spent disk = if spent then Spent disk else Here disk

-- a disk is lent
pub record Lends (old : List (Place Seen)) (place : ℕ) (disk : Seen) (spent : Bool) (new : List (Place Seen)) : Type 0 where
  pub was : slice_get old place ≡ Some (place_of spent disk)
  pub is : new ≡ slice_set old place Lent

-- it is not here, and all stays
pub record LendsNone (old : List (Place Seen)) (place : ℕ) (new : List (Place Seen)) : Type 0 where
  pub none : disk_here (slice_get old place) ≡ None
  pub same : new ≡ old
