-- A receiver over volumes of known sizes, and what an errand may do below it.
use Rattle.std.specs.Prelude.{◌≡◌, ◌≢◌, ◌⊎◌, ℕ, ◌+◌, ◌-◌, ◌/◌, ◌<◌, ◌≤◌, Bool, true, List, [], ◌∷◌, length, Some, slice_index}
use Rattle.avs_seg.specs.Image.{ChangesWithin}
use Rattle.avs_seg.specs.Segment.{seg_count}
use Rattle.avs_dev.specs.Below.{BelowSeen, IsNoteTold, IsToldAt, image_of, size_of}
use Rattle.avs_sync.specs.Parts.{MirrorSet}
use Rattle.avs_halves.specs.Found.{part_at}
use Rattle.avs_halves.specs.Marks.{Mark}
use Rattle.avs_halves.specs.SetBits.{set_at}
use Rattle.avs_receiver.specs.Held.{ReceiverHeld}

-- the volume that is of no set
abbrev pub spare : ℕ
spare = 1

-- sets over these volumes of these sizes, each over its own, by the volume of each, and none over the spare one
pub record LieOver (sizes vols : List ℕ) (below : BelowSeen) (vol : ℕ → ℕ) : Type 0 where
  pub there : (set : ℕ) → set < length sizes → vol set < length below.sizes
  pub size : (set : ℕ) → set < length sizes → size_of below (vol set) ≡ slice_index sizes set
  pub is : (set : ℕ) → set < length sizes → vol set ≡ slice_index vols set
  pub own : (set other : ℕ) → set < length sizes → other < length sizes → vol other ≡ vol set → other ≡ set
  pub apart : (set : ℕ) → set < length sizes → vol set ≢ spare

-- those of a receiver, so many
pub record IsSized (sizes vols : List ℕ) (h : ReceiverHeld) : Type 0 where
  pub count : length h.half.sets ≡ length sizes
  pub over : LieOver sizes vols h.below (λ set. (set_at h.half.sets set).vol)
  pub segs : (set : ℕ) → set < length sizes → (set_at h.half.sets set).bits.segs ≡ seg_count (slice_index sizes set)

-- those that one is loaded from
pub record ArePartsSized (sizes vols : List ℕ) (below : BelowSeen) (parts : List MirrorSet) : Type 0 where
  pub count : length parts ≡ length sizes
  pub over : LieOver sizes vols below (λ set. (part_at parts set).vol)

-- nothing has changed but the spare volume, and faults
pub record SparesSets (old new : BelowSeen) : Type 0 where
  pub sizes : new.sizes ≡ old.sizes
  pub note : new.note ≡ old.note
  pub stored : new.stored ≡ old.stored
  pub images : (vol : ℕ) → vol ≢ spare → image_of new vol ≡ image_of old vol

-- all is as it was. Where it failed, the note that is answered may be any
pub record IsLeft (ok : Bool) (old new : BelowSeen) : Type 0 where
  pub note : ok ≡ true → new.note ≡ old.note
  pub stored : new.stored ≡ old.stored
  pub images : new.images ≡ old.images

-- the note is the given one, and of the volumes so many blocks of one may be others
pub record IsPut (vol at count : ℕ) (given : List ℕ) (ok : Bool) (old new : BelowSeen) : Type 0 where
  pub note : ok ≡ true → new.note ≡ given
  pub stored : IsNoteTold old → new.stored ≡ Some given
  pub within : IsToldAt old vol → ChangesWithin at count (image_of old vol) (image_of new vol)
  pub others : (other : ℕ) → other ≢ vol → image_of new other ≡ image_of old other

-- one of the two
pub record LeavesOrPuts (vol at count : ℕ) (given : List ℕ) (ok : Bool) (old new : BelowSeen) : Type 0 where
  pub sizes : new.sizes ≡ old.sizes
  pub either : IsLeft ok old new ⊎ IsPut vol at count given ok old new

-- the segments of the first and of the last block of a range, as marks of a set
abbrev pub ends : ℕ → ℕ → ℕ → List Mark
ends set at count = (set, (at / 64) ∷ ((at + count - 1) / 64) ∷ []) ∷ []

-- three volumes: the second set's, the spare one, and the first set's
pub record AreThree (larger smaller : ℕ) (below : BelowSeen) : Type 0 where
  pub count : length below.sizes ≡ 3
  pub first_size : size_of below 2 ≡ larger
  pub second_size : size_of below 0 ≡ smaller

-- two sets, in order, over the last of these and over the first
pub record AreTwo (parts : List MirrorSet) : Type 0 where
  pub count : length parts ≡ 2
  pub first_vol : (part_at parts 0).vol ≡ 2
  pub second_vol : (part_at parts 1).vol ≡ 0
  pub first_slot : (part_at parts 0).slot ≡ 3
  pub second_slot : (part_at parts 1).slot ≡ 0

-- one volume, and one set over it
pub record IsOne (size : ℕ) (below : BelowSeen) : Type 0 where
  pub count : length below.sizes ≡ 1
  pub size_is : size_of below 0 ≡ size

pub record AreOne (parts : List MirrorSet) : Type 0 where
  pub count : length parts ≡ 1
  pub vol : (part_at parts 0).vol ≡ 0
  pub slot : (part_at parts 0).slot ≡ 0

-- so many blocks of a set's volume
pub record LieIn (sizes : List ℕ) (set at blocks : ℕ) : Type 0 where
  pub there : set < length sizes
  pub inside : at + blocks ≤ slice_index sizes set
