-- What contracts see of that which writes go to, and what its calls make of that.
use Rattle.std.specs.Prelude.{◌≡◌, ◌≢◌, ◌⊎◌, ℕ, ◌*◌, ◌/◌, ◌+◌, ◌<◌, ◌≤◌, Bool, IsTrue, List, [], length, Option, Some, is_some, Result, OnOk, OnErr, IsOk, slice_set, slice_index, slice_index_or}
use Rattle.avs_seg.specs.Image.{Image, put, range, blocks_of, IsMix, ChangesWithin}
use Rattle.avs_dev.specs.Devices.{HasOneCause, UsesOneTear}

-- volumes in order, each with its blocks ([] where they are not told) and its size; the note that is answered, and the one
-- that lies on a disk, where that is told; of each device how often it has failed, and whether a tear is armed on it; and
-- whether every device fails only where a tear is armed
pub record BelowSeen : Type 0 where
  pub images : List Image
  pub sizes : List ℕ
  pub note : List ℕ
  pub stored : Option (List ℕ)
  pub faults : List ℕ
  pub armed : List Bool
  pub steady : Bool

-- the blocks of a volume
abbrev pub image_of : BelowSeen → ℕ → Image
image_of s vol = slice_index_or s.images vol []

-- how many blocks it has
abbrev pub size_of : BelowSeen → ℕ → ℕ
size_of s vol = slice_index s.sizes vol

-- what is in its blocks is told
abbrev pub IsToldAt : BelowSeen → ℕ → Type 0
IsToldAt s vol = length (image_of s vol) ≡ size_of s vol

-- the note on the disk is told
abbrev pub IsNoteTold : BelowSeen → Type 0
IsNoteTold s = IsTrue (is_some s.stored)

-- the note on the disk, where it is told, is the one that is answered
abbrev pub IsNoteInStep : BelowSeen → Type 0
IsNoteInStep s = IsNoteTold s → s.stored ≡ Some s.note

-- there are so many volumes, each with an image and a size
pub record Counts (s : BelowSeen) (count : ℕ) : Type 0 where
  pub images : count ≡ length s.images
  pub sizes : count ≡ length s.sizes

-- so many bytes are whole blocks, one or more, and lie inside a volume from its block `at` on
pub record IsRangeOf (s : BelowSeen) (vol at len : ℕ) : Type 0 where
  pub there : vol < length s.sizes
  pub some : 0 < len
  pub whole : 512 * (len / 512) ≡ len
  pub inside : at + len / 512 ≤ size_of s vol

-- a read changes nothing but the faults, and at Ok it gives the blocks of the volume, where it was sound
pub record ReadsBelow {T E : Type 0} (sound : Type 0) (old : BelowSeen) (vol at : ℕ) (out : List ℕ) (result : Result T E) (new : BelowSeen) : Type 0 where
  pub kept : new ≡ record old { faults = new.faults }
  pub images : new.images ≡ old.images
  pub sizes : new.sizes ≡ old.sizes
  pub cause : HasOneCause old.faults new.faults result
  pub told : (any : ℕ) → IsToldAt old any → IsToldAt new any
  pub shows : sound → IsToldAt old vol → OnOk result (blocks_of out ≡ range (image_of old vol) at (length out / 512))
  pub sure : IsTrue old.steady → IsOk result

-- where it was sound, a write that answers Ok is a put, and one that fails leaves each block of its range old or new; the
-- other volumes and the note stay
pub record WritesBelow {T E : Type 0} (sound : Type 0) (old : BelowSeen) (vol at : ℕ) (bytes : List ℕ) (result : Result T E) (new : BelowSeen) : Type 0 where
  pub others : new.images ≡ slice_set old.images vol (image_of new vol)
  pub sizes : new.sizes ≡ old.sizes
  pub note : new.note ≡ old.note
  pub stored : new.stored ≡ old.stored
  pub steady : new.steady ≡ old.steady
  pub cause : HasOneCause old.faults new.faults result
  pub done : sound → IsToldAt old vol → OnOk result (image_of new vol ≡ put (image_of old vol) at (blocks_of bytes))
  pub failed : sound → IsToldAt old vol → OnErr result (IsMix (image_of old vol) at (blocks_of bytes) (image_of new vol))
  pub within : sound → IsToldAt old vol → ChangesWithin at (length bytes / 512) (image_of old vol) (image_of new vol)
  pub told : (any : ℕ) → IsToldAt old any → IsToldAt new any
  pub kept : (other : ℕ) → other ≢ vol → image_of new other ≡ image_of old other
  pub still_armed : OnOk result (new.armed ≡ old.armed)
  pub spent : IsTrue old.steady → OnErr result (UsesOneTear old.armed new.armed)

-- the note is set, and where that fails the one that is answered and the one on the disk are each the old or the new one;
-- all volumes stay, where it was sound
pub record SetsNote {T E : Type 0} (sound : Type 0) (old : BelowSeen) (bytes : List ℕ) (result : Result T E) (new : BelowSeen) : Type 0 where
  pub images : sound → new.images ≡ old.images
  pub sizes : new.sizes ≡ old.sizes
  pub steady : new.steady ≡ old.steady
  pub cause : HasOneCause old.faults new.faults result
  pub done : OnOk result (new.note ≡ bytes)
  pub failed : OnErr result ((new.note ≡ old.note) ⊎ (new.note ≡ bytes))
  pub stored : IsNoteTold old → OnOk result (new.stored ≡ Some bytes)
  pub left : IsNoteTold old → OnErr result ((new.stored ≡ old.stored) ⊎ (new.stored ≡ Some bytes))
  pub told : IsNoteTold old → IsNoteTold new
  pub still_armed : OnOk result (new.armed ≡ old.armed)
  pub spent : IsTrue old.steady → OnErr result (UsesOneTear old.armed new.armed)
