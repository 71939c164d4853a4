-- Sets of a half are given other images by an errand of the layer above: what it is given, and what it may make of what lies below.
use Rattle.std.specs.Prelude.{◌≡◌, ◌⊎◌, ℕ, ◌/◌, ◌<◌, Bool, true, false, List, length, Some}
use Rattle.avs_seg.specs.Image.{block_at}
use Rattle.avs_dev.specs.Below.{BelowSeen, IsNoteTold, IsToldAt, image_of, size_of}
use Rattle.avs_mirrors.specs.Accepts.{AcceptsRestore}
use Rattle.avs_mirrors.specs.Due.{Segments}
use Rattle.avs_mirrors.specs.Entries.{Images}
use Rattle.avs_mirrors.specs.Half.{HalfState, with_bits}
use Rattle.avs_sync.specs.Note.{IsNote}
use Rattle.avs_sync.specs.declared.note.Note.{Note}
use Rattle.avs_halves.specs.Marks.{AreNamedFilled, Mark, changed_all, marked, named, restored_in}
use Rattle.avs_halves.specs.SetBits.{SetBits, set_at}

-- ---- the note that the errand is given

-- it differs from that of the half in its slots alone: by these the named sets have contents
pub record IsRestoringNote (sets : List SetBits) (old : Note) (marks : List Mark) (n : Note) : Type 0 where
  pub is : n ≡ record old { empty = n.empty }
  pub filled : AreNamedFilled sets marks old.empty n.empty

pub record IsGiven (sets : List SetBits) (old : Note) (marks : List Mark) (bytes : List ℕ) : Type 0 where
  pub note : Note
  pub stands : IsNote bytes note
  pub restoring : IsRestoringNote sets old marks note

-- it ran once, with that note; `ran` is the errand's own relation
pub record RanWith (ran : List ℕ → Type 0) (sets : List SetBits) (old : Note) (marks : List Mark) : Type 0 where
  pub bytes : List ℕ
  pub given : IsGiven sets old marks bytes
  pub run : ran bytes

-- ---- what the errand may make of what lies below

-- a volume is as it was
pub record KeepsVolume (old new : BelowSeen) (vol : ℕ) : Type 0 where
  pub there : vol < length new.sizes
  pub size : size_of new vol ≡ size_of old vol
  pub image : image_of new vol ≡ image_of old vol

-- a volume is as large, and has other blocks in these segments alone
pub record ChangesVolume (keys : Segments) (old new : BelowSeen) (vol : ℕ) : Type 0 where
  pub there : vol < length new.sizes
  pub size : size_of new vol ≡ size_of old vol
  pub told : IsToldAt old vol → IsToldAt new vol
  pub outside : IsToldAt old vol → (i : ℕ) → keys (i / 64) ≡ false
      → block_at (image_of new vol) i ≡ block_at (image_of old vol) i

-- the volumes of the sets and the note are as they were. Where it failed, the note that is answered may be any
pub record LeavesAll (sets : List SetBits) (ok : Bool) (old new : BelowSeen) : Type 0 where
  pub note : ok ≡ true → new.note ≡ old.note
  pub stored : new.stored ≡ old.stored
  pub each : (set : ℕ) → set < length sets → KeepsVolume old new (set_at sets set).vol

-- the named sets have other images, those of the others are as they were, and the note is as given
pub record RestoresAll (sets : List SetBits) (marks : List Mark) (bytes : List ℕ) (ok : Bool) (old new : BelowSeen) : Type 0 where
  pub note : ok ≡ true → new.note ≡ bytes
  pub stored : IsNoteTold old → new.stored ≡ Some bytes
  pub changed : (set : ℕ) → named marks set ≡ true → ChangesVolume (marked marks set) old new (set_at sets set).vol
  pub others : (set : ℕ) → set < length sets → named marks set ≡ false → KeepsVolume old new (set_at sets set).vol

-- one of the two
abbrev pub RestoresOrLeaves : List SetBits → List Mark → List ℕ → Bool → BelowSeen → BelowSeen → Type 0
RestoresOrLeaves sets marks bytes ok old new = LeavesAll sets ok old new ⊎ RestoresAll sets marks bytes ok old new

-- ---- what the half is then

-- a half with these bits, whose named sets have other images, inside the marked segments, and contents
pub record IsRestoredTo (is : HalfState → Type 0) (x : HalfState) (marks : List Mark) : Type 0 where
  pub images : Images
  pub accepts : AcceptsRestore x (marked marks) (restored_in marks images)
  pub so : is (changed_all (with_bits x (marked marks)) (restored_in marks images))
