-- How a receiver is found on its parts, and why it is not.
use Rattle.std.specs.Prelude.{◌≡◌, ◌⊎◌, ℕ, ◌<◌, ◌≤◌, if◌then◌else◌, All, Bool, true, false, not, IsTrue, slice_get, List, length, Some, Result, Ok, Err}
use Rattle.avs_dev.specs.Seen.{Seen, IsTold}
use Rattle.avs_dev.specs.Below.{BelowSeen, IsToldAt}
use Rattle.avs_dev.specs.declared.back.Why.{Why}
use Rattle.avs_dev.specs.declared.back.Why.TheVariants.{BadRecord, NoMemory, Fault}
use Rattle.avs_code.specs.Rules.{first_broken}
use Rattle.avs_code.specs.declared.land_headers.LandHeader.{LandHeader}
use Rattle.avs_mirrors.specs.Half.{HalfState}
use Rattle.avs_sync.specs.Note.{IsNote, note_rules}
use Rattle.avs_sync.specs.declared.note.Note.{Note}
use Rattle.avs_halves.specs.SetBits.{SetBits}
use Rattle.avs_halves.specs.Found.{part_at}
use Rattle.avs_halves.specs.Loading.{IsOpenable, LoadsSets, SetsRefused, between, half_why}
use Rattle.avs_land.specs.Landed.{landing_blocks}
use Rattle.avs_land.specs.Landing.{Landing, LandingLoadRefused, LoadsLanding}
use Rattle.avs_land.specs.Redo.{IsRoom}
use Rattle.avs_receiver.specs.Held.{ReceiverHalf, ReceiverHeld, ReceiverParts, parts_of}
use Rattle.avs_receiver.specs.Meaning.{Finds, IsReceiverInStep, StandsFor, is_of, vols_of}
use Rattle.avs_receiver.specs.CatchingUp.{FindsAgain, IsToRedo, RestCaught, SettleRefused, mark_caught}
use Rattle.avs_receiver.specs.Going.{NoneFailed, OneFailed, ReceiverStays, SessionStays}

-- what lies below is sound, its note is the one on its disk, and the disks tell their blocks
pub record AreToldParts (is_sound : Type 0) (p : ReceiverParts) : Type 0 where
  pub sound : is_sound
  pub stored : p.below.stored ≡ Some p.below.note
  pub volumes : (set : ℕ) → set < length p.sets → IsToldAt p.below (part_at p.sets set).vol
  pub bits : (set : ℕ) → IsTold (part_at p.sets set).bits
  pub land : IsTold p.land

-- ---- it is found, and nothing is done yet

-- the note below breaks a rule, the first of that field
pub record IsNoNote (bytes : List ℕ) (why : Why) : Type 0 where
  pub field : ℕ
  pub answer : why ≡ BadRecord field
  pub broken : first_broken (note_rules bytes) ≡ Some field
  pub none : (n : Note) → IsNote bytes n → ⊥

abbrev pub FindsNote : List ℕ → Result Note Why → Type 0
FindsNote bytes (Ok n) = IsNote bytes n
FindsNote bytes (Err why) = IsNoNote bytes why

-- the last applied place, by what has landed of the session of a note
abbrev pub applied_on : Note → LandHeader → ℕ
applied_on n l = if is_of n l then l.place else 0

-- a half of these parts with its sets, its note and what has landed
abbrev pub half_opened : ReceiverParts → List SetBits → Note → Landing → ReceiverHalf
half_opened p sets n land = record { host = p.host; sets = sets; queue = p.queue; land = land; note = n; applied = applied_on n land.header }

-- its note, its bits and its landing volume as they lie on the parts, and by these the last applied place
pub record OpensReceiver (p : ReceiverParts) (new : ReceiverHeld) : Type 0 where
  pub parts_are : parts_of new ≡ p
  pub note : IsNote p.below.note new.half.note
  pub sets : LoadsSets p.below.sizes p.sets new.half.sets
  pub landing : LoadsLanding p.land new.half.land
  pub place : new.half.applied ≡ applied_on new.half.note new.half.land.header

-- the note is one, and the bits of a set were not found
pub record AreBadSets (p : ReceiverParts) (why : Why) (back : ReceiverParts) : Type 0 where
  pub refused : SetsRefused p.below.sizes p.sets why back.sets
  pub kept : back ≡ record p { sets = back.sets }

-- what has landed was not found
pub record IsNoLandingBehind (p : ReceiverParts) (why : Why) (back : ReceiverParts) : Type 0 where
  pub cause : Why
  pub told : why ≡ half_why cause
  pub refused : LandingLoadRefused p.land cause back.land
  pub kept : back ≡ record p { land = back.land }

-- the bits of all sets were found, and what has landed was not
pub record IsNoLandingFound (p : ReceiverParts) (why : Why) (back : ReceiverParts) : Type 0 where
  pub sets : All (IsOpenable p.below.sizes) p.sets
  pub behind : IsNoLandingBehind p why back

-- what was found is left as it is, and taken apart
pub record LeavesFound (sound : Type 0) (first : ReceiverHeld) (why : Why) (back : ReceiverParts) : Type 0 where
  pub last : ReceiverHeld
  pub refused : SettleRefused sound first why last
  pub left : parts_of last ≡ back

-- ---- a load

-- it has left, with what had landed of its session done, and is in step
pub record Loads (sound sound_new : Type 0) (p : ReceiverParts) (new : ReceiverHeld) : Type 0 where
  pub first : ReceiverHeld
  pub opens : OpensReceiver p first
  pub room : IsToRedo first.half → IsRoom first.half.land.header (vols_of first.half.sets) first.below
  pub stays : ReceiverStays sound first new
  pub spared : NoneFailed first new
  pub session : SessionStays first.half new.half first.half.applied (mark_caught first.half)
  pub means : AreToldParts sound p → (x : HalfState) → Finds p x → StandsFor new x
  pub step : AreToldParts sound p → (x : HalfState) → Finds p x → IsReceiverInStep sound_new new

-- the note breaks a rule
pub record IsBadNote (p : ReceiverParts) (why : Why) (back : ReceiverParts) : Type 0 where
  pub bad : IsNoNote p.below.note why
  pub kept : back ≡ p

-- the note is one, and the bits of a set or what has landed were not found
pub record IsUnopened (p : ReceiverParts) (why : Why) (back : ReceiverParts) : Type 0 where
  pub note : Note
  pub is : IsNote p.below.note note
  pub refused : AreBadSets p why back ⊎ IsNoLandingFound p why back

-- what has landed is to be done once more, and its set or its range is not there
pub record IsLandedElsewhere (p : ReceiverParts) (why : Why) (back : ReceiverParts) : Type 0 where
  pub first : ReceiverHeld
  pub opens : OpensReceiver p first
  pub answer : why ≡ BadRecord between
  pub redone : IsToRedo first.half
  pub none : IsRoom first.half.land.header (vols_of first.half.sets) first.below → ⊥
  pub kept : back ≡ p

-- there was no memory
pub record HasNoMemory (p : ReceiverParts) (why : Why) (back : ReceiverParts) : Type 0 where
  pub answer : why ≡ NoMemory
  pub kept : back ≡ p

-- it was found, and then a device failed: a load of the parts finds the same half again
pub record IsLoadStopped (sound : Type 0) (p : ReceiverParts) (why : Why) (back : ReceiverParts) : Type 0 where
  pub first : ReceiverHeld
  pub last : ReceiverHeld
  pub opens : OpensReceiver p first
  pub answer : why ≡ Fault
  pub stays : ReceiverStays sound first last
  pub failed : OneFailed first last
  pub left : parts_of last ≡ back
  pub again : AreToldParts sound p → FindsAgain p back

-- of what is kept besides below: it is found, and one write of what has landed came to it, or none
pub record RestLoaded {R : Type 0} (wrote : R → ℕ → ℕ → List ℕ → Bool → R → Type 0) (rest : R) (p : ReceiverParts) (ok : Bool) (new : R) : Type 0 where
  pub first : ReceiverHeld
  pub opens : OpensReceiver p first
  pub caught : RestCaught wrote rest first ok new

-- and where it is refused, also where nothing was found
abbrev pub RestBack : {R : Type 0} → (R → ℕ → ℕ → List ℕ → Bool → R → Type 0) → R → ReceiverParts → R → Type 0
RestBack wrote rest p new = (new ≡ rest) ⊎ RestLoaded wrote rest p false new

abbrev pub LoadRefused : Type 0 → ReceiverParts → Why → ReceiverParts → Type 0
LoadRefused sound p why back =
    IsBadNote p why back ⊎ (IsUnopened p why back ⊎ (IsLandedElsewhere p why back ⊎ (HasNoMemory p why back ⊎ IsLoadStopped sound p why back)))

-- ---- when it has to be found

-- a steady disk that tells its blocks, on which no tear is armed
pub record IsQuiet (d : Seen) : Type 0 where
  pub told : IsTold d
  pub steady : IsTrue d.steady
  pub unarmed : IsTrue (not d.armed)

-- what lies below is steady, with no tear armed, and its note is the one on its disk
pub record IsQuietBelow (b : BelowSeen) : Type 0 where
  pub stored : b.stored ≡ Some b.note
  pub steady : IsTrue b.steady
  pub unarmed : (device : ℕ) → slice_get b.armed device ≡ Some true → ⊥

-- the parts of a half, over such disks: then it wants memory alone
pub record MustLoad (p : ReceiverParts) : Type 0 where
  pub half : HalfState
  pub finds : Finds p half
  pub sets : All (IsOpenable p.below.sizes) p.sets
  pub fits : landing_blocks ≤ p.land.size
  pub below : IsQuietBelow p.below
  pub bits : (set : ℕ) → set < length p.sets → IsQuiet (part_at p.sets set).bits
  pub land : IsQuiet p.land
