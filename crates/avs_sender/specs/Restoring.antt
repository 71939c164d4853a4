-- Sets of a sender are restored by the layer above: the bits of marked segments first, and then an errand that gives them other images.
use Rattle.std.specs.Prelude.{◌≡◌, ◌≢◌, ◌⊎◌, ℕ, ◌<◌, Bool, true, false, List, length, Result, Ok, Err, OnOk, OnErr, is_ok}
use Rattle.std.specs.Int.{bit_at}
use Rattle.avs_dev.specs.Seen.{IsSpared}
use Rattle.avs_dev.specs.Devices.{OneRose}
use Rattle.avs_dev.specs.Below.{BelowSeen}
use Rattle.avs_model.specs.declared.answer.Refusal.{Refusal}
use Rattle.avs_model.specs.declared.answer.Refusal.TheVariants as refusal
use Rattle.avs_mirrors.specs.Half.{is_session, with_bits}
use Rattle.avs_sync.specs.declared.note.Note.{Note}
use Rattle.avs_halves.specs.Going.{SetStays}
use Rattle.avs_halves.specs.Marks.{IsUnnamed, Mark, marked}
use Rattle.avs_halves.specs.Restoring.{IsGiven, IsRestoredTo, LeavesAll, RanWith, RestoresAll, RestoresOrLeaves}
use Rattle.avs_halves.specs.SetBits.{disk_at, set_at}
use Rattle.avs_sender.specs.Held.{SenderHalf, SenderHeld, SenderOf, parts_of}
use Rattle.avs_sender.specs.Meaning.{IsSenderInStep, found_again, found_of, sender_of}
use Rattle.avs_sender.specs.Going.{SetAloneFailed}
use Rattle.avs_sender.specs.Beginning.{FindsPartNoted}
use Rattle.avs_sender.specs.Refusing.{IsWrongState}

-- ---- the errand

-- it is one of the two, whatever it answers: what `ran` makes of the errand and of what lies below
abbrev pub MayRestore : {E B : Type 0} → (B → BelowSeen) → (List ℕ → Bool → E → B → Type 0) → SenderOf B → List Mark → Type 0
MayRestore {E} {B} seen ran old marks = (bytes : List ℕ) (ok : Bool) (e : E) (b : B) → IsGiven old.half.sets old.half.note marks bytes → ran bytes ok e b
    → RestoresOrLeaves old.half.sets marks bytes ok (seen old.below) (seen b)

-- the half with another note
abbrev pub half_noted : SenderHalf → Note → SenderHalf
half_noted h n = record h { note = n }

-- it has run. Where it answered Ok, and the note below is the one that was given, that is the half's
pub record RunsErrand {T E : Type 0} (old : SenderHeld) (marks : List Mark) (result : Result T E) (new : SenderHeld) : Type 0 where
  pub bytes : List ℕ
  pub given : IsGiven old.half.sets old.half.note marks bytes
  pub below : RestoresOrLeaves old.half.sets marks bytes (is_ok result) old.below new.below
  pub done : OnOk result (((new.below.note ≢ bytes) × (new.half ≡ old.half))
      ⊎ ((new.below.note ≡ bytes) × (new.half ≡ half_noted old.half given.note)))
  pub failed : OnErr result (new.half ≡ old.half)
  pub rose : OnErr result (OneRose old.below.faults new.below.faults)

-- ---- what stands then

-- of the half the bits of its sets and the slots of its note alone may be others, and of these none but those of named sets
pub record HalfStays (old : SenderHalf) (marks : List Mark) (new : SenderHalf) : Type 0 where
  pub rest : new ≡ record old { sets = new.sets; note = record old.note { empty = new.note.empty } }
  pub count : length new.sets ≡ length old.sets
  pub sets : (set : ℕ) → SetStays (set_at old.sets set) (set_at new.sets set)
  pub slots : (slot : ℕ) → slot < 16 → IsUnnamed old.sets marks slot → bit_at new.note.empty slot ≡ bit_at old.note.empty slot

-- the bits are set, and the half is what the errand made of it
pub record IsRestoreDone (sound sound_new : Type 0) (old : SenderHeld) (marks : List Mark) (new : SenderHeld) : Type 0 where
  pub away : is_session (sender_of old).state ≡ false
  pub stays : HalfStays old.half marks new.half
  pub spared : (set : ℕ) → IsSpared (disk_at old.half.sets set) (disk_at new.half.sets set)
  pub left : IsSenderInStep sound old → LeavesAll old.half.sets true old.below new.below
      → sender_of new ≡ with_bits (sender_of old) (marked marks)
  pub restored : IsSenderInStep sound old → (bytes : List ℕ) → IsGiven old.half.sets old.half.note marks bytes
      → RestoresAll old.half.sets marks bytes true old.below new.below
      → IsRestoredTo (λ x. sender_of new ≡ x) (sender_of old) marks
  pub step : sound_new → IsSenderInStep sound old → IsSenderInStep sound_new new

-- ---- where a device failed

-- the disk of a set's bits, of all devices: nothing was done below, and a load finds some of the bits and nothing else new
pub record FailsInBits (sound : Type 0) (old : SenderHeld) (marks : List Mark) (new : SenderHeld) : Type 0 where
  pub failed : SetAloneFailed old new
  pub below : new.below ≡ old.below
  pub found : IsSenderInStep sound old → FindsPartNoted (parts_of new) (sender_of old) (marked marks)

-- or a device below, while the errand ran: a load finds all bits, and what the errand made of the half
pub record FailsInErrand (sound : Type 0) (old : SenderHeld) (marks : List Mark) (new : SenderHeld) : Type 0 where
  pub rose : OneRose old.below.faults new.below.faults
  pub spared : (set : ℕ) → IsSpared (disk_at old.half.sets set) (disk_at new.half.sets set)
  pub left : IsSenderInStep sound old → LeavesAll old.half.sets false old.below new.below
      → found_again (parts_of new) ≡ found_of (with_bits (sender_of old) (marked marks))
  pub restored : IsSenderInStep sound old → (bytes : List ℕ) → IsGiven old.half.sets old.half.note marks bytes
      → RestoresAll old.half.sets marks bytes false old.below new.below
      → IsRestoredTo (λ x. found_again (parts_of new) ≡ found_of x) (sender_of old) marks

pub record IsRestoreStopped (sound : Type 0) (old : SenderHeld) (marks : List Mark) (why : Refusal) (new : SenderHeld) : Type 0 where
  pub answer : why ≡ refusal.Fault
  pub away : is_session (sender_of old).state ≡ false
  pub stays : HalfStays old.half marks new.half
  pub stopped : FailsInBits sound old marks new ⊎ FailsInErrand sound old marks new

-- of a half that may be restored
abbrev pub RestoresNoted : {E : Type 0} → Type 0 → Type 0 → SenderHeld → List Mark → Result (Unit {0}) E → SenderHeld → Type 0
RestoresNoted sound sound_new old marks (Ok u) new = IsRestoreDone sound sound_new old marks new
RestoresNoted sound sound_new old marks (Err x) new = IsRestoreStopped sound old marks refusal.Fault new

abbrev pub Restores : Type 0 → Type 0 → SenderHeld → List Mark → Result (Unit {0}) Refusal → SenderHeld → Type 0
Restores sound sound_new old marks (Ok u) new = IsRestoreDone sound sound_new old marks new
Restores sound sound_new old marks (Err why) new = IsWrongState old why new ⊎ IsRestoreStopped sound old marks why new

-- the errand ran, by its own relation, of a half in no session; or it did not, and nothing came to it nor to what lies below
abbrev pub RunsOnce : (List ℕ → Type 0) → SenderHalf → List Mark → Bool → Type 0 → Type 0
RunsOnce ran h marks ok untouched = ((ok ≡ false) × untouched) ⊎ ((is_session h.session.state ≡ false) × RanWith ran h.sets h.note marks)
