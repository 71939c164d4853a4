-- Sets of a receiver are restored by the layer above: the bits of marked segments first, and then an errand that gives them other images.
use Rattle.std.specs.Prelude.{◌≡◌, ◌≢◌, ◌⊎◌, ℕ, Bool, true, false, List, Result, Ok, Err, OnOk, OnErr, is_ok}
use Rattle.avs_dev.specs.Seen.{IsSpared}
use Rattle.avs_dev.specs.Devices.{OneRose}
use Rattle.avs_dev.specs.Below.{BelowSeen}
use Rattle.avs_model.specs.declared.answer.Refusal.{Refusal}
use Rattle.avs_model.specs.declared.answer.Refusal.TheVariants as refusal
use Rattle.avs_mirrors.specs.Due.{Keys}
use Rattle.avs_mirrors.specs.Half.{HalfState, Sets, is_session, with_bits}
use Rattle.avs_halves.specs.Marks.{Mark, marked}
use Rattle.avs_halves.specs.Restoring.{IsGiven, IsRestoredTo, LeavesAll, RanWith, RestoresAll, RestoresOrLeaves}
use Rattle.avs_halves.specs.SetBits.{disk_at}
use Rattle.avs_receiver.specs.Held.{ReceiverHalf, ReceiverHeld, ReceiverOf, ReceiverParts, half_noted, parts_of}
use Rattle.avs_receiver.specs.Meaning.{Finds, IsReceiverInStep, StandsFor, receiver_of, state_in}
use Rattle.avs_receiver.specs.Going.{HalfStays, SessionStays, SetAloneFailed}
use Rattle.avs_receiver.specs.Writing.{IsInSession}

-- ---- the errand

-- it is one of the two, whatever it answers: what `ran` makes of the errand and of what lies below
abbrev pub MayRestore : {E B : Type 0} → (B → BelowSeen) → (List ℕ → Bool → E → B → Type 0) → ReceiverOf B → List Mark → Type 0
MayRestore {E} {B} seen ran old marks = (bytes : List ℕ) (ok : Bool) (e : E) (b : B) → IsGiven old.half.sets old.half.note marks bytes → ran bytes ok e b
    → RestoresOrLeaves old.half.sets marks bytes ok (seen old.below) (seen b)

-- it has run. Where it answered Ok, and the note below is the one that was given, that is the half's
pub record RunsErrand {T E : Type 0} (old : ReceiverHeld) (marks : List Mark) (result : Result T E) (new : ReceiverHeld) : Type 0 where
  pub bytes : List ℕ
  pub given : IsGiven old.half.sets old.half.note marks bytes
  pub below : RestoresOrLeaves old.half.sets marks bytes (is_ok result) old.below new.below
  pub done : OnOk result (((new.below.note ≢ bytes) × (new.half ≡ old.half))
      ⊎ ((new.below.note ≡ bytes) × (new.half ≡ half_noted old.half given.note old.half.applied)))
  pub failed : OnErr result (new.half ≡ old.half)
  pub rose : OnErr result (OneRose old.below.faults new.below.faults)

-- ---- what stands then

-- the bits are set, and the half is what the errand made of it
pub record IsRestoreDone (sound sound_new : Type 0) (old : ReceiverHeld) (marks : List Mark) (new : ReceiverHeld) : Type 0 where
  pub away : is_session (state_in old.half.note) ≡ false
  pub stays : HalfStays old.half new.half
  pub session : SessionStays old.half new.half old.half.applied old.half.note.mark
  pub spared : (set : ℕ) → IsSpared (disk_at old.half.sets set) (disk_at new.half.sets set)
  pub left : IsReceiverInStep sound old → LeavesAll old.half.sets true old.below new.below
      → (kept : Sets) → StandsFor new (with_bits (receiver_of kept old) (marked marks))
  pub restored : IsReceiverInStep sound old → (bytes : List ℕ) → IsGiven old.half.sets old.half.note marks bytes
      → RestoresAll old.half.sets marks bytes true old.below new.below
      → (kept : Sets) → IsRestoredTo (StandsFor new) (receiver_of kept old) marks
  pub step : sound_new → IsReceiverInStep sound old → IsReceiverInStep sound_new new

-- some of the bits are found
pub record FindsSomeBits (p : ReceiverParts) (x : HalfState) (keys : Keys) : Type 0 where
  pub part : Keys
  pub within : (set seg : ℕ) → part set seg ≡ true → keys set seg ≡ true
  pub finds : Finds p (with_bits x part)

-- ---- where a device failed

-- the disk of a set's bits, of all devices: nothing was done below, and a load finds some of the bits and nothing else new
pub record FailsInBits (sound : Type 0) (old : ReceiverHeld) (marks : List Mark) (new : ReceiverHeld) : Type 0 where
  pub failed : SetAloneFailed old new
  pub below : new.below ≡ old.below
  pub found : IsReceiverInStep sound old → (kept : Sets) → FindsSomeBits (parts_of new) (receiver_of kept old) (marked marks)

-- or a device below, while the errand ran: a load finds all bits, and what the errand made of the half
pub record FailsInErrand (sound : Type 0) (old : ReceiverHeld) (marks : List Mark) (new : ReceiverHeld) : Type 0 where
  pub rose : OneRose old.below.faults new.below.faults
  pub spared : (set : ℕ) → IsSpared (disk_at old.half.sets set) (disk_at new.half.sets set)
  pub left : IsReceiverInStep sound old → LeavesAll old.half.sets false old.below new.below
      → (kept : Sets) → Finds (parts_of new) (with_bits (receiver_of kept old) (marked marks))
  pub restored : IsReceiverInStep sound old → (bytes : List ℕ) → IsGiven old.half.sets old.half.note marks bytes
      → RestoresAll old.half.sets marks bytes false old.below new.below
      → (kept : Sets) → IsRestoredTo (Finds (parts_of new)) (receiver_of kept old) marks

pub record IsRestoreStopped (sound : Type 0) (old : ReceiverHeld) (marks : List Mark) (why : Refusal) (new : ReceiverHeld) : Type 0 where
  pub answer : why ≡ refusal.Fault
  pub away : is_session (state_in old.half.note) ≡ false
  pub stays : HalfStays old.half new.half
  pub session : SessionStays old.half new.half old.half.applied old.half.note.mark
  pub stopped : FailsInBits sound old marks new ⊎ FailsInErrand sound old marks new

-- of a half that may be restored
abbrev pub RestoresNoted : {E : Type 0} → Type 0 → Type 0 → ReceiverHeld → List Mark → Result (Unit {0}) E → ReceiverHeld → Type 0
RestoresNoted sound sound_new old marks (Ok u) new = IsRestoreDone sound sound_new old marks new
RestoresNoted sound sound_new old marks (Err x) new = IsRestoreStopped sound old marks refusal.Fault new

abbrev pub Restores : Type 0 → Type 0 → ReceiverHeld → List Mark → Result (Unit {0}) Refusal → ReceiverHeld → Type 0
Restores sound sound_new old marks (Ok u) new = IsRestoreDone sound sound_new old marks new
Restores sound sound_new old marks (Err why) new = IsInSession old why new ⊎ IsRestoreStopped sound old marks why new

-- the errand ran, by its own relation, of a half in no session; or it did not, and nothing came to it nor to what lies below
abbrev pub RunsOnce : (List ℕ → Type 0) → ReceiverHalf → List Mark → Bool → Type 0 → Type 0
RunsOnce ran h marks ok untouched = ((ok ≡ false) × untouched) ⊎ ((is_session (state_in h.note) ≡ false) × RanWith ran h.sets h.note marks)
