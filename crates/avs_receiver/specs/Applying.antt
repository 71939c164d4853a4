-- A place is applied.
use Rattle.std.specs.Prelude.{◌≡◌, ◌≢◌, ◌⊎◌, ℕ, ◌+◌, ◌^◌, ◌<◌, ◌≤◌, Bool, true, false, if◌then◌else◌, List, length, Result, Ok, Err}
use Rattle.avs_seg.specs.Image.{blocks_of}
use Rattle.avs_dev.specs.Below.{size_of}
use Rattle.avs_model.specs.declared.answer.Refusal.{Refusal}
use Rattle.avs_model.specs.declared.answer.Refusal.TheVariants as refusal
use Rattle.avs_model.specs.declared.entry.Entry.{Entry}
use Rattle.avs_mirrors.specs.Entries.{is_mark}
use Rattle.avs_mirrors.specs.Half.{Sets, applied_to, is_session, left_receiver}
use Rattle.avs_halves.specs.SetBits.{set_at}
use Rattle.avs_land.specs.Landed.{IsEntry}
use Rattle.avs_receiver.specs.Held.{ReceiverHeld, parts_of}
use Rattle.avs_receiver.specs.Meaning.{FindsEither, IsReceiverInStep, StandsFor, receiver_of, state_in}
use Rattle.avs_receiver.specs.Going.{NoneFailed, OneFailed, ReceiverStays, SessionStays}
use Rattle.avs_receiver.specs.Refusing.{IsWrongState}

-- ---- which place it is

-- a message of its own session, in which it is
pub record IsHeard (old : ReceiverHeld) (session : ℕ) : Type 0 where
  pub number : session ≡ old.half.note.session
  pub receiving : is_session (state_in old.half.note) ≡ true

-- the place that is applied next
pub record IsNext (old : ReceiverHeld) (session place : ℕ) : Type 0 where
  pub heard : IsHeard old session
  pub follows : place ≡ old.half.applied + 1

-- an entry with blocks lies in the volume of a set that is there, and its place can be noted
pub record CanApply (h : ReceiverHeld) (place : ℕ) (e : Entry) : Type 0 where
  pub small : place ≤ 2 ^ 62
  pub entry : IsEntry e
  pub set : is_mark e.kind ≡ false → e.set < length h.half.sets
  pub inside : is_mark e.kind ≡ false → e.at + length e.bytes ≤ size_of h.below (set_at h.half.sets e.set).vol

-- ---- what stands then

-- it has the place already, and nothing has changed
pub record HasPlace (old : ReceiverHeld) (place : ℕ) (new : ReceiverHeld) : Type 0 where
  pub low : place ≤ old.half.applied
  pub kept : new ≡ old

-- the place is applied, whole
pub record IsApplied (sound sound_new : Type 0) (old : ReceiverHeld) (place : ℕ) (e : Entry) (new : ReceiverHeld) : Type 0 where
  pub next : place ≡ old.half.applied + 1
  pub stays : ReceiverStays sound old new
  pub session : SessionStays old.half new.half place (if is_mark e.kind then place else old.half.note.mark)
  pub spared : NoneFailed old new
  pub done : IsReceiverInStep sound old → (kept : Sets) → StandsFor new (applied_to (receiver_of kept old) e)
  pub step : IsReceiverInStep sound old → IsReceiverInStep sound_new new

-- the answer is the last applied place
pub record Applied (sound sound_new : Type 0) (old : ReceiverHeld) (session place : ℕ) (e : Entry) (answer : ℕ) (new : ReceiverHeld) : Type 0 where
  pub heard : IsHeard old session
  pub last : answer ≡ new.half.applied
  pub done : HasPlace old place new ⊎ IsApplied sound sound_new old place e new

-- ---- why it is refused

pub record IsOtherSession (old : ReceiverHeld) (session : ℕ) (why : Refusal) (new : ReceiverHeld) : Type 0 where
  pub answer : why ≡ refusal.Stale old.half.note.session session
  pub other : session ≢ old.half.note.session
  pub kept : new ≡ old

pub record HasLeft (old : ReceiverHeld) (session : ℕ) (why : Refusal) (new : ReceiverHeld) : Type 0 where
  pub number : session ≡ old.half.note.session
  pub away : is_session (state_in old.half.note) ≡ false
  pub wrong : IsWrongState old why new

pub record IsEarly (old : ReceiverHeld) (session place : ℕ) (why : Refusal) (new : ReceiverHeld) : Type 0 where
  pub heard : IsHeard old session
  pub answer : why ≡ refusal.Early (old.half.applied + 1)
  pub above : old.half.applied + 1 < place
  pub kept : new ≡ old

-- a disk failed: a load finds the last place or this one, whole
pub record IsApplyStopped (sound : Type 0) (old : ReceiverHeld) (session place : ℕ) (e : Entry) (why : Refusal) (new : ReceiverHeld) : Type 0 where
  pub answer : why ≡ refusal.Fault
  pub next : IsNext old session place
  pub stays : ReceiverStays sound old new
  pub failed : OneFailed old new
  pub stopped : IsReceiverInStep sound old → (kept : Sets)
      → FindsEither (parts_of new) (left_receiver (receiver_of kept old)) (left_receiver (applied_to (receiver_of kept old) e))

abbrev pub Applies : Type 0 → Type 0 → ReceiverHeld → ℕ → ℕ → Entry → Result ℕ Refusal → ReceiverHeld → Type 0
Applies sound sound_new old session place e (Ok answer) new = Applied sound sound_new old session place e answer new
Applies sound sound_new old session place e (Err why) new =
    IsOtherSession old session why new ⊎ (HasLeft old session why new ⊎ (IsEarly old session place why new ⊎ IsApplyStopped sound old session place e why new))

-- the next place alone
abbrev pub AppliesNext : {E : Type 0} → Type 0 → Type 0 → ReceiverHeld → ℕ → ℕ → Entry → Result (Unit {0}) E → ReceiverHeld → Type 0
AppliesNext sound sound_new old session place e (Ok u) new = IsApplied sound sound_new old place e new
AppliesNext sound sound_new old session place e (Err x) new = IsApplyStopped sound old session place e refusal.Fault new

-- ---- of what is kept besides below

-- the one write of an entry's blocks came to it, as it answered
pub record WroteEntry {R : Type 0} (wrote : R → ℕ → ℕ → List ℕ → Bool → R → Type 0) (rest : R) (old : ReceiverHeld) (e : Entry) (ok : Bool) (new : R) : Type 0 where
  pub bytes : List ℕ
  pub blocks : blocks_of bytes ≡ e.bytes
  pub once : wrote rest (set_at old.half.sets e.set).vol e.at bytes ok new

-- that of an entry that has blocks, or nothing
pub record RestPut {R : Type 0} (wrote : R → ℕ → ℕ → List ℕ → Bool → R → Type 0) (rest : R) (old : ReceiverHeld) (e : Entry) (ok : Bool) (new : R) : Type 0 where
  pub mark : is_mark e.kind ≡ true → new ≡ rest
  pub blocks : is_mark e.kind ≡ false → WroteEntry wrote rest old e ok new

-- nothing came to it: the place was not applied, or it is the mark
pub record WroteNothing {R : Type 0} (rest : R) (old : ReceiverHeld) (session place : ℕ) (e : Entry) (ok : Bool) (new : R) : Type 0 where
  pub same : new ≡ rest
  pub unless : ok ≡ true → IsNext old session place → is_mark e.kind ≡ true

-- one write did, of the entry of the place that is applied next, which is not the mark
pub record WroteNext {R : Type 0} (wrote : R → ℕ → ℕ → List ℕ → Bool → R → Type 0) (rest : R) (old : ReceiverHeld) (session place : ℕ) (e : Entry) (ok : Bool) (new : R) : Type 0 where
  pub next : IsNext old session place
  pub blocks : is_mark e.kind ≡ false
  pub once : WroteEntry wrote rest old e ok new

abbrev pub RestApplied : {R : Type 0} → (R → ℕ → ℕ → List ℕ → Bool → R → Type 0) → R → ReceiverHeld → ℕ → ℕ → Entry → Bool → R → Type 0
RestApplied wrote rest old session place e ok new = WroteNothing rest old session place e ok new ⊎ WroteNext wrote rest old session place e ok new
