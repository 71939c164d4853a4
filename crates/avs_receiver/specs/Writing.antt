-- A write of the receiver's own host.
use Rattle.std.specs.Prelude.{◌≡◌, ◌⊎◌, ℕ, Bool, true, false, List, Result, Ok, Err}
use Rattle.avs_seg.specs.Image.{Image, IsMix, blocks_of}
use Rattle.avs_model.specs.declared.entry.Entry.{Entry}
use Rattle.avs_model.specs.declared.answer.Refusal.{Refusal}
use Rattle.avs_model.specs.declared.answer.Refusal.TheVariants as refusal
use Rattle.avs_mirrors.specs.Due.{Keys}
use Rattle.avs_mirrors.specs.Entries.{touches, written}
use Rattle.avs_mirrors.specs.Half.{HalfState, Sets, is_session, with_bits, with_change, with_write}
use Rattle.avs_receiver.specs.Held.{ReceiverHeld, ReceiverParts, parts_of}
use Rattle.avs_receiver.specs.Meaning.{Finds, IsReceiverInStep, StandsFor, receiver_of, state_in}
use Rattle.avs_receiver.specs.Going.{NoneFailed, OneFailed, ReceiverStays, SessionStays}
use Rattle.avs_receiver.specs.Refusing.{HasNoContents, IsWrongState}

-- the half may be written: it is in no session, and the set has contents
pub record MayWrite (old : ReceiverHeld) (set : ℕ) : Type 0 where
  pub away : is_session (state_in old.half.note) ≡ false
  pub contents : (kept : Sets) → (receiver_of kept old).contents set ≡ true

-- a load finds some of the bits that a write sets, and no block of it
pub record FindsPartNoted (p : ReceiverParts) (x : HalfState) (e : Entry) : Type 0 where
  pub part : Keys
  pub within : (set seg : ℕ) → part set seg ≡ true → touches e set seg ≡ true
  pub finds : Finds p (with_bits x part)

-- or all of them, and each block of the range old or new
pub record FindsTorn (p : ReceiverParts) (x : HalfState) (e : Entry) : Type 0 where
  pub image : Image
  pub mix : IsMix (x.images e.set) e.at e.bytes image
  pub finds : Finds p (with_change (with_bits x (touches e)) e.set image)

abbrev pub FindsWritten : ReceiverParts → HalfState → Entry → Type 0
FindsWritten p x e = FindsPartNoted p x e ⊎ FindsTorn p x e

-- the bits first, and then the blocks
pub record IsWritten (sound sound_new : Type 0) (old : ReceiverHeld) (e : Entry) (new : ReceiverHeld) : Type 0 where
  pub may : MayWrite old e.set
  pub stays : ReceiverStays sound old new
  pub session : SessionStays old.half new.half old.half.applied old.half.note.mark
  pub spared : NoneFailed old new
  pub done : IsReceiverInStep sound old → (kept : Sets) → StandsFor new (with_write (receiver_of kept old) e)
  pub step : IsReceiverInStep sound old → IsReceiverInStep sound_new new

pub record IsWriteStopped (sound : Type 0) (old : ReceiverHeld) (e : Entry) (why : Refusal) (new : ReceiverHeld) : Type 0 where
  pub answer : why ≡ refusal.Fault
  pub may : MayWrite old e.set
  pub stays : ReceiverStays sound old new
  pub session : SessionStays old.half new.half old.half.applied old.half.note.mark
  pub failed : OneFailed old new
  pub stopped : IsReceiverInStep sound old → (kept : Sets) → FindsWritten (parts_of new) (receiver_of kept old) e

-- in a session it is not written, whatever contents it has
pub record IsInSession (old : ReceiverHeld) (why : Refusal) (new : ReceiverHeld) : Type 0 where
  pub session : is_session (state_in old.half.note) ≡ true
  pub wrong : IsWrongState old why new

pub record IsEmpty (old : ReceiverHeld) (set : ℕ) (why : Refusal) (new : ReceiverHeld) : Type 0 where
  pub away : is_session (state_in old.half.note) ≡ false
  pub empty : HasNoContents old set why new

abbrev pub Writes : Type 0 → Type 0 → ReceiverHeld → Entry → Result (Unit {0}) Refusal → ReceiverHeld → Type 0
Writes sound sound_new old e (Ok u) new = IsWritten sound sound_new old e new
Writes sound sound_new old e (Err why) new = IsInSession old why new ⊎ (IsEmpty old e.set why new ⊎ IsWriteStopped sound old e why new)

-- of what is kept besides below: one write came to it, of a half that may be written; or none did, and it was refused
abbrev pub RestWritten : {R : Type 0} → ReceiverHeld → ℕ → (R → Type 0) → Bool → R → R → Type 0
RestWritten old set once ok rest new = ((ok ≡ false) × (new ≡ rest)) ⊎ (MayWrite old set × once new)

-- the write of these bytes
abbrev pub write_of : ℕ → ℕ → List ℕ → Entry
write_of set at bytes = written set at (blocks_of bytes)
