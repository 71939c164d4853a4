-- A write of the sender's host: in no session it is local; in a session it has the next place.
use Rattle.std.specs.Prelude.{◌≡◌, ◌⊎◌, ℕ, ◌+◌, ◌==◌, Bool, true, false, List, Result, Ok, Err}
use Rattle.avs_seg.specs.Image.{Image, IsMix, blocks_of}
use Rattle.avs_model.specs.declared.entry.Entry.{Entry}
use Rattle.avs_model.specs.declared.answer.Refusal.{Refusal}
use Rattle.avs_model.specs.declared.answer.Refusal.TheVariants as refusal
use Rattle.avs_mqueue.specs.Queue.{Pushes, is_full}
use Rattle.avs_mirrors.specs.Entries.{touches, written}
use Rattle.avs_mirrors.specs.Half.{HalfState, Logging, is_session, with_bits, with_change, with_place, with_write}
use Rattle.avs_sync.specs.Session.{placed}
use Rattle.avs_halves.specs.SetBits.{SetBits}
use Rattle.avs_sender.specs.declared.admitting.Admitted.{Admitted}
use Rattle.avs_sender.specs.declared.admitting.Admitted.TheVariants.{Local, Place, Logged}
use Rattle.avs_sender.specs.Held.{SenderHalf, SenderHeld, SenderParts, parts_of}
use Rattle.avs_sender.specs.Meaning.{IsSenderInStep, found_again, found_of, sender_of}
use Rattle.avs_sender.specs.Going.{NoneFailed, OneFailed, SenderStays}
use Rattle.avs_sender.specs.Beginning.{FindsPartNoted}
use Rattle.avs_sender.specs.Refusing.{IsQueueFull}
use Rattle.avs_sender.specs.Learning.{half_with}

-- the write of these bytes
abbrev pub write_of : ℕ → ℕ → List ℕ → Entry
write_of set at bytes = written set at (blocks_of bytes)

-- a set that has contents is written in no session; and in a session where the entry has room in the queue
pub record MayWrite (old : SenderHeld) (e : Entry) : Type 0 where
  pub away : is_session (sender_of old).state ≡ false
  pub contents : (sender_of old).contents e.set ≡ true

pub record MayPlace (old : SenderHeld) (e : Entry) : Type 0 where
  pub session : is_session (sender_of old).state ≡ true
  pub contents : (sender_of old).contents e.set ≡ true
  pub room : is_full old.half.queue e ≡ false

-- ---- done

-- the half with other bits
abbrev pub half_with_bits : SenderHalf → List SetBits → SenderHalf
half_with_bits h sets = record h { sets = sets }

-- the bits first, and then the blocks
pub record IsWritten (sound sound_new : Type 0) (old : SenderHeld) (e : Entry) (new : SenderHeld) : Type 0 where
  pub may : MayWrite old e
  pub half : new.half ≡ half_with_bits old.half new.half.sets
  pub stays : SenderStays sound old new
  pub spared : NoneFailed old new
  pub done : IsSenderInStep sound old → sender_of new ≡ with_write (sender_of old) e
  pub step : IsSenderInStep sound old → IsSenderInStep sound_new new

-- the bits first, then the entry with the next place, and then the blocks
pub record IsPlaced (sound sound_new : Type 0) (old : SenderHeld) (e : Entry) (place : ℕ) (new : SenderHeld) : Type 0 where
  pub may : MayPlace old e
  pub answer : place ≡ (sender_of old).last + 1
  pub half : new.half ≡ half_with old.half new.half.sets new.half.places (placed old.half.session) new.half.queue
  pub queue : Pushes old.half.queue place e new.half.queue
  pub stays : SenderStays sound old new
  pub spared : NoneFailed old new
  pub done : IsSenderInStep sound old → sender_of new ≡ with_place (sender_of old) e place (old.half.session.mark == 0)
  pub step : IsSenderInStep sound old → IsSenderInStep sound_new new

-- ---- stopped

-- a load finds all bits of the write, and each block of its range old or new
pub record FindsTorn (p : SenderParts) (x : HalfState) (e : Entry) : Type 0 where
  pub image : Image
  pub mix : IsMix (x.images e.set) e.at e.bytes image
  pub finds : found_again p ≡ found_of (with_change (with_bits x (touches e)) e.set image)

-- or some of the bits, and no block of it
abbrev pub FindsWritten : SenderParts → HalfState → Entry → Type 0
FindsWritten p x e = FindsPartNoted p x (touches e) ⊎ FindsTorn p x e

-- a disk failed: the half is in no session any more
pub record IsAdmitStopped (sound : Type 0) (old : SenderHeld) (e : Entry) (why : Refusal) (new : SenderHeld) : Type 0 where
  pub answer : why ≡ refusal.Fault
  pub may : MayWrite old e ⊎ MayPlace old e
  pub stays : SenderStays sound old new
  pub failed : OneFailed old new
  pub left : new.half.session.state ≡ Logging
  pub stopped : IsSenderInStep sound old → FindsWritten (parts_of new) (sender_of old) e

-- what is done of it in no session, and where it has a place
abbrev pub AdmitsLocal : {E : Type 0} → Type 0 → Type 0 → SenderHeld → Entry → Result (Unit {0}) E → SenderHeld → Type 0
AdmitsLocal sound sound_new old e (Ok u) new = IsWritten sound sound_new old e new
AdmitsLocal sound sound_new old e (Err f) new = IsAdmitStopped sound old e refusal.Fault new

abbrev pub AdmitsPlaced : {E : Type 0} → Type 0 → Type 0 → SenderHeld → Entry → Result (Unit {0}) E → SenderHeld → Type 0
AdmitsPlaced sound sound_new old e (Ok u) new = IsPlaced sound sound_new old e (sender_of new).last new
AdmitsPlaced sound sound_new old e (Err f) new = IsAdmitStopped sound old e refusal.Fault new

-- ---- refused: nothing has changed

pub record IsEmpty (old : SenderHeld) (set : ℕ) (why : Refusal) (new : SenderHeld) : Type 0 where
  pub answer : why ≡ refusal.NoContents
  pub none : (sender_of old).contents set ≡ false
  pub kept : new ≡ old

pub record HasNoRoom (old : SenderHeld) (e : Entry) (why : Refusal) (new : SenderHeld) : Type 0 where
  pub session : is_session (sender_of old).state ≡ true
  pub contents : (sender_of old).contents e.set ≡ true
  pub full : IsQueueFull old e why new

-- there was no memory for the entry, of which none is taken in no session
pub record HasNoEntry (old : SenderHeld) (e : Entry) (why : Refusal) (new : SenderHeld) : Type 0 where
  pub answer : why ≡ refusal.NoMemory
  pub may : MayPlace old e
  pub kept : new ≡ old

abbrev pub AdmitRefused : SenderHeld → Entry → Refusal → SenderHeld → Type 0
AdmitRefused old e why new = IsEmpty old e.set why new ⊎ (HasNoRoom old e why new ⊎ HasNoEntry old e why new)

-- ---- the call. Without a queue on disk none is met that is full, and logs

abbrev pub Admits : Type 0 → Type 0 → SenderHeld → Entry → Result Admitted Refusal → SenderHeld → Type 0
Admits sound sound_new old e (Ok Local) new = IsWritten sound sound_new old e new
Admits sound sound_new old e (Ok (Place place)) new = IsPlaced sound sound_new old e place new
Admits sound sound_new old e (Ok Logged) new = ⊥
Admits sound sound_new old e (Err why) new = AdmitRefused old e why new ⊎ IsAdmitStopped sound old e why new

-- of what is kept besides below: one write came to it, and where a disk failed one or none; where the call is refused none
abbrev pub RestAdmitted : {R : Type 0} → (Bool → R → Type 0) → R → Result Admitted Refusal → R → Type 0
RestAdmitted once rest (Ok how) new = once true new
RestAdmitted once rest (Err why) new = (new ≡ rest) ⊎ ((why ≡ refusal.Fault) × once false new)
