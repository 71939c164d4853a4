-- A sender learns that places were applied.
use Rattle.std.specs.Prelude.{◌≡◌, ◌⊎◌, ℕ, ◌<◌, ◌≤◌, true, false, Result, Ok, Err}
use Rattle.avs_model.specs.declared.answer.Refusal.{Refusal}
use Rattle.avs_model.specs.declared.answer.Refusal.TheVariants as refusal
use Rattle.avs_model.specs.declared.answer.Word.TheVariants as word
use Rattle.avs_mqueue.specs.Queue.{Advances}
use Rattle.avs_mirrors.specs.Due.{Keys, frees}
use Rattle.avs_mirrors.specs.Half.{HalfState, Logging, Replicating, is_session, with_freed, with_known}
use Rattle.avs_sync.specs.Session.{ticked}
use Rattle.avs_sync.specs.declared.note.Note.{Note}
use Rattle.avs_sender.specs.Held.{SenderHalf, SenderHeld, SenderParts, parts_of}
use Rattle.avs_sender.specs.Meaning.{IsSenderInStep, sender_of, found_of, found_again}
use Rattle.avs_sender.specs.Going.{SenderStays, NoneFailed, OneFailed}

-- it is in no session, which is told by the word of logging
pub record HasNoSession (old : SenderHeld) (why : Refusal) (new : SenderHeld) : Type 0 where
  pub answer : why ≡ refusal.WrongState word.Logging
  pub away : is_session (sender_of old).state ≡ false
  pub kept : new ≡ old

-- the place is above the last one that was given, which is told
pub record IsNotGiven (old : SenderHeld) (place : ℕ) (why : Refusal) (new : SenderHeld) : Type 0 where
  pub answer : why ≡ refusal.NoPlace (sender_of old).last
  pub session : is_session (sender_of old).state ≡ true
  pub above : (sender_of old).last < place
  pub kept : new ≡ old

-- it is in a session, in which the place was given; 0 is no place, and says that none was applied
pub record MayLearn (old : SenderHeld) (applied : ℕ) : Type 0 where
  pub session : is_session (sender_of old).state ≡ true
  pub given : applied ≤ (sender_of old).last

-- the note of a half that knows the mark of its session as applied
abbrev pub note_marked : Note → ℕ → Note
note_marked n mark = record n { state = Replicating; mark = mark }

abbrev pub half_noted : SenderHalf → Note → SenderHalf
half_noted h note = record h { note = note }

-- the note is as it was, or the state has changed, and the note says that it replicates behind its mark
abbrev pub IsNotedTick : SenderHeld → SenderHeld → Type 0
IsNotedTick old new =
    ((new.half.session.state ≡ old.half.session.state) × (new.half.note ≡ old.half.note))
    ⊎ ((new.half.session.state ≡ Replicating) × (new.half.note ≡ note_marked old.half.note old.half.session.mark))

-- the half knows the place, and the entries above it are held
pub record IsTicked (sound sound_new : Type 0) (old : SenderHeld) (applied known : ℕ) (new : SenderHeld) : Type 0 where
  pub may : MayLearn old applied
  pub answer : known ≡ (sender_of new).known
  pub stays : SenderStays sound old new
  pub spared : NoneFailed old new
  pub done : sound → sender_of new ≡ with_known (sender_of old) applied old.half.session.mark
  pub session : new.half.session ≡ ticked old.half.session applied
  pub queue : Advances old.half.queue known new.half.queue
  pub note : IsNotedTick old new
  pub step : IsSenderInStep sound old → IsSenderInStep sound_new new

-- of the segments that the place frees some are gone, and no other is
pub record FindsFreed (p : SenderParts) (x : HalfState) (applied : ℕ) : Type 0 where
  pub gone : Keys
  pub within : (set seg : ℕ) → gone set seg ≡ true → frees x.due applied set seg ≡ true
  pub finds : found_again p ≡ found_of (with_freed x gone)

-- a disk failed: the half is in no session any more
pub record IsTickStopped (sound : Type 0) (old : SenderHeld) (applied : ℕ) (why : Refusal) (new : SenderHeld) : Type 0 where
  pub answer : why ≡ refusal.Fault
  pub may : MayLearn old applied
  pub stays : SenderStays sound old new
  pub failed : OneFailed old new
  pub left : new.half.session.state ≡ Logging
  pub stopped : IsSenderInStep sound old → FindsFreed (parts_of new) (sender_of old) applied

abbrev pub Ticks : Type 0 → Type 0 → SenderHeld → ℕ → Result ℕ Refusal → SenderHeld → Type 0
Ticks sound sound_new old applied (Ok known) new = IsTicked sound sound_new old applied known new
Ticks sound sound_new old applied (Err why) new =
    HasNoSession old why new ⊎ (IsNotGiven old applied why new ⊎ IsTickStopped sound old applied why new)

-- the place alone
abbrev pub Knows : {E : Type 0} → Type 0 → Type 0 → SenderHeld → ℕ → Result (Unit {0}) E → SenderHeld → Type 0
Knows sound sound_new old applied (Ok u) new = IsTicked sound sound_new old applied (sender_of new).known new
Knows sound sound_new old applied (Err e) new = IsTickStopped sound old applied refusal.Fault new
