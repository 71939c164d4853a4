-- A receiver is asked into a session.
use Rattle.std.specs.Prelude.{◌≡◌, ◌⊎◌, ℕ, ◌<◌, Bool, true, false, Result, Ok, Err}
use Rattle.avs_model.specs.declared.event.Host.{Host}
use Rattle.avs_model.specs.declared.event.Host.TheVariants.{P, S}
use Rattle.avs_model.specs.declared.answer.Refusal.{Refusal}
use Rattle.avs_model.specs.declared.answer.Refusal.TheVariants as refusal
use Rattle.avs_mirrors.specs.Half.{Receiver, Receiving, Sets, asked, left_receiver}
use Rattle.avs_sync.specs.declared.note.Note.{Note}
use Rattle.avs_receiver.specs.Held.{ReceiverHalf, ReceiverHeld, parts_of}
use Rattle.avs_receiver.specs.Meaning.{FindsEither, IsReceiverInStep, StandsFor, receiver_of}
use Rattle.avs_receiver.specs.Going.{NoneFailed, ReceiverStays, BelowAloneFailed}
use Rattle.avs_receiver.specs.Refusing.{IsNotLater}
use Rattle.avs_receiver.specs.Slots.{AreEmpty}

-- a receiver on host p receives from host s
abbrev pub is_reverse : Host → Bool
is_reverse P = true
is_reverse S = false

-- the note of a session in which nothing was applied
abbrev pub asked_note : ℕ → ℕ → Bool → Note
asked_note session empty reverse = record { session = session; role = Receiver; state = Receiving; empty = empty; reverse = reverse; mark = 0 }

-- that of a half: its sets have no contents, and other slots are as they were
pub record IsAskedNote (h : ReceiverHalf) (session : ℕ) (n : Note) : Type 0 where
  pub is : n ≡ asked_note session n.empty (is_reverse h.host)
  pub slots : AreEmpty h.sets h.note.empty n.empty

-- it is in the session, by one note: without contents, and with all blocks as they lay
pub record IsAsked (sound sound_new : Type 0) (old : ReceiverHeld) (session : ℕ) (new : ReceiverHeld) : Type 0 where
  pub later : old.half.note.session < session
  pub note : IsAskedNote old.half session new.half.note
  pub none : new.half.applied ≡ 0
  pub stays : ReceiverStays sound old new
  pub spared : NoneFailed old new
  pub done : sound → (kept : Sets) → StandsFor new (asked (receiver_of kept old) session)
  pub step : IsReceiverInStep sound old → IsReceiverInStep sound_new new

-- the note failed: it is found in logging, as it was or as one that entered the session and left it
pub record IsNotAsked (sound : Type 0) (old : ReceiverHeld) (session : ℕ) (why : Refusal) (new : ReceiverHeld) : Type 0 where
  pub answer : why ≡ refusal.Fault
  pub later : old.half.note.session < session
  pub stays : ReceiverStays sound old new
  pub failed : BelowAloneFailed old new
  pub stopped : IsReceiverInStep sound old → (kept : Sets)
      → FindsEither (parts_of new) (left_receiver (receiver_of kept old)) (left_receiver (asked (receiver_of kept old) session))

abbrev pub Asks : Type 0 → Type 0 → ReceiverHeld → ℕ → Result (Unit {0}) Refusal → ReceiverHeld → Type 0
Asks sound sound_new old session (Ok u) new = IsAsked sound sound_new old session new
Asks sound sound_new old session (Err why) new = IsNotLater old session why new ⊎ IsNotAsked sound old session why new
