-- Why a call of a receiver is refused before it touches a disk: then nothing has changed.
use Rattle.std.specs.Prelude.{◌≡◌, ℕ, ◌≤◌, false}
use Rattle.avs_model.specs.declared.answer.Refusal.{Refusal}
use Rattle.avs_model.specs.declared.answer.Refusal.TheVariants as refusal
use Rattle.avs_mirrors.specs.Half.{no_sets}
use Rattle.avs_halves.specs.Words.{word_of}
use Rattle.avs_receiver.specs.Held.{ReceiverHeld}
use Rattle.avs_receiver.specs.Meaning.{receiver_of}

-- asked into a session whose number is not greater than its own
pub record IsNotLater (old : ReceiverHeld) (session : ℕ) (why : Refusal) (new : ReceiverHeld) : Type 0 where
  pub answer : why ≡ refusal.Stale old.half.note.session session
  pub low : session ≤ old.half.note.session
  pub kept : new ≡ old

-- told by the word of its state: it is in a session where it may not be, or in none where it has to be
pub record IsWrongState (old : ReceiverHeld) (why : Refusal) (new : ReceiverHeld) : Type 0 where
  pub answer : why ≡ refusal.WrongState (word_of (receiver_of no_sets old).state)
  pub kept : new ≡ old

-- a set has no contents
pub record HasNoContents (old : ReceiverHeld) (set : ℕ) (why : Refusal) (new : ReceiverHeld) : Type 0 where
  pub answer : why ≡ refusal.NoContents
  pub none : (receiver_of no_sets old).contents set ≡ false
  pub kept : new ≡ old
