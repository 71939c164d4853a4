-- Why a call of a sender is refused before it touches a disk: then nothing has changed.
use Rattle.std.specs.Prelude.{◌≡◌, true, length}
use Rattle.avs_model.specs.declared.answer.Refusal.{Refusal}
use Rattle.avs_model.specs.declared.answer.Refusal.TheVariants as refusal
use Rattle.avs_model.specs.declared.entry.Entry.{Entry}
use Rattle.avs_mqueue.specs.Queue.{blocks_held, is_full}
use Rattle.avs_mirrors.specs.Half.{is_session}
use Rattle.avs_halves.specs.Words.{word_of}
use Rattle.avs_sender.specs.Held.{SenderHeld}
use Rattle.avs_sender.specs.Meaning.{sender_of}

-- it is in a session, and is asked for what is done in none
pub record IsWrongState (old : SenderHeld) (why : Refusal) (new : SenderHeld) : Type 0 where
  pub answer : why ≡ refusal.WrongState (word_of (sender_of old).state)
  pub session : is_session (sender_of old).state ≡ true
  pub kept : new ≡ old

-- the queue has no room for an entry: what it holds is told
pub record IsQueueFull (old : SenderHeld) (e : Entry) (why : Refusal) (new : SenderHeld) : Type 0 where
  pub answer : why ≡ refusal.QueueFull (length old.half.queue.entries) (blocks_held old.half.queue)
  pub full : is_full old.half.queue e ≡ true
  pub kept : new ≡ old
