-- A receiver leaves its session.
use Rattle.std.specs.Prelude.{◌≡◌, Result, OnOk, OnErr}
use Rattle.avs_mirrors.specs.Half.{Logging, Sets, left_receiver}
use Rattle.avs_sync.specs.declared.note.Note.{Note}
use Rattle.avs_halves.specs.Going.{DidNothing}
use Rattle.avs_receiver.specs.Held.{ReceiverHeld, parts_of}
use Rattle.avs_receiver.specs.Meaning.{Finds, IsReceiverInStep, StandsFor, receiver_of, state_in}
use Rattle.avs_receiver.specs.Going.{NoneFailed, ReceiverStays, BelowAloneFailed, SessionStays}

-- the note of a half that has left
abbrev pub note_left : Note → Note
note_left n = record n { state = Logging }

-- it leaves by one note, unless it is in logging. Where that fails, it is found as having left too
pub record Leaves {T E : Type 0} (sound sound_new : Type 0) (old : ReceiverHeld) (result : Result T E) (new : ReceiverHeld) : Type 0 where
  pub stays : ReceiverStays sound old new
  pub session : SessionStays old.half new.half old.half.applied old.half.note.mark
  pub spared : OnOk result (NoneFailed old new)
  pub failed : OnErr result (BelowAloneFailed old new)
  pub done : sound → OnOk result ((kept : Sets) → StandsFor new (left_receiver (receiver_of kept old)))
  pub step : IsReceiverInStep sound old → OnOk result (IsReceiverInStep sound_new new)
  pub stopped : IsReceiverInStep sound old → OnErr result ((kept : Sets) → Finds (parts_of new) (left_receiver (receiver_of kept old)))
  pub idle : state_in old.half.note ≡ Logging → DidNothing old result new
