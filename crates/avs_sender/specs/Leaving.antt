-- A sender leaves its session to logging.
use Rattle.std.specs.Prelude.{◌≡◌, true, ℕ, nat_le, if◌then◌else◌, Result, OnOk, OnErr}
use Rattle.avs_model.specs.declared.half.State.TheVariants.{Logging}
use Rattle.avs_mirrors.specs.Half.{is_session, left_sender}
use Rattle.avs_sync.specs.Session.{left}
use Rattle.avs_sync.specs.declared.session.Session.{Session}
use Rattle.avs_mqueue.specs.Queue.{Queue}
use Rattle.avs_sync.specs.declared.note.Note.{Note}
use Rattle.avs_halves.specs.Going.{DidNothing}
use Rattle.avs_sender.specs.Held.{SenderHalf, SenderHeld, parts_of}
use Rattle.avs_sender.specs.Meaning.{IsSenderInStep, sender_of, found_of, found_again}
use Rattle.avs_sender.specs.Going.{BelowAloneFailed, NoneFailed, SenderStays}

-- the note of a half that has left, with the mark that it says; and the half behind it, which gave its entries up
abbrev pub left_note : Note → ℕ → Note
left_note n mark = record n { state = Logging; mark = mark }

abbrev pub half_left : SenderHalf → ℕ → Queue → SenderHalf
half_left h mark queue = record h { note = left_note h.note mark; session = left h.session Logging; queue = queue }

-- the mark that a note says: one that is known as applied
abbrev pub known_mark : Session → ℕ
known_mark s = if nat_le s.mark s.known then s.mark else 0

-- the session is left, and the note says so
pub record HasLeft (old new : SenderHalf) : Type 0 where
  pub session : new.session ≡ left old.session Logging
  pub note : is_session old.session.state ≡ true → new.note ≡ left_note old.note (known_mark old.session)

-- it leaves by one note, unless it is in logging. Where that fails, it is found as having left too
pub record Leaves {T E : Type 0} (sound sound_new : Type 0) (old : SenderHeld) (result : Result T E) (new : SenderHeld) : Type 0 where
  pub stays : SenderStays sound old new
  pub spared : OnOk result (NoneFailed old new)
  pub failed : OnErr result (BelowAloneFailed old new)
  pub done : sound → OnOk result (sender_of new ≡ left_sender (sender_of old))
  pub half : OnOk result (HasLeft old.half new.half)
  pub step : IsSenderInStep sound old → OnOk result (IsSenderInStep sound_new new)
  pub stopped : IsSenderInStep sound old → OnErr result (found_again (parts_of new) ≡ found_of (sender_of old))
  pub idle : old.half.session.state ≡ Logging → DidNothing old result new
