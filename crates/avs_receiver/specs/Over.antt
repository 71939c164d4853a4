-- What the memory of a receiver keeps.
use Rattle.std.specs.Prelude.{◌≤◌, ◌^◌}
use Rattle.avs_sync.specs.Note.{NoteKeeps}
use Rattle.avs_receiver.specs.Held.{ReceiverHalf}

-- a note that can be written, and a place that can be
pub record IsKept (h : ReceiverHalf) : Type 0 where
  pub note : NoteKeeps h.note
  pub applied : h.applied ≤ 2 ^ 62
