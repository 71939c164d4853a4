-- What the layer above runs on what lies below a receiver.
use Rattle.std.specs.Prelude.{◌≡◌, ℕ, ◌<◌, List, length}
use Rattle.avs_dev.specs.Below.{BelowSeen}
use Rattle.avs_mirrors.specs.Half.{Sets}
use Rattle.avs_halves.specs.Restoring.{KeepsVolume}
use Rattle.avs_halves.specs.SetBits.{SetBits, set_at}
use Rattle.avs_receiver.specs.Held.{ReceiverHeld, parts_of}
use Rattle.avs_receiver.specs.Meaning.{IsReceiverInStep, receiver_of}
use Rattle.avs_receiver.specs.CatchingUp.{FindsAgain}

-- the note and the volumes of sets are as they were; other volumes may be others
pub record KeepsVolumes (sets : List SetBits) (old new : BelowSeen) : Type 0 where
  pub note : new.note ≡ old.note
  pub stored : new.stored ≡ old.stored
  pub each : (set : ℕ) → set < length sets → KeepsVolume old new (set_at sets set).vol

-- the half is what it was, and is found as it was
pub record IsLent (sound sound_new : Type 0) (old new : ReceiverHeld) : Type 0 where
  pub half : new.half ≡ old.half
  pub below : KeepsVolumes old.half.sets old.below new.below
  pub means : (kept : Sets) → receiver_of kept new ≡ receiver_of kept old
  pub again : FindsAgain (parts_of old) (parts_of new)
  pub step : sound_new → IsReceiverInStep sound old → IsReceiverInStep sound_new new
