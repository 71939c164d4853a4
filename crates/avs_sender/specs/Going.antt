-- What every call leaves of a sender, and when it may fail.
use Rattle.std.specs.Prelude.{◌≡◌, ◌⊎◌, ℕ, length}
use Rattle.avs_dev.specs.Seen.{IsSpared}
use Rattle.avs_dev.specs.Devices.{OneFails}
use Rattle.avs_halves.specs.SetBits.{set_at, disk_at}
use Rattle.avs_halves.specs.Going.{BelowStays, BelowFailed, SetStays}
use Rattle.avs_sender.specs.Held.{SenderHeld}

pub record SenderStays (sound : Type 0) (old new : SenderHeld) : Type 0 where
  pub host : new.half.host ≡ old.half.host
  pub land : new.half.land ≡ old.half.land
  pub limits : new.half.queue.limits ≡ old.half.queue.limits
  pub count : length new.half.sets ≡ length old.half.sets
  pub sets : (set : ℕ) → SetStays (set_at old.half.sets set) (set_at new.half.sets set)
  pub below : BelowStays sound old.below new.below

-- no device has failed, and a tear is armed wherever one was
pub record NoneFailed (old new : SenderHeld) : Type 0 where
  pub faults : new.below.faults ≡ old.below.faults
  pub armed : new.below.armed ≡ old.below.armed
  pub sets : (set : ℕ) → IsSpared (disk_at old.half.sets set) (disk_at new.half.sets set)

-- a device below has failed, and no disk of the half; or the disk of a set's bits, of all disks, and nothing below
pub record BelowAloneFailed (old new : SenderHeld) : Type 0 where
  pub failed : BelowFailed old.below new.below
  pub sets : (set : ℕ) → IsSpared (disk_at old.half.sets set) (disk_at new.half.sets set)

pub record SetAloneFailed (old new : SenderHeld) : Type 0 where
  pub failed : OneFails (disk_at old.half.sets) (disk_at new.half.sets)
  pub faults : new.below.faults ≡ old.below.faults
  pub armed : new.below.armed ≡ old.below.armed

-- of all devices one has failed
abbrev pub OneFailed : SenderHeld → SenderHeld → Type 0
OneFailed old new = BelowAloneFailed old new ⊎ SetAloneFailed old new
