-- What every call leaves of a receiver, and when it may fail.
use Rattle.std.specs.Prelude.{◌≡◌, ◌⊎◌, ℕ, ◌<◌, length}
use Rattle.std.specs.Int.{bit_at}
use Rattle.avs_dev.specs.Seen.{Lasts, IsSpared, Fails, IsTold}
use Rattle.avs_dev.specs.Devices.{OneFails}
use Rattle.avs_dev.specs.Below.{BelowSeen}
use Rattle.avs_halves.specs.SetBits.{set_at, disk_at}
use Rattle.avs_halves.specs.Going.{BelowStays, BelowFailed, SetStays}
use Rattle.avs_receiver.specs.Held.{ReceiverHeld, ReceiverHalf}
use Rattle.avs_receiver.specs.Slots.{IsFree}
use Rattle.avs_seg.specs.Image.{block_at}

pub record ReceiverStays (sound : Type 0) (old new : ReceiverHeld) : Type 0 where
  pub host : new.half.host ≡ old.half.host
  pub queue : new.half.queue ≡ old.half.queue
  pub land : Lasts old.half.land.disk new.half.land.disk
  pub count : length new.half.sets ≡ length old.half.sets
  pub sets : (set : ℕ) → SetStays (set_at old.half.sets set) (set_at new.half.sets set)
  pub labels : (set : ℕ) → IsTold (disk_at old.half.sets set) → block_at (disk_at new.half.sets set).image 0 ≡ block_at (disk_at old.half.sets set).image 0
  pub below : BelowStays sound old.below new.below

-- of the half alone
pub record HalfStays (old new : ReceiverHalf) : Type 0 where
  pub host : new.host ≡ old.host
  pub queue : new.queue ≡ old.queue
  pub land : new.land ≡ old.land
  pub count : length new.sets ≡ length old.sets
  pub sets : (set : ℕ) → SetStays (set_at old.sets set) (set_at new.sets set)
  pub labels : (set : ℕ) → IsTold (disk_at old.sets set) → block_at (disk_at new.sets set).image 0 ≡ block_at (disk_at old.sets set).image 0

-- what stands in memory of its session: its number, role and direction as they were, this last applied place, and this mark; and of its
-- note the slots of no set as they were
pub record SessionStays (old new : ReceiverHalf) (place marked : ℕ) : Type 0 where
  pub number : new.note.session ≡ old.note.session
  pub role : new.note.role ≡ old.note.role
  pub reverse : new.note.reverse ≡ old.note.reverse
  pub applied : new.applied ≡ place
  pub mark : new.note.mark ≡ marked
  pub slots : (slot : ℕ) → slot < 16 → IsFree old.sets slot → bit_at new.note.empty slot ≡ bit_at old.note.empty slot

-- no device has failed, and a tear is armed wherever one was
pub record NoneFailed (old new : ReceiverHeld) : Type 0 where
  pub faults : new.below.faults ≡ old.below.faults
  pub armed : new.below.armed ≡ old.below.armed
  pub sets : (set : ℕ) → IsSpared (disk_at old.half.sets set) (disk_at new.half.sets set)
  pub land : IsSpared old.half.land.disk new.half.land.disk

-- no device below has failed, and a tear is armed wherever one was
pub record BelowSpared (old new : BelowSeen) : Type 0 where
  pub faults : new.faults ≡ old.faults
  pub armed : new.armed ≡ old.armed

-- of all devices one below has failed
pub record BelowAloneFailed (old new : ReceiverHeld) : Type 0 where
  pub failed : BelowFailed old.below new.below
  pub sets : (set : ℕ) → IsSpared (disk_at old.half.sets set) (disk_at new.half.sets set)
  pub land : IsSpared old.half.land.disk new.half.land.disk

-- or the disk of a set's bits
pub record SetAloneFailed (old new : ReceiverHeld) : Type 0 where
  pub failed : OneFails (disk_at old.half.sets) (disk_at new.half.sets)
  pub below : BelowSpared old.below new.below
  pub land : IsSpared old.half.land.disk new.half.land.disk

-- or that of the landing volume
pub record LandingAloneFailed (old new : ReceiverHeld) : Type 0 where
  pub failed : Fails old.half.land.disk new.half.land.disk
  pub below : BelowSpared old.below new.below
  pub sets : (set : ℕ) → IsSpared (disk_at old.half.sets set) (disk_at new.half.sets set)

-- one device has failed, and every other was spared
abbrev pub OneFailed : ReceiverHeld → ReceiverHeld → Type 0
OneFailed old new = BelowAloneFailed old new ⊎ (SetAloneFailed old new ⊎ LandingAloneFailed old new)
