-- The disks of a receiver by their numbers: the bitmaps in the order of their sets, the queue if there is one, the landing volume.
use Rattle.std.specs.Prelude.{◌≡◌, ℕ, ◌+◌, ◌==◌, nat_lt, Bool, false, not, IsTrue, if◌then◌else◌, length, Option, None, Some, is_some, slice_set}
use Rattle.std.specs.Option.{option_map, option_map_or}
use Rattle.avs_dev.specs.Seen.{with_tear}
use Rattle.avs_dev.specs.declared.disk.Tear.{Tear}
use Rattle.avs_halves.specs.SetBits.{set_at, disk_at}
use Rattle.avs_halves.specs.Changing.{set_written, with_disk}
use Rattle.avs_receiver.specs.declared.disks.Spot.{Spot}
use Rattle.avs_receiver.specs.declared.disks.Spot.TheVariants.{Bitmap, Queue, Landing}
use Rattle.avs_receiver.specs.Held.{ReceiverHalf}

abbrev pub spot_of : ReceiverHalf → ℕ → Option Spot
spot_of h disk =
    if nat_lt disk (length h.sets) then Some (Bitmap disk)
    else (if is_some h.queue then (if disk == length h.sets then Some Queue else (if disk == length h.sets + 1 then Some Landing else None))
    else (if disk == length h.sets then Some Landing else None))

-- the blocks written on one of its disks, and on that of a number
abbrev pub written_in : ReceiverHalf → Spot → Option ℕ
written_in h (Bitmap set) = set_written h.sets set
written_in h Queue = option_map (λ d. d.written) h.queue
written_in h Landing = Some h.land.disk.written

abbrev pub half_written : ReceiverHalf → ℕ → Option ℕ
half_written h disk = option_map_or (written_in h) (spot_of h disk) None

-- a tear is armed on one of its disks
abbrev pub with_armed : Tear → ReceiverHalf → Spot → ReceiverHalf
with_armed tear h (Bitmap set) = record h { sets = slice_set h.sets set (with_disk (set_at h.sets set) (with_tear tear (disk_at h.sets set))) }
with_armed tear h Queue = record h { queue = option_map (with_tear tear) h.queue }
with_armed tear h Landing = record h { land = record h.land { disk = with_tear tear h.land.disk } }

-- whether that disk lets one be armed
abbrev pub arms_in : ReceiverHalf → Spot → Bool
arms_in h (Bitmap set) = (disk_at h.sets set).arms
arms_in h Queue = option_map_or (λ d. d.arms) h.queue false
arms_in h Landing = h.land.disk.arms

-- exactly this tear is armed, exactly on this disk and where it lets one be armed
pub record ArmsSpot (old : ReceiverHalf) (spot : Spot) (tear : Tear) (result : Bool) (new : ReceiverHalf) : Type 0 where
  pub answer : result ≡ arms_in old spot
  pub armed : IsTrue result → new ≡ with_armed tear old spot
  pub unarmed : IsTrue (not result) → new ≡ old

-- and that of a number; none where there is no such disk
pub record ArmsHalf (old : ReceiverHalf) (disk : ℕ) (tear : Tear) (result : Bool) (new : ReceiverHalf) : Type 0 where
  pub answer : result ≡ option_map_or (arms_in old) (spot_of old disk) false
  pub armed : IsTrue result → new ≡ option_map_or (with_armed tear old) (spot_of old disk) old
  pub unarmed : IsTrue (not result) → new ≡ old
