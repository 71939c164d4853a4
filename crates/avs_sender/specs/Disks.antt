-- The disks of a sender by their numbers.
use Rattle.std.specs.Prelude.{◌≡◌, ℕ, ◌≤◌, ◌==◌, Bool, not, IsTrue, if◌then◌else◌, length, Option, Some, slice_set}
use Rattle.avs_dev.specs.Seen.{Seen, with_tear}
use Rattle.avs_dev.specs.declared.disk.Tear.{Tear}
use Rattle.avs_halves.specs.SetBits.{disk_at, set_at}
use Rattle.avs_halves.specs.Changing.{set_written, with_disk}
use Rattle.avs_sender.specs.Held.{SenderHalf}

-- the blocks written on a disk: those of the bitmaps come first, and then that of the landing volume
abbrev pub written_of : SenderHalf → ℕ → Option ℕ
written_of h disk = if disk == length h.sets then Some h.land.written else set_written h.sets disk

-- a disk by its number, and the half with another one in its place
abbrev pub disk_of : SenderHalf → ℕ → Seen
disk_of h disk = if disk == length h.sets then h.land else disk_at h.sets disk

abbrev pub half_with : SenderHalf → ℕ → Seen → SenderHalf
half_with h disk seen =
    if disk == length h.sets then record h { land = seen } else record h { sets = slice_set h.sets disk (with_disk (set_at h.sets disk) seen) }

-- exactly this tear is armed, exactly on the disk of that number and where it lets one be armed
pub record ArmsHalf (old : SenderHalf) (disk : ℕ) (tear : Tear) (result : Bool) (new : SenderHalf) : Type 0 where
  pub answer : result ≡ (disk_of old disk).arms
  pub armed : IsTrue result → new ≡ half_with old disk (with_tear tear (disk_of old disk))
  pub unarmed : IsTrue (not result) → new ≡ old
  pub sure : disk ≤ length old.sets → IsTrue (disk_of old disk).steady → IsTrue result
