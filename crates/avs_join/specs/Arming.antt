-- The disks of an import, by number.
use Rattle.std.specs.Prelude.{◌≡◌, ℕ, ◌==◌, Bool, false, not, IsTrue, if◌then◌else◌, Option, None, Some}
use Rattle.std.specs.Option.{option_map, option_map_or}
use Rattle.avs_dev.specs.Seen.{with_tear}
use Rattle.avs_dev.specs.declared.disk.Tear.{Tear}
use Rattle.avs_join.specs.Imported.{ImportDisks}
use Rattle.avs_join.specs.Writing.{ImportDisk, Volume, Bitmap, disk_at}

-- the disk of a number, where there is one
abbrev pub disk_of_number : ℕ → Option ImportDisk
disk_of_number number = if number == 0 then Some Volume else (if number == 1 then Some Bitmap else None)

-- the blocks written on it
abbrev pub import_written : ImportDisks → ℕ → Option ℕ
import_written i number = option_map (λ disk. (disk_at i disk).written) (disk_of_number number)

-- the import with a tear armed on a disk
abbrev pub with_armed : ImportDisks → Tear → ImportDisk → ImportDisks
with_armed i tear Volume = record i { volume = with_tear tear i.volume }
with_armed i tear Bitmap = record i { bits = record i.bits { disk = with_tear tear i.bits.disk } }

-- exactly this tear is armed, exactly on a disk that is there and lets one be armed; where none is, nothing changes
pub record ArmsImport (old : ImportDisks) (number : ℕ) (tear : Tear) (result : Bool) (new : ImportDisks) : Type 0 where
  pub answer : result ≡ option_map_or (λ disk. (disk_at old disk).arms) (disk_of_number number) false
  pub armed : IsTrue result → (disk : ImportDisk) → disk_of_number number ≡ Some disk → new ≡ with_armed old tear disk
  pub unarmed : IsTrue (not result) → new ≡ old
  pub sure : (disk : ImportDisk) → disk_of_number number ≡ Some disk → IsTrue (disk_at old disk).steady → IsTrue result
  pub size : new.volume.size ≡ old.volume.size
