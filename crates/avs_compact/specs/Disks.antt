-- The four disks that a call works on, each by its name.
use Rattle.avs_dev.specs.Seen.{Seen}
pub use Rattle.avs_dev.specs.Devices.{raised, Adds}
use Rattle.avs_over.specs.Over.{OverSet}
use Rattle.avs_compact.specs.CompactSet.{CompactSet, disk_of}

-- the disk of the master, of the shadow, of the bitmap, and of the overflow volume
pub data CompactDisk : Type 0 where
  Master : CompactDisk
  Shadow : CompactDisk
  Bitmap : CompactDisk
  Over : CompactDisk

abbrev pub four : Seen → Seen → Seen → Seen → CompactDisk → Seen
four master shadow bitmap over Master = master
four master shadow bitmap over Shadow = shadow
four master shadow bitmap over Bitmap = bitmap
four master shadow bitmap over Over = over

-- a disk of a set with its master and its overflow volume
abbrev pub disk_at : CompactSet → OverSet → Seen → CompactDisk → Seen
disk_at s o m = four m (disk_of s.shadow) s.areas.disk o.disk
