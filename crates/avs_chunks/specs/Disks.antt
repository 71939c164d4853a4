-- The three disks that a call works on, each by its name, and the blocks that it writes on them.
use Rattle.std.specs.Prelude.{ℕ, ◌+◌, ◌==◌, if◌then◌else◌}
use Rattle.avs_seg.specs.Segment.{seg_len}
use Rattle.avs_dev.specs.Seen.{Seen}
pub use Rattle.avs_dev.specs.Devices.{raised, Adds}
use Rattle.avs_chunks.specs.States.{on_master, split, on_shadow, sum_from}
use Rattle.avs_chunks.specs.ChunkSet.{ChunkSet, disk_of, state_of}

-- the disk of the master, of the shadow, and of the bitmap
pub data ChunkDisk : Type 0 where
  Master : ChunkDisk
  Shadow : ChunkDisk
  Bitmap : ChunkDisk

abbrev pub three : Seen → Seen → Seen → ChunkDisk → Seen
three master shadow bitmap Master = master
three master shadow bitmap Shadow = shadow
three master shadow bitmap Bitmap = bitmap

-- a disk of a set with its master
abbrev pub disk_at : ChunkSet → Seen → ChunkDisk → Seen
disk_at s m = three m (disk_of s.shadow) s.areas.disk

-- the blocks of a chunk in a state, of so many blocks, that is copied where its contents stand on one disk alone
abbrev pub copy_work : ℕ → ℕ → ChunkDisk → ℕ
copy_work state len Master = if state == on_shadow then len else 0
copy_work state len Shadow = if state == on_master then len else 0
copy_work state len Bitmap = 0

-- the copy, and then the block of its state
abbrev pub settle_work : ℕ → ℕ → ChunkDisk → ℕ
settle_work state len Master = copy_work state len Master
settle_work state len Shadow = copy_work state len Shadow
settle_work state len Bitmap = 1

-- the same of a chunk that is saved: nothing where it is split
abbrev pub save_work : ℕ → ℕ → ChunkDisk → ℕ
save_work state len d = if state == split then 0 else settle_work state len d

-- of the n chunks of a set from one on
abbrev pub range_work : ChunkSet → ℕ → ℕ → ChunkDisk → ℕ
range_work s first n d = sum_from (λ c. save_work (state_of s c) (seg_len c s.blocks) d) first n

-- the same, and so many blocks more on the shadow's disk
abbrev pub write_work : ChunkSet → ℕ → ℕ → ℕ → ChunkDisk → ℕ
write_work s first n len Master = range_work s first n Master
write_work s first n len Shadow = range_work s first n Shadow + len
write_work s first n len Bitmap = range_work s first n Bitmap
