-- Two areas of a disk, one behind the other, of which one is live and the other is staged.
use Rattle.std.specs.Prelude.{ℕ, ◌+◌, Bool, if◌then◌else◌}
use Rattle.avs_seg.specs.Image.{Image, range}
use Rattle.avs_dev.specs.Seen.{Seen}

-- a disk, the block from which on its two areas lie, how many blocks each has, and whether the second is live
pub record Areas : Type 0 where
  pub disk : Seen
  pub first : ℕ
  pub len : ℕ
  pub live_b : Bool

-- where the live area begins
abbrev pub live_from : Areas → ℕ
live_from a = if a.live_b then a.first + a.len else a.first

-- where the other one begins
abbrev pub staged_from : Areas → ℕ
staged_from a = if a.live_b then a.first else a.first + a.len

-- the blocks of the live area
unfoldable pub live : Areas → Image
live a = range a.disk.image (live_from a) a.len

-- the blocks of the other one
unfoldable pub staged : Areas → Image
staged a = range a.disk.image (staged_from a) a.len
