-- The mirror sets of a half with their bits.
use Rattle.std.specs.Prelude.{ℕ, ◌&&◌, nat_lt, Bool, false, if◌then◌else◌, List, [], Option, None, Some, slice_index_or}
use Rattle.avs_dev.specs.Seen.{Seen, IsTold}
use Rattle.avs_bits.specs.BitSet.{BitSet, set_of, IsInStep}
use Rattle.avs_sync.specs.Parts.{MirrorSet}
use Rattle.avs_mirrors.specs.Due.{Due}

-- a mirror set: its volume below the half, its slot in the note, and its bits
pub record SetBits : Type 0 where
  pub vol : ℕ
  pub slot : ℕ
  pub bits : BitSet

-- what it is loaded from, and taken apart into
abbrev pub part_of : SetBits → MirrorSet
part_of s = record { vol = s.vol; slot = s.slot; bits = s.bits.disk }

-- a place where there is no set
abbrev pub no_disk : Seen
no_disk = record { image = []; size = 0; faults = 0; written = 0; steady = false; armed = false; tear = None; arms = false }

abbrev pub no_set : SetBits
no_set = record { vol = 0; slot = 0; bits = record { disk = no_disk; bytes = []; segs = 0; stamp = 0 } }

abbrev pub no_part : MirrorSet
no_part = record { vol = 0; slot = 0; bits = no_disk }

-- a set by its place among the half's sets, and the disk of its bitmap
abbrev pub set_at : List SetBits → ℕ → SetBits
set_at sets set = slice_index_or sets set no_set

abbrev pub disk_at : List SetBits → ℕ → Seen
disk_at sets set = (set_at sets set).bits.disk

-- whether a segment of a set has a bit
abbrev pub has_bit : SetBits → ℕ → Bool
has_bit s seg = nat_lt seg s.bits.segs && set_of s.bits seg

-- each bit is due, and no place frees it
abbrev pub due_in : SetBits → ℕ → Option ℕ
due_in s seg = if has_bit s seg then Some 0 else None

abbrev pub due_of : List SetBits → Due
due_of sets set seg = due_in (set_at sets set) seg

-- the disks tell their blocks, and hold the bits that are in memory
pub record AreInStep (sets : List SetBits) : Type 0 where
  pub told : (set : ℕ) → IsTold (disk_at sets set)
  pub step : (set : ℕ) → IsInStep (set_at sets set).bits
