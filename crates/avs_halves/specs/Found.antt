-- What is found of the sets of a half on their disks, and of its note.
use Rattle.std.specs.Prelude.{ℕ, ◌==◌, ◌&&◌, not, nat_lt, Bool, if◌then◌else◌, List, length, None, Some, slice_index_or}
use Rattle.std.specs.Int.{bit_at}
use Rattle.std.specs.Option.{option_map_or}
use Rattle.avs_seg.specs.Segment.{seg_count}
use Rattle.avs_dev.specs.Below.{BelowSeen, size_of}
use Rattle.avs_bits.specs.Bit.{disk_bit}
use Rattle.avs_bits.specs.BitSet.{place}
use Rattle.avs_mirrors.specs.Due.{Due}
use Rattle.avs_sync.specs.Parts.{MirrorSet}
use Rattle.avs_halves.specs.SetBits.{no_part}

abbrev pub part_at : List MirrorSet → ℕ → MirrorSet
part_at sets set = slice_index_or sets set no_part

-- whether the disk of a set's bits has one for a segment of its volume
abbrev pub bit_found : BelowSeen → List MirrorSet → ℕ → ℕ → Bool
bit_found below sets set seg = nat_lt set (length sets) && nat_lt seg (seg_count (size_of below (part_at sets set).vol)) && disk_bit (part_at sets set).bits.image (place seg)

abbrev pub due_found : BelowSeen → List MirrorSet → Due
due_found below sets set seg = if bit_found below sets set seg then Some 0 else None

-- the note that lies on its disk, where that is told
abbrev pub stored_bytes : BelowSeen → List ℕ
stored_bytes below = option_map_or (λ bytes. bytes) below.stored below.note

-- a slot is not one of those without contents
abbrev pub is_filled : ℕ → ℕ → Bool
is_filled empty slot = not (bit_at empty slot == 1)
