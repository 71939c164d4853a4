-- The limits of scripts.
use Rattle.std.specs.Prelude.{ℕ, ◌+◌, ◌*◌, ◌/◌, ◌^◌}
use Rattle.avs_seg.specs.Segment.{seg_count}

-- a volume: at least and at most so many blocks
abbrev pub least_volume : ℕ
least_volume = 64

abbrev pub largest_volume : ℕ
largest_volume = 262144

-- the blocks of all volumes together
abbrev pub all_volumes : ℕ
all_volumes = 1048576

-- the blocks of a shadow set's bitmap, for a master of so many: a label, and twice the states of its chunks, 2,048 in a block
abbrev pub bitmap_blocks : ℕ → ℕ
bitmap_blocks blocks = 1 + 2 * ((seg_count blocks + 2047) / 2048)

-- the shadow sets of a host, for now
abbrev pub most_sets : ℕ
most_sets = 1

-- the blocks of a write and of a read
abbrev pub longest_write : ℕ
longest_write = 256

abbrev pub longest_read : ℕ
longest_read = 4096

-- the shadow sets of a group; the groups, the imports and the overflow volumes of a host
abbrev pub most_group_sets : ℕ
most_group_sets = 16

abbrev pub most_groups : ℕ
most_groups = 16

abbrev pub most_imports : ℕ
most_imports = 64

abbrev pub most_overflows : ℕ
most_overflows = 64

-- the texts of commands, and the lines of one
abbrev pub most_texts : ℕ
most_texts = 16

abbrev pub most_lines : ℕ
most_lines = 1024

-- session numbers, places and stamps
abbrev pub largest_number : ℕ
largest_number = 2 ^ 62

-- the blocks of a compact set's bitmap, for a master of so many: a label, and twice the entries of its chunks, 128 in a block
abbrev pub compact_bitmap_blocks : ℕ → ℕ
compact_bitmap_blocks blocks = 1 + 2 * ((seg_count blocks + 127) / 128)

-- the blocks of an import's bitmap, for a volume of so many: a label, and a bit for each segment, 4,096 in a block
abbrev pub import_blocks : ℕ → ℕ
import_blocks blocks = 1 + (seg_count blocks + 4095) / 4096
