-- Segments: 64 blocks each, the last of a volume perhaps shorter.
use Rattle.std.specs.Prelude.{ℕ, ◌+◌, ◌-◌, ◌*◌, ◌/◌, Bool, not, List, length, min, take, drop, filter}
use Rattle.std.specs.List.{range_with_len}
use Rattle.std.specs.Cmp.Lexicographic.{pointwise}
use Rattle.std.specs.Str.{bytes_eq}
use Rattle.avs_seg.specs.Image.{Image}

-- how many segments a volume of so many blocks has
abbrev pub seg_count : ℕ → ℕ
seg_count blocks = (blocks + 63) / 64

-- how many blocks its segment s has
abbrev pub seg_len : ℕ → ℕ → ℕ
seg_len s blocks = min 64 (blocks - 64 * s)

-- the blocks of segment s
abbrev pub segment : Image → ℕ → Image
segment img s = take 64 (drop (64 * s) img)

-- the first segment of a range
abbrev pub first_segment : ℕ → ℕ
first_segment at = at / 64

-- how many segments a range of one block or more touches
abbrev pub touch_count : ℕ → ℕ → ℕ
touch_count at len = seg_count (at + len) - first_segment at

-- the segments of a range, rising
abbrev pub touch : ℕ → ℕ → List ℕ
touch at len = range_with_len (first_segment at) (touch_count at len)

-- whether two lists of blocks are the same
abbrev pub same_blocks : Image → Image → Bool
same_blocks a b = pointwise bytes_eq a b

-- the segments in which two images of equal length differ, rising
abbrev pub differ : Image → Image → List ℕ
differ a b = filter (λ s. not (same_blocks (segment a s) (segment b s))) (range_with_len 0 (seg_count (length a)))
