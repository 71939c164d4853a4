-- Patterns, and the blocks that they fill.
use Rattle.std.specs.Prelude.{ℕ, ◌%◌, ◌==◌, Bool, List, [], ◌∷◌, length, map, take, slice_index, if◌then◌else◌}
use Rattle.std.specs.List.{range_with_len, list_any}
use Rattle.std.specs.Str.{bytes_eq}
use Rattle.avs_seg.specs.Image.{Block}

-- the lengths of patterns, shortest first
abbrev pub pattern_lengths : List ℕ
pattern_lengths = 1 ∷ 2 ∷ 4 ∷ 8 ∷ 16 ∷ []

abbrev pub is_pattern_length : ℕ → Bool
is_pattern_length n = list_any (λ k. n == k) pattern_lengths

-- the block that a pattern fills, again and again
unfoldable pub fill : List ℕ → Block
fill pattern = map (λ i. slice_index pattern (i % length pattern)) (range_with_len 0 512)

-- the first so many bytes of the block, for the first of these lengths whose bytes fill it, else all of it
abbrev pub first_filling : List ℕ → Block → List ℕ
first_filling [] block = block
first_filling (n ∷ lengths) block = if bytes_eq (fill (take n block)) block then take n block else first_filling lengths block

-- the shortest pattern that fills the block, else all its bytes
abbrev pub shortest_pattern : Block → List ℕ
shortest_pattern block = first_filling pattern_lengths block
