-- Which blocks of a write that was stopped read as written.
use Rattle.std.specs.Prelude.{ℕ, List}
use Rattle.std.specs.List.{filter, range_with_len}
use Rattle.std.specs.Str.{bytes_eq}
use Rattle.avs_seg.specs.Image.{Image, block_at}
use Rattle.avs_model.specs.Filling.{fill}

-- of these n blocks, counted from 0, those that the pattern fills
abbrev pub filled_by : List ℕ → Image → ℕ → List ℕ
filled_by pattern blocks n = filter (λ i. bytes_eq (block_at blocks i) (fill pattern)) (range_with_len 0 n)
