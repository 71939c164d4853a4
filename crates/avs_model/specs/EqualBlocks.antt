-- Runs of equal blocks in an image.
use Rattle.std.specs.Prelude.{ℕ, ◌+◌, List, [], ◌∷◌, slice_index_or, if◌then◌else◌}
use Rattle.std.specs.Str.{bytes_eq}
use Rattle.avs_seg.specs.Image.{Block, Image}

-- equal blocks, one after another
pub record EqualRun : Type 0 where
  pub count : ℕ
  pub block : Block

-- a block in front of runs: one more of the first run, where it is equal to that run's block
abbrev pub onto_run : Block → List EqualRun → List EqualRun
onto_run block [] = record { count = 1; block = block } ∷ []
onto_run block (run ∷ runs) =
    if bytes_eq block run.block then record { count = run.count + 1; block = run.block } ∷ runs else record { count = 1; block = block } ∷ run ∷ runs

-- the runs of equal blocks, each as long as possible
abbrev pub runs_of : Image → List EqualRun
runs_of [] = []
runs_of (block ∷ blocks) = onto_run block (runs_of blocks)

-- run i of an image
abbrev pub run_at : Image → ℕ → EqualRun
run_at img i = slice_index_or (runs_of img) i (record { count = 0; block = [] })
