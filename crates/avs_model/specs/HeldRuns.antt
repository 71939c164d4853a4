-- Runs of equal blocks, as they are held: how many blocks each has, and the pattern that fills them.
use Rattle.std.specs.Prelude.{◌≡◌, ℕ, ◌+◌, ◌-◌, ◌<◌, ◌≤◌, ⊤, List, [], ◌∷◌, ◌++◌, length, map, take, drop, replicate}
use Rattle.std.specs.List.{flat_map}
use Rattle.avs_seg.specs.Image.{Image}
use Rattle.avs_model.specs.Filling.{fill, shortest_pattern}
use Rattle.avs_model.specs.EqualBlocks.{EqualRun, runs_of}
use Rattle.avs_model.specs.declared.equal_runs.Run.{Run}

-- the pattern of a run, where it lies among the patterns
abbrev pub pattern_of : List ℕ → Run → List ℕ
pattern_of patterns run = take run.len (drop run.start patterns)

-- the blocks of runs
abbrev pub blocks_of_runs : List ℕ → List Run → Image
blocks_of_runs patterns runs = flat_map (λ run. replicate run.count (fill (pattern_of patterns run))) runs

-- how many blocks a run has, and the shortest pattern that fills each
pub record RunForm : Type 0 where
  pub count : ℕ
  pub pattern : List ℕ

abbrev pub form_of : EqualRun → RunForm
form_of run = record { count = run.count; pattern = shortest_pattern run.block }

abbrev pub forms_held : List ℕ → List Run → List RunForm
forms_held patterns runs = map (λ run. record { count = run.count; pattern = pattern_of patterns run }) runs

-- a run whose pattern ends the patterns, from `start` on
abbrev pub closed_run : List ℕ → ℕ → ℕ → Run
closed_run patterns count start = record { count = count; start = start; len = length patterns - start }

-- each pattern lies among so many bytes
abbrev pub AreWithin : ℕ → List Run → Type 0
AreWithin len [] = ⊤
AreWithin len (run ∷ runs) = (run.start + run.len ≤ len) × AreWithin len runs

-- the runs of all blocks but those of the last run, whose pattern is the shortest for its block: what follows these blocks, a block of the
-- last run first, goes on with the last run
pub record AreRuns (patterns : List ℕ) (runs : List Run) (count : ℕ) (last : List ℕ) : Type 0 where
  pub within : AreWithin (length patterns) runs
  pub none : count ≡ 0 → runs ≡ []
  pub shortest : 0 < count → shortest_pattern (fill last) ≡ last
  pub apart : (rest : Image) → map form_of (runs_of (blocks_of_runs patterns runs ++ fill last ∷ rest)) ≡ forms_held patterns runs ++ map form_of (runs_of (fill last ∷ rest))

-- the last run has so many blocks, and its pattern ends the patterns, from `start` on
abbrev pub blocks_held : List ℕ → List Run → ℕ → ℕ → Image
blocks_held patterns runs count start = blocks_of_runs (take start patterns) runs ++ replicate count (fill (drop start patterns))

pub record HoldsRuns (patterns : List ℕ) (runs : List Run) (count start : ℕ) : Type 0 where
  pub room : start ≤ length patterns
  pub are : AreRuns (take start patterns) runs count (drop start patterns)
