-- What a source that keeps its line has taken and not given yet.
use Rattle.std.specs.Prelude.{ℕ, ◌-◌, List, take, drop}
use Rattle.avs_told.specs.declared.told.Told.{Told}
use Rattle.avs_told.specs.declared.kept.KeptLine.{KeptLine}

-- the bytes that were taken of the source below and not given yet
abbrev pub held : {S : Type 0} → Told S → List ℕ
held told = take (told.end - told.start) (drop told.start told.buffer)

-- the source below
abbrev pub below : {S : Type 0} → Told S → S
below told = told.source

-- the line that it is giving
abbrev pub line_in : {S : Type 0} → Told S → KeptLine
line_in told = told.kept
