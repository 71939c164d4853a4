-- How a run ends: the status, and what a line that ends it has written.
use Rattle.std.specs.Prelude.{ℕ, ◌≡◌, List, Option}
use Rattle.std.specs.Io.KnownBytes.{append_known}
use Rattle.avs_model.specs.Script.{Script}
use Rattle.avs_model.specs.Promise.{Claim, IsAnsweredToBad, IsCutBySink, IsCutByRack, IsCutByMemory}
use Rattle.avs_run.specs.declared.end.End.{End}
use Rattle.avs_run.specs.declared.end.End.TheVariants.{Whole, BadLine, SourceFault, SinkFault, RackFault, NoMemory, OverBudget}

abbrev pub status_of : End → ℕ
status_of Whole = 0
status_of BadLine = 3
status_of SourceFault = 4
status_of SinkFault = 5
status_of RackFault = 6
status_of NoMemory = 7
status_of OverBudget = 8

-- an end that a line can bring
abbrev pub IsLineEnd : End → Type 0
IsLineEnd Whole = ⊥
IsLineEnd BadLine = Unit {0}
IsLineEnd SourceFault = ⊥
IsLineEnd SinkFault = Unit {0}
IsLineEnd RackFault = Unit {0}
IsLineEnd NoMemory = Unit {0}
IsLineEnd OverBudget = ⊥

-- what was written of the answers to a script, where a line ended it so
abbrev pub EndsIn : Claim → End → Script → List ℕ → Type 0
EndsIn claim Whole given bytes = ⊥
EndsIn claim BadLine given bytes = IsAnsweredToBad claim given bytes
EndsIn claim SourceFault given bytes = ⊥
EndsIn claim SinkFault given bytes = IsCutBySink claim given bytes
EndsIn claim RackFault given bytes = IsCutByRack claim given bytes
EndsIn claim NoMemory given bytes = IsCutByMemory claim given bytes
EndsIn claim OverBudget given bytes = ⊥

-- more bytes were written, of which this holds
abbrev pub Printed : Option (List ℕ) → Option (List ℕ) → (List ℕ → Type 0) → Type 0
Printed before after P = (more : List ℕ) × (after ≡ append_known before more) × P more
