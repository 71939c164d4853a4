-- What is printed of a line that is no statement.
use Rattle.std.specs.Prelude.{ℕ, ◌≡◌, Option, List, take}
use Rattle.std.specs.Io.KnownBytes.{append_known}
use Rattle.avs_model.specs.Printed.{bad_line}
use Rattle.avs_run.specs.declared.end.End.{End}
use Rattle.avs_run.specs.declared.end.End.TheVariants.{Whole, BadLine, SourceFault, SinkFault, RackFault, NoMemory, OverBudget}

abbrev pub TellsBad : Option (List ℕ) → Option (List ℕ) → ℕ → End → Type 0
TellsBad before after number Whole = ⊥
TellsBad before after number BadLine = after ≡ append_known before (bad_line number)
TellsBad before after number SourceFault = ⊥
TellsBad before after number SinkFault = (count : ℕ) × (after ≡ append_known before (take count (bad_line number)))
TellsBad before after number RackFault = ⊥
TellsBad before after number NoMemory = after ≡ before
TellsBad before after number OverBudget = ⊥
