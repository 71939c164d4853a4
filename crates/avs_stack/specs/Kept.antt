-- What is seen of a name and of what is kept by it.
use Rattle.std.specs.Prelude.{ℕ, List}
use Rattle.avs_stack.specs.declared.stack.Kept.{Kept}
use Rattle.avs_stack.specs.Names.{Named}

abbrev pub named : {K : Type 0} → (K → List ℕ) → K × Kept → Named
named bytes entry = record { name = bytes entry.0; number = entry.1.number; roles = entry.1.roles }
