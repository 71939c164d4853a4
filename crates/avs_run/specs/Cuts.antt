-- What is printed of a text where printing failed.
use Rattle.std.specs.Prelude.{ℕ, ◌≡◌, Option, List, take}
use Rattle.std.specs.Io.KnownBytes.{append_known}
use Rattle.avs_run.specs.declared.print.PrintFault.{PrintFault}
use Rattle.avs_run.specs.declared.print.PrintFault.TheVariants.{Sink, NoMemory}

-- the first bytes where the sink failed, and nothing where there was no memory
abbrev pub Cuts : Option (List ℕ) → Option (List ℕ) → List ℕ → PrintFault → Type 0
Cuts before after text Sink = (count : ℕ) × (after ≡ append_known before (take count text))
Cuts before after text NoMemory = after ≡ before
