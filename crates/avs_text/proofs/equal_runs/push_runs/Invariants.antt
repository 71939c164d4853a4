use Rattle.std.proofs.Common.{◌≡◌, ◌<◌, ◌++◌}
use Rattle.std.specs.String.{string_bytes}
use Rattle.avs_text.proofs.RunLemmas.{first_runs}
use Rattle.avs_text.proofs.equal_runs.push_runs.Given as goal

abbrev pub invariant-loop-index : goal.invariant-loop-index
invariant-loop-index l = (0 < l.index) × (string_bytes l.text ≡ string_bytes l.fn.text ++ first_runs l.runs l.index)
