use Rattle.std.specs.Prelude.{IsTrue}
use Rattle.avs_model.specs.Filling.{is_pattern_length}
use Rattle.avs_model.proofs.FillLemmas.{Repeats}
use Rattle.avs_model.proofs.equal_runs.shortest_pattern.Given as goal

abbrev pub invariant-loop-len : goal.invariant-loop-len
invariant-loop-len l = IsTrue (is_pattern_length l.len) × Repeats l.len l.block 512

abbrev pub decreases-loop-len : goal.decreases-loop-len
decreases-loop-len l = l.len
