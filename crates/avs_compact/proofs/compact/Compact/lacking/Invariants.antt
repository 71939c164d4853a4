use Rattle.std.proofs.Common.{◌≡◌, ◌≤◌}
use Rattle.avs_compact.specs.Saving.{lacking}
use Rattle.avs_compact.proofs.compact.Compact.lacking.Given as goal

abbrev pub invariant-loop-place : goal.invariant-loop-place
invariant-loop-place g l = record {
  counted : l.lacking ≡ lacking l.fn.self l.first l.place;
  small : l.lacking ≤ l.place;
}
