use Rattle.std.proofs.Common.{◌≡◌, drop}
use Rattle.avs_model.specs.Rows.{first_row}
use Rattle.avs_refusals.proofs.rows.first_row.Given as goal

abbrev pub invariant-loop-i : goal.invariant-loop-i
invariant-loop-i l = record { same : l.rows ≡ l.initial.rows; left : first_row (drop l.i l.rows) ≡ first_row l.initial.rows }
