use Rattle.std.proofs.Common.{sym, ◌∙◌}
use Rattle.avs_sync.proofs.Notes.{note_at-is}
use Rattle.avs_sync.proofs.laws.one_spelling.Goals as goal

pub returns : goal.returns
returns c = record {
  value = λ bytes x y is also. sym (note_at-is bytes x is) ∙ note_at-is bytes y also;
  block = λ x a b is also. is.spelled ∙ sym also.spelled;
}
