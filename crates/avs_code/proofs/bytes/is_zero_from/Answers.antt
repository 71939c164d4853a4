use Rattle.std.proofs.Common.{ap, ◌∙◌}
use Rattle.std.proofs.lemmas.List.{take_rest}
use Rattle.avs_code.specs.Bytes.{all_zero}
use Rattle.avs_code.proofs.bytes.is_zero_from.Goals as goal

pub returns : goal.returns
returns c = c.is_zero.ensures ∙ ap all_zero (take_rest c.args.block.now c.args.at)
