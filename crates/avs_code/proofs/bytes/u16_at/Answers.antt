use Rattle.std.proofs.Common.{◌∙◌}
use Rattle.avs_code.proofs.Numbers.{u16_at-reads}
use Rattle.avs_code.proofs.bytes.u16_at.Goals as goal

pub returns : goal.returns
returns c = c.from_be_bytes.ensures ∙ u16_at-reads c.args.block.now c.args.at
