use Rattle.std.proofs.Common.{◌∙◌}
use Rattle.avs_code.proofs.Numbers.{u32_at-reads}
use Rattle.avs_code.proofs.bytes.u32_at.Goals as goal

pub returns : goal.returns
returns c = c.from_be_bytes.ensures ∙ u32_at-reads c.args.block.now c.args.at
