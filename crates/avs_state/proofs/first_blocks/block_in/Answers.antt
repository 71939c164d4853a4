use Rattle.std.proofs.Common.{◌∙◌, ◌*◌, ◌+◌, refl, arith}
use Rattle.avs_state.proofs.FirstBlocks.{block_between}
use Rattle.avs_state.proofs.first_blocks.block_in.Goals as goal

pub returns : goal.returns
returns c = c.copy_from_slice.ensures.after ∙ block_between c.args.bytes.now c.args.at (512 * c.args.at) (512 * c.args.at + 512) refl refl (omega arith)
