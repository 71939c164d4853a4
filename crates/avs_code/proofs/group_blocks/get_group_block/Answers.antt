use Rattle.std.proofs.Common.{◌≡◌, Err, rules}
use Rattle.avs_code.specs.GroupBlock.{IsGroupBlock, group_block_rules, group_block_at}
use Rattle.avs_code.proofs.Ruled.{Reads-Ok, Reads-Err}
use Rattle.avs_code.proofs.GroupBlocks.{is_group_block, group_block_at-is, rules-is_group_block}
use Rattle.avs_code.proofs.group_blocks.get_group_block.Goals as goal

pub returns-in_err-check : goal.returns-in_err-check
returns-in_err-check c =
    let block = c.args.block.now in
    let is : c.from_residual.result ≡ Err c.in_err-check.field-0.0 = search rules in
    rw is (Reads-Err IsGroupBlock group_block_rules block _ (rules-is_group_block block) (rw c.group_block_rules.ensures at c.in_err-check.ensures))

pub returns : goal.returns
returns c =
    let block = c.args.block.now in
    let none = rw c.group_block_rules.ensures at c.in_ok-check.ensures in
    rw c.group_block_at.ensures (Reads-Ok IsGroupBlock group_block_rules block (group_block_at block) (is_group_block block c.told-block c.fits-block none) (group_block_at-is block) none)
