use Rattle.std.proofs.Common.{◌≡◌, Err, rules}
use Rattle.avs_code.specs.ConfigHeader.{IsConfigHeader, config_header_rules, config_header_at}
use Rattle.avs_code.proofs.Ruled.{Reads-Ok, Reads-Err}
use Rattle.avs_code.proofs.ConfigBlocks.{is_config_header, config_header_at-is, rules-is_config_header}
use Rattle.avs_code.proofs.config_headers.get_config_header.Goals as goal

pub returns-in_err-check : goal.returns-in_err-check
returns-in_err-check c =
    let block = c.args.block.now in
    let is : c.from_residual.result ≡ Err c.in_err-check.field-0.0 = search rules in
    rw is (Reads-Err IsConfigHeader config_header_rules block _ (rules-is_config_header block) (rw c.config_header_rules.ensures at c.in_err-check.ensures))

pub returns : goal.returns
returns c =
    let block = c.args.block.now in
    let none = rw c.config_header_rules.ensures at c.in_ok-check.ensures in
    rw c.config_header_at.ensures (Reads-Ok IsConfigHeader config_header_rules block (config_header_at block) (is_config_header block c.told-block c.fits-block none) (config_header_at-is block) none)
