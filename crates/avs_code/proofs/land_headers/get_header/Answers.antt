use Rattle.std.proofs.Common.{◌≡◌, Err, rules}
use Rattle.avs_code.specs.Header.{IsHeader, header_rules, header_at}
use Rattle.avs_code.proofs.Ruled.{Reads-Ok, Reads-Err}
use Rattle.avs_code.proofs.HeaderBlocks.{is_header, header_at-is, rules-is_header}
use Rattle.avs_code.proofs.land_headers.get_header.Goals as goal

pub returns-in_err-check : goal.returns-in_err-check
returns-in_err-check c =
    let magic = c.args.magic.now in
    let block = c.args.block.now in
    let is : c.from_residual.result ≡ Err c.in_err-check.field-0.0 = search rules in
    rw is (Reads-Err (IsHeader magic) (header_rules magic) block _ (rules-is_header magic c.told-magic block) (rw c.header_rules.ensures at c.in_err-check.ensures))

pub returns : goal.returns
returns c =
    let magic = c.args.magic.now in
    let block = c.args.block.now in
    let none = rw c.header_rules.ensures at c.in_ok-check.ensures in
    rw c.header_at.ensures (Reads-Ok (IsHeader magic) (header_rules magic) block (header_at block) (is_header magic c.told-magic block c.told-block c.fits-block none) (header_at-is magic c.told-magic block) none)
