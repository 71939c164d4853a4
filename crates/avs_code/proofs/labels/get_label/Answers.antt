use Rattle.std.proofs.Common.{◌≡◌, Err, rules}
use Rattle.avs_code.specs.Label.{IsLabel, label_rules, label_at}
use Rattle.avs_code.proofs.Ruled.{Reads-Ok, Reads-Err}
use Rattle.avs_code.proofs.LabelBlocks.{is_label, label_at-is, rules-is_label}
use Rattle.avs_code.proofs.labels.get_label.Goals as goal

pub returns-in_err-check : goal.returns-in_err-check
returns-in_err-check c =
    let block = c.args.block.now in
    let is : c.from_residual.result ≡ Err c.in_err-check.field-0.0 = search rules in
    rw is (Reads-Err IsLabel label_rules block _ (rules-is_label block) (rw c.label_rules.ensures at c.in_err-check.ensures))

pub returns : goal.returns
returns c =
    let block = c.args.block.now in
    let none = rw c.label_rules.ensures at c.in_ok-check.ensures in
    rw c.label_at.ensures (Reads-Ok IsLabel label_rules block (label_at block) (is_label block c.told-block c.fits-block none) (label_at-is block) none)
