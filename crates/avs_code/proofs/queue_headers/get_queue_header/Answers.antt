use Rattle.std.proofs.Common.{◌≡◌, Err, rules}
use Rattle.avs_code.specs.QueueHeader.{IsQueueHeader, queue_header_rules, queue_header_at}
use Rattle.avs_code.proofs.Ruled.{Reads-Ok, Reads-Err}
use Rattle.avs_code.proofs.QueueBlocks.{is_queue_header, queue_header_at-is, rules-is_queue_header}
use Rattle.avs_code.proofs.queue_headers.get_queue_header.Goals as goal

pub returns-in_err-check : goal.returns-in_err-check
returns-in_err-check c =
    let block = c.args.block.now in
    let is : c.from_residual.result ≡ Err c.in_err-check.field-0.0 = search rules in
    rw is (Reads-Err IsQueueHeader queue_header_rules block _ (rules-is_queue_header block) (rw c.queue_header_rules.ensures at c.in_err-check.ensures))

pub returns : goal.returns
returns c =
    let block = c.args.block.now in
    let none = rw c.queue_header_rules.ensures at c.in_ok-check.ensures in
    rw c.queue_header_at.ensures (Reads-Ok IsQueueHeader queue_header_rules block (queue_header_at block) (is_queue_header block c.told-block c.fits-block none) (queue_header_at-is block) none)
