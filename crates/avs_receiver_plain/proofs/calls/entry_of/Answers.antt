use Rattle.std.proofs.Common.{◌≡◌, ◌*◌, ◌/◌, ◌∙◌, length, arith}
use Rattle.avs_seg.proofs.Bytes.{length-blocks_of}
use Rattle.avs_receiver_plain.proofs.calls.entry_of.Goals as goal

pub returns-clause-blocks : goal.returns-clause-blocks
returns-clause-blocks c =
    let bytes = c.in_ok-bytes.bytes.items in
    let long : length bytes ≡ 512 * c.args.range.count = grind arith in
    let blocks : length bytes / 512 ≡ c.args.range.count = omega (arith, long) in
    rw c.new.ensures (length-blocks_of bytes ∙ blocks)
