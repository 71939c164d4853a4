use Rattle.std.proofs.Common.{arith}
use Rattle.avs_bits.proofs.SomeBits.{put_true}
use Rattle.avs_entries.proofs.parts.set_bit.Goals as goal

pub returns : goal.returns
returns c = put_true c.args.bits.now c.args.place (omega arith)
