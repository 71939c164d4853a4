use Rattle.std.proofs.Common.{arith}
use Rattle.avs_bits.proofs.SomeBits.{put_true}
use Rattle.avs_entries.proofs.alone.set_bit.Goals as goal

pub returns-clause-put : goal.returns-clause-put
returns-clause-put c = put_true c.args.map.now c.args.chunk (omega arith)
