use Rattle.std.proofs.Common.{arith}
use Rattle.avs_bits.proofs.SomeBits.{put_false}
use Rattle.avs_entries.proofs.alone.clear_bit.Goals as goal

pub returns-clause-put : goal.returns-clause-put
returns-clause-put c = put_false c.args.map.now c.args.chunk (omega arith)
