use Rattle.avs_bits.proofs.SomeBits.{tested}
use Rattle.avs_bits.proofs.bit_bytes.has_bit.Goals as goal

pub returns : goal.returns
returns c = tested c.args.bytes.now c.args.place
