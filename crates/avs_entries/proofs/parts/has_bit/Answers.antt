use Rattle.avs_bits.proofs.SomeBits.{tested}
use Rattle.avs_entries.proofs.parts.has_bit.Goals as goal

pub returns : goal.returns
returns c = tested c.args.bits.now c.args.place
