use Rattle.std.proofs.Common.{arith, ◌≡◌, ◌/◌, get_or}
use Rattle.std.proofs.lemmas.List.{get_or_read}
use Rattle.avs_bits.proofs.SomeBits.{put_true}
use Rattle.avs_bits.proofs.bit_bytes.set_bit.Goals as goal

pub returns-clause-put : goal.returns-clause-put
returns-clause-put c =
    let read : c.index_mut.result.now ≡ get_or c.args.bytes.now.items (c.args.place / 8) 0 = get_or_read c.args.bytes.now.items _ _ (omega arith) c.index_mut.ensures.value 0 in
    rw read (put_true c.args.bytes.now.items c.args.place (omega arith))
