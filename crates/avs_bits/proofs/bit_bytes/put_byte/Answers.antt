use Rattle.std.proofs.Common.{◌≡◌, ◌+◌, ◌*◌, get_or, sym, ◌∙◌, arith}
use Rattle.std.proofs.lemmas.List.{get_or_read}
use Rattle.avs_bits.specs.Bit.{bit_of, byte_of}
use Rattle.avs_bits.proofs.SomeBits.{put_same}
use Rattle.avs_bits.proofs.WholeBytes.{same_byte, put_byte, byte_is}
use Rattle.avs_bits.proofs.bit_bytes.put_byte.Goals as goal

pub returns-then-index-byte-clause-put : goal.returns-then-index-byte-clause-put
returns-then-index-byte-clause-put c =
    let read : c.index.result.now ≡ get_or c.args.bytes.now.items c.args.index 0 = get_or_read c.args.bytes.now.items _ _ (omega arith) c.index.ensures 0 in
    let is : get_or c.args.bytes.now.items c.args.index 0 ≡ byte_of c.args.on = sym read ∙ c.if-index-byte.true ∙ c.byte_of-byte.ensures in
    put_same (bit_of c.args.bytes.now.items) (8 * c.args.index) (8 * (c.args.index + 1)) c.args.on (same_byte c.args.bytes.now.items c.args.index c.args.on is)

pub returns-clause-put : goal.returns-clause-put
returns-clause-put c = put_byte c.args.bytes.now.items c.args.index c.byte_of-byte.result c.args.on (omega arith) c.byte_of-byte.ensures

pub returns-clause-idle : goal.returns-clause-idle
returns-clause-idle c all =
    let read : c.index.result.now ≡ get_or c.args.bytes.now.items c.args.index 0 = get_or_read c.args.bytes.now.items _ _ (omega arith) c.index.ensures 0 in
    absurd (c.if-index-byte.false (read ∙ byte_is c.args.bytes.now.items c.args.index c.args.on (omega (arith, c.type_inv.bytes c.args.index)) all ∙ sym c.byte_of-byte.ensures))
