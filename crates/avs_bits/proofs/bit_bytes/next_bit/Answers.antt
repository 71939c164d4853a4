use Rattle.std.proofs.Common.{inl, inr, arith}
use Rattle.std.proofs.lemmas.Bool.{cases_lt}
use Rattle.avs_bits.proofs.SomeBits.{bit_of-zero_byte}
use Rattle.avs_bits.proofs.bit_bytes.next_bit.Goals as goal

pub loop-place-preserved-then-bytes-place-eq0 : goal.loop-place-preserved-then-bytes-place-eq0
loop-place-preserved-then-bytes-place-eq0 c = record {
  fits = omega arith;
  after = omega arith;
  zeros = λ q low high. elim (cases_lt q c.loop-place.place) [
    | inl below ↦ c.loop-place.invariant.zeros q low below
    | inr not_below ↦ bit_of-zero_byte c.args.bytes.now c.loop-place.place q c.if-bytes-place-eq0.true (omega arith)
  ];
}
