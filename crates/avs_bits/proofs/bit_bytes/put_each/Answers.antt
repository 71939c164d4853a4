use Rattle.std.proofs.Common.{◌≡◌, ℕ, subst, arith}
use Rattle.avs_bits.specs.Bit.{bit_of, IsPut}
use Rattle.avs_bits.proofs.bit_bytes.put_each.Goals as goal

pub returns-clause-put : goal.returns-clause-put
returns-clause-put c =
    let end : c.loop-place.place ≡ c.args.to = omega arith in
    subst (λ (k : ℕ). IsPut (bit_of c.args.bytes.now.items) (bit_of c.loop-place.bytes.items) c.args.from k c.args.on) end c.loop-place.invariant.put

pub returns-clause-idle : goal.returns-clause-idle
returns-clause-idle c = λ all. c.loop-place.invariant.idle (λ p low high. all p low (omega arith))
