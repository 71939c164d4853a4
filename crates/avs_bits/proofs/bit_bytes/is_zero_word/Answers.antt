use Rattle.std.proofs.Common.{◌+◌, refl, sym, ◌∙◌, arith}
use Rattle.std.proofs.lemmas.Bool.{eqb-true}
use Rattle.avs_bits.proofs.WholeBytes.{zero_word}
use Rattle.avs_bits.proofs.bit_bytes.is_zero_word.Goals as goal

pub returns : goal.returns
returns c = λ none. zero_word c.args.bytes.now c.copy_from_slice.new.self c.args.at (c.args.at + 8) refl c.copy_from_slice.ensures.after c.copy_from_slice.ensures.len (λ i. omega (arith, c.type_inv.bytes i)) (sym c.from_be_bytes.ensures ∙ eqb-true _ 0 none)
