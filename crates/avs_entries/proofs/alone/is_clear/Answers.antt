use Rattle.std.proofs.Common.{◌+◌, refl, sym, ◌∙◌, arith}
use Rattle.std.proofs.lemmas.Bool.{eqb-true}
use Rattle.avs_bits.proofs.WholeBytes.{zero_word}
use Rattle.avs_entries.proofs.alone.is_clear.Goals as goal

pub returns : goal.returns
returns c = λ none. zero_word c.args.map.now c.copy_from_slice.new.self c.args.at (c.args.at + 8) refl c.copy_from_slice.ensures.after c.copy_from_slice.ensures.len (λ i. omega (arith, c.type_inv.map i)) (sym c.from_be_bytes.ensures ∙ eqb-true _ 0 none)
