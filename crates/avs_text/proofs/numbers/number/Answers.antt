use Rattle.std.proofs.Common.{◌≡◌, ◌∙◌, ap, [], drop, refl, get_or, sym, arith}
use Rattle.std.proofs.lemmas.List.{drop_all}
use Rattle.avs_model.specs.Words.{value_behind}
use Rattle.avs_text.proofs.Numerals.{number-at, number-all}
use Rattle.avs_text.proofs.numbers.number.Goals as goal

pub returns-in_err-value : goal.returns-in_err-value
returns-in_err-value c =
    let word = c.args.word.now in
    let i = c.loop-digit.digit-index in
    c.from_residual.ensures ∙ sym (number-at word i c.loop-digit.value (get_or word i 0) c.loop-digit-test.true refl c.loop-digit.invariant.value c.in_err-value.ensures)

pub returns : goal.returns
returns c =
    let word = c.args.word.now in
    let end : drop c.loop-digit.digit-index word ≡ [] = drop_all c.loop-digit.digit-index word c.loop-digit-test.false in
    sym (number-all word c.loop-digit.value (sym (ap (value_behind c.loop-digit.value) end) ∙ c.loop-digit.invariant.value) (omega arith) (sym c.is_numeral.ensures ∙ c.if-not-is_numeral.false))
