use Rattle.std.proofs.Common.{ℕ, List, ◌++◌, ◌<◌, [], ◌∷◌, sym, ◌∙◌, ap, arith}
use Rattle.std.specs.String.{string_bytes}
use Rattle.std.proofs.lemmas.Str.{encode_ascii}
use Rattle.avs_text.proofs.RunLemmas.{one_digit, one_digit_char}
use Rattle.avs_text.proofs.equal_runs.push_count.Goals as goal

pub returns-then-count-lt10 : goal.returns-then-count-lt10
returns-then-count-lt10 c =
    let few : c.args.count < 10 = omega (arith, c.if-count-lt10.true) in
    let char = c.hex_digit.result in
    c.in_ok-push.ensures.bytes
    ∙ ap (λ (l : List ℕ). string_bytes c.args.text.now ++ l) (encode_ascii char (one_digit_char c.args.count char few c.hex_digit.ensures) ∙ ap (λ (k : ℕ). k ∷ []) c.hex_digit.ensures ∙ sym (one_digit c.args.count few))
