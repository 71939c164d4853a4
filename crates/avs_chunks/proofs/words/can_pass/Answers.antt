use Rattle.std.proofs.Common.{◌≡◌, ℕ, ◌+◌, ◌-◌, ◌*◌, ◌/◌, ◌<◌, sym, ap, ◌∙◌, arith}
use Rattle.avs_chunks.specs.States.{state_in}
use Rattle.avs_chunks.specs.Due.{is_due}
use Rattle.avs_chunks.proofs.words.can_pass.Goals as goal

pub returns-then-chunk-eq0 : goal.returns-then-chunk-eq0
returns-then-chunk-eq0 c = λ yes k low high.
    let lt : k - c.args.chunk < 32 = omega (arith, low, high) in
    let here : 4 * (c.args.chunk / 4) + (k - c.args.chunk) ≡ k = omega (arith, low) in
    ap (λ (n : ℕ). is_due c.args.independent n) (sym (c.word_at.ensures (k - c.args.chunk) lt ∙ ap (λ (i : ℕ). state_in c.args.bytes.now i) here))
    ∙ c.is_idle.ensures yes (k - c.args.chunk) lt
