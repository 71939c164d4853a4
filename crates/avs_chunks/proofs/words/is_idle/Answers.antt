use Rattle.std.proofs.Common.{rules, ◌≡◌, ◌*◌, ◌/◌, ◌%◌, ◌^◌, Bool, true, false, bit_and, sym, subst}
use Rattle.std.proofs.lemmas.Bool.{eqb-true, false≢true}
use Rattle.avs_chunks.specs.Due.{is_due}
use Rattle.avs_chunks.proofs.WordStates.{idle_if}
use Rattle.avs_chunks.proofs.words.is_idle.Goals as goal

pub returns-then-independent : goal.returns-then-independent
returns-then-independent c = λ all j lt.
    let none : bit_and (bit_and c.args.word (c.args.word / 2 ^ 1)) 6148914691236517205 ≡ 0 = search rules in
    subst (λ (b : Bool). is_due b (c.args.word / 2 ^ (2 * j) % 4) ≡ false) (sym c.if-independent.true) (idle_if c.args.word j lt true none (λ _. eqb-true _ _ all))

pub returns : goal.returns
returns c = λ yes j lt.
    let none : bit_and (bit_and c.args.word (c.args.word / 2 ^ 1)) 6148914691236517205 ≡ 0 = search rules in
    subst (λ (b : Bool). is_due b (c.args.word / 2 ^ (2 * j) % 4) ≡ false) (sym c.if-independent.false) (idle_if c.args.word j lt false none (λ e. absurd (false≢true e)))
