use Rattle.std.proofs.Common.{rules, ◌≡◌, ◌*◌, ℕ, Err, replicate, ap, ◌∙◌, arith}
use Rattle.avs_chunks.proofs.formats.make_room.Goals as goal

pub returns-in_err-check_shadow-clause-refused : goal.returns-in_err-check_shadow-clause-refused
returns-in_err-check_shadow-clause-refused c =
    let is : c.from_residual.result ≡ Err c.in_err-check_shadow.field-0.0 = search rules in
    rw is (c.in_err-check_shadow.ensures.refused c.args.bitmap)

pub returns-clause-memory : goal.returns-clause-memory
returns-clause-memory c = c.in_ok-zeros.ensures.items ∙ ap (λ (n : ℕ). replicate {A = ℕ} (512 * n) 0) c.area_len-len.ensures.is

pub returns-clause-next : goal.returns-clause-next
returns-clause-next c = c.in_ok-zeros-2.ensures.items ∙ ap (λ (n : ℕ). replicate {A = ℕ} (512 * n) 0) c.area_len-len.ensures.is

pub returns-clause-fits : goal.returns-clause-fits
returns-clause-fits c = record { shadow = c.in_ok-check_shadow.ensures.ok; bitmap = omega (arith, c.area_len-len.ensures.is) }
