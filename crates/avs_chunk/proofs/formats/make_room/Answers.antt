use Rattle.std.proofs.Common.{rules, ◌≡◌, ◌*◌, ℕ, Err, replicate, ap, ◌∙◌}
use Rattle.avs_chunk.proofs.formats.make_room.Goals as goal

pub returns-in_err-check_shadow-clause-refused : goal.returns-in_err-check_shadow-clause-refused
returns-in_err-check_shadow-clause-refused c =
    let is : c.from_residual.result ≡ Err c.in_err-check_shadow.field-0.0 = search rules in
    rw is (c.in_err-check_shadow.ensures.refused c.args.bitmap)

pub returns-clause-memory : goal.returns-clause-memory
returns-clause-memory c = c.in_ok-zeros.ensures.items ∙ ap (λ (n : ℕ). replicate {A = ℕ} (512 * n) 0) c.area_len-len.ensures.is
