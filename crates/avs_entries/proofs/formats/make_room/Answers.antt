use Rattle.std.proofs.Common.{◌*◌, ℕ, replicate, ap, ◌∙◌}
use Rattle.avs_entries.proofs.formats.make_room.Goals as goal

pub returns-clause-memory : goal.returns-clause-memory
returns-clause-memory c = c.in_ok-zeros.ensures.items ∙ ap (λ (n : ℕ). replicate {A = ℕ} (512 * n) 0) c.area_len-len.ensures.is

pub returns-clause-next : goal.returns-clause-next
returns-clause-next c = c.in_ok-zeros-2.ensures.items ∙ ap (λ (n : ℕ). replicate {A = ℕ} (512 * n) 0) c.area_len-len.ensures.is

pub returns-clause-long : goal.returns-clause-long
returns-clause-long c = c.in_ok-zeros.ensures.len ∙ ap (λ (n : ℕ). 512 * n) c.area_len-len.ensures.is

pub returns-clause-next_long : goal.returns-clause-next_long
returns-clause-next_long c = c.in_ok-zeros-2.ensures.len ∙ ap (λ (n : ℕ). 512 * n) c.area_len-len.ensures.is
