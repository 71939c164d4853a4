use Rattle.std.proofs.Common.{ℕ, ◌+◌, ◌++◌, take, drop, ◌∙◌, ap}
use Rattle.avs_code.proofs.group_blocks.put_note.Goals as goal

pub returns-clause-after : goal.returns-clause-after
returns-clause-after c = c.put_part.ensures ∙ ap (λ (n : ℕ). (take 400 c.args.out.now ++ c.args.note.now) ++ drop (400 + n) c.args.out.now) c.told-note
