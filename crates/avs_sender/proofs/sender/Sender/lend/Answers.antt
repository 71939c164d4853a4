use Rattle.std.proofs.Common.{subst, ℕ, List, is_ok}
use Rattle.avs_sender.proofs.Lendings.{lends}
use Rattle.avs_sender.proofs.sender.Sender.lend.Goals as goal

pub returns-clause-lends : goal.returns-clause-lends
returns-clause-lends g c =
    let keeps = rw (← c.self.view_is) at c.requires in
    let ran = subst (λ (bytes : List ℕ). g.E.Errand.ran c.args.errand.now c.self.inside.below bytes (is_ok c.run.result) c.run.new.self c.run.new.below) c.note-note.ensures c.run.ensures.ran in
    rw (← c.self.view_is) (lends (g.B.Below.IsSound c.self.inside.below) (g.B.Below.IsSound c.run.new.below) c.run.result c.self.inside.half (g.B.Below.seen c.self.inside.below) (g.B.Below.seen c.run.new.below)
    (keeps c.run.new.self c.run.new.below (is_ok c.run.result) ran))
