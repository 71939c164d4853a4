use Rattle.avs_receiver.proofs.Lent.{is_lent}
use Rattle.avs_receiver.proofs.receiver.Receiver.lend.Goals as goal

pub returns-clause-lent : goal.returns-clause-lent
returns-clause-lent g c =
    let may = rw (← c.self.view_is) at c.requires in
    let ran = rw (c.note-note.ensures) at c.run.ensures.ran in
    rw (← c.self.view_is) (is_lent (g.B.Below.seen c.self.inside.below) (g.B.Below.seen c.run.new.below) c.self.inside.half (may _ _ _ ran) _ _)
