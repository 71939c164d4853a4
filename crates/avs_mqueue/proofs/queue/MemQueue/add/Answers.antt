use Rattle.std.proofs.Common.{ℕ, ◌-◌, ap, refl, ◌∙◌}
use Rattle.avs_mqueue.proofs.QueueLemmas.{pushes}
use Rattle.avs_mqueue.proofs.queue.MemQueue.add.Goals as goal

pub returns-clause-pushes : goal.returns-clause-pushes
returns-clause-pushes c =
    let next = rw (← c.self.view_is) at c.requires.next in
    rw (← c.self.view_is) (
    let was = c.self.inside in
    let held = c.len-held.ensures ∙ was.entries.ok.0 in
    pushes (record { first = was.first; entries = was.entries.items; limits = was.limits }) _ c.args.place c.args.entry c.push_back_reserved.ensures.items (ap (λ (n : ℕ). c.args.place - n) held) next refl)
