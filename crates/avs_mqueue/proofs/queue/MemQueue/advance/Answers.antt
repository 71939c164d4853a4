use Rattle.std.proofs.Common.{inl, inr, ◌-◌, sym, ◌∙◌, arith}
use Rattle.avs_mqueue.proofs.QueueLemmas.{advances}
use Rattle.avs_mqueue.proofs.queue.MemQueue.advance.Goals as goal

pub returns-in_default-clause-advances : goal.returns-in_default-clause-advances
returns-in_default-clause-advances c = rw (← c.self.view_is) (
    let start = c.self.inside in
    let now = c.loop-self.self-inside in
    let so_far = c.loop-self.invariant in
    let none = c.in_default.ensures in
    advances (record { first = start.first; entries = start.entries.items; limits = start.limits }) _ c.args.upto (now.first - start.first) (sym none.items ∙ so_far.entries) (omega arith)
    (omega (arith, start.entries.ok.0, now.entries.ok.0)) so_far.reached (inl (omega (arith, none.cases.0, start.entries.ok.0))) so_far.limits)

pub returns-clause-advances : goal.returns-clause-advances
returns-clause-advances c = rw (← c.self.view_is) (
    let start = c.self.inside in
    let now = c.loop-self.self-inside in
    let so_far = c.loop-self.invariant in
    advances (record { first = start.first; entries = start.entries.items; limits = start.limits }) _ c.args.upto (now.first - start.first) so_far.entries (omega arith)
    (omega (arith, start.entries.ok.0, now.entries.ok.0)) so_far.reached (inr (omega arith)) so_far.limits)
