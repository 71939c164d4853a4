use Rattle.avs_compact.specs.CompactSet.{over_of}
use Rattle.avs_held.proofs.Slotted.{served_set}
use Rattle.avs_held.proofs.SlotCalls.{saves_set, saved_seat, saved_counts}
use Rattle.avs_held.proofs.slots.HeldCompact.save_before.Goals as goal

pub save_before-saved-requires-clause-slots : goal.save_before-saved-requires-clause-slots
save_before-saved-requires-clause-slots g c = served_set c.self.inside.seat c.self.inside.compact (over_of c.args.over.now) c.keeps_form.ensures.form (rw (← c.self.view_is) at c.requires.served)

pub invariant_of-self : goal.invariant_of-self
invariant_of-self g c = saved_seat c.self.inside.seat c.self.inside.compact c.save_before-saved.new.self (g.D.Disk.seen c.args.master.now) (g.D.Disk.seen c.save_before-saved.new.master) (over_of c.args.over.now) (over_of c.save_before-saved.new.over) c.args.first c.args.count c.save_before-saved.result c.self.invariant c.save_before-saved.ensures.saves

pub returns-clause-saves : goal.returns-clause-saves
returns-clause-saves g c =
    let inside = rw (← c.self.view_is) at c.requires.inside in
    rw (← c.self.view_is) (saves_set c.self.inside.seat c.self.inside.compact c.save_before-saved.new.self (g.D.Disk.seen c.args.master.now) (g.D.Disk.seen c.save_before-saved.new.master) (over_of c.args.over.now) (over_of c.save_before-saved.new.over) c.args.first c.args.count c.save_before-saved.result c.self.invariant c.keeps_form.ensures.form c.keeps_form-2.ensures.form inside c.save_before-saved.ensures.saves)

pub returns-clause-counts : goal.returns-clause-counts
returns-clause-counts g c =
    let inside = rw (← c.self.view_is) at c.requires.inside in
    rw (← c.self.view_is) (saved_counts c.self.inside.seat c.self.inside.compact c.save_before-saved.new.self (g.D.Disk.seen c.args.master.now) (g.D.Disk.seen c.save_before-saved.new.master) (over_of c.args.over.now) (over_of c.save_before-saved.new.over)
    c.args.first c.args.count c.save_before-saved.result inside c.save_before-saved.ensures.saves)
