use Rattle.avs_compact.specs.CompactSet.{over_of}
use Rattle.avs_held.proofs.Slotted.{served_set}
use Rattle.avs_held.proofs.SlotCalls.{copies_one, copied_seat}
use Rattle.avs_held.proofs.SlotRoom.{counts_due}
use Rattle.avs_held.proofs.slots.HeldCompact.copy_one.Goals as goal

pub copy_one-copied-requires-clause-slots : goal.copy_one-copied-requires-clause-slots
copy_one-copied-requires-clause-slots g c = served_set c.self.inside.seat c.self.inside.compact (over_of c.args.over.now) c.keeps_form.ensures.form (rw (← c.self.view_is) at c.requires.served)

pub invariant_of-self : goal.invariant_of-self
invariant_of-self g c = copied_seat c.self.inside.seat c.self.inside.compact c.copy_one-copied.new.self (g.D.Disk.seen c.args.master.now) (g.D.Disk.seen c.copy_one-copied.new.master) (over_of c.args.over.now) (over_of c.copy_one-copied.new.over) c.copy_one-copied.ensures.copies.due c.copy_one-copied.result c.self.invariant c.copy_one-copied.ensures.copies.copies

pub returns-clause-copies : goal.returns-clause-copies
returns-clause-copies g c = rw (← c.self.view_is) (copies_one c.self.inside.seat c.self.inside.compact c.copy_one-copied.new.self (g.D.Disk.seen c.args.master.now) (g.D.Disk.seen c.copy_one-copied.new.master) (over_of c.args.over.now) (over_of c.copy_one-copied.new.over) c.copy_one-copied.result c.self.invariant c.keeps_form.ensures.form c.keeps_form-2.ensures.form c.copy_one-copied.ensures.copies)

pub returns-clause-counts : goal.returns-clause-counts
returns-clause-counts g c =
    let copies = c.copy_one-copied.ensures.copies in
    rw (← c.self.view_is) (counts_due c.self.inside.compact c.copy_one-copied.new.self (g.D.Disk.seen c.args.master.now) (g.D.Disk.seen c.copy_one-copied.new.master) (over_of c.args.over.now) (over_of c.copy_one-copied.new.over)
    copies.due c.copy_one-copied.result copies.finds copies.copies)
