use Rattle.avs_compact.specs.CompactSet.{over_of}
use Rattle.avs_held.proofs.Slotted.{served_set}
use Rattle.avs_held.proofs.SlotBlocks.{reads_set, read_seat}
use Rattle.avs_held.proofs.SlotRoom.{counts_same}
use Rattle.avs_held.proofs.slots.HeldCompact.read.Goals as goal

pub read-requires-clause-slots : goal.read-requires-clause-slots
read-requires-clause-slots g c = served_set c.self.inside.seat c.self.inside.compact (over_of c.args.over.now) c.keeps_form.ensures.form (rw (← c.self.view_is) at c.requires.served)

pub invariant_of-self : goal.invariant_of-self
invariant_of-self g c = read_seat c.self.inside.seat c.self.inside.compact c.read.new.self (g.D.Disk.seen c.args.master.now) (g.D.Disk.seen c.read.new.master) (over_of c.args.over.now) (over_of c.read.new.over) c.args.at c.read.new.out c.read.result c.self.invariant c.keeps_form.ensures.form c.read.ensures.reads

pub returns-clause-reads : goal.returns-clause-reads
returns-clause-reads g c = rw (← c.self.view_is) (reads_set c.self.inside.seat c.self.inside.compact c.read.new.self (g.D.Disk.seen c.args.master.now) (g.D.Disk.seen c.read.new.master) (over_of c.args.over.now) (over_of c.read.new.over) c.args.at c.read.new.out c.read.result c.self.invariant c.keeps_form.ensures.form c.read.ensures.reads)

pub returns-clause-counts : goal.returns-clause-counts
returns-clause-counts g c = rw (← c.self.view_is) (counts_same c.self.inside.compact c.read.new.self (over_of c.args.over.now) (over_of c.read.new.over) _ _ c.read.ensures.reads.set c.read.ensures.reads.over)
