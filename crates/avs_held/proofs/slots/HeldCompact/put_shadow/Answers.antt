use Rattle.avs_compact.specs.CompactSet.{over_of}
use Rattle.avs_held.proofs.Slotted.{served_set}
use Rattle.avs_held.proofs.SlotBlocks.{writes_set, put_seat, split_slots}
use Rattle.avs_held.proofs.SlotRoom.{counts_same}
use Rattle.avs_held.proofs.slots.HeldCompact.put_shadow.Goals as goal

pub put_shadow-requires-clause-slots : goal.put_shadow-requires-clause-slots
put_shadow-requires-clause-slots g c = served_set c.self.inside.seat c.self.inside.compact (over_of c.args.over.now) c.keeps_form.ensures.form (rw (← c.self.view_is) at c.requires.served)

pub put_shadow-requires-clause-split : goal.put_shadow-requires-clause-split
put_shadow-requires-clause-split g c =
    let inside = rw (← c.self.view_is) at c.requires.inside in
    let split = rw (← c.self.view_is) at c.requires.split in
    split_slots c.self.inside.seat c.self.inside.compact c.keeps_form.ensures.form c.args.at _ inside split

pub invariant_of-self : goal.invariant_of-self
invariant_of-self g c = put_seat c.self.inside.seat c.self.inside.compact c.put_shadow.new.self (over_of c.args.over.now) (over_of c.put_shadow.new.over) c.args.at c.args.bytes.now c.put_shadow.result c.self.invariant c.keeps_form.ensures.form c.put_shadow.ensures.puts

pub returns-clause-writes : goal.returns-clause-writes
returns-clause-writes g c = rw (← c.self.view_is) (writes_set c.self.inside.seat c.self.inside.compact c.put_shadow.new.self (over_of c.args.over.now) (over_of c.put_shadow.new.over) c.args.at c.args.bytes.now c.put_shadow.result c.self.invariant c.keeps_form.ensures.form c.put_shadow.ensures.puts)

pub returns-clause-counts : goal.returns-clause-counts
returns-clause-counts g c = rw (← c.self.view_is) (counts_same c.self.inside.compact c.put_shadow.new.self (over_of c.args.over.now) (over_of c.put_shadow.new.over) _ _ c.put_shadow.ensures.puts.is c.put_shadow.ensures.puts.owners)
