use Rattle.std.proofs.Common.{◌∙◌, ◌<◌, sym}
use Rattle.avs_compact.specs.CompactSet.{CompactSet, over_of, disk_of}
use Rattle.avs_compact.specs.CompactSet as compact
use Rattle.avs_compact.specs.Disks.{Shadow}
use Rattle.avs_held.proofs.Slotted.{served_set}
use Rattle.avs_held.proofs.SlotCalls.{memory_state, brings_back}
use Rattle.avs_held.proofs.SlotSteps.{seated_kept, same_slots}
use Rattle.avs_held.proofs.SlotRoom.{counts_settled}
use Rattle.avs_held.proofs.slots.HeldCompact.bring_back.Goals as goal

pub bring_back-settled-requires-clause-slots : goal.bring_back-settled-requires-clause-slots
bring_back-settled-requires-clause-slots g c = served_set c.self.inside.seat c.self.inside.compact (over_of c.args.over.now) c.keeps_form.ensures.form (rw (← c.self.view_is) at c.requires.served)

pub invariant_of-self : goal.invariant_of-self
invariant_of-self g c =
    let there : c.args.chunk < compact.chunks_of c.self.inside.compact = rw (← c.self.view_is) at c.requires.chunk in
    let back = rw (← c.self.view_is) at c.requires.back in
    let keeps = (c.bring_back-settled.ensures.brings.settles (sym (memory_state c.self.inside.compact c.keeps_form.ensures.form c.args.chunk there) ∙ back)).keeps in
    seated_kept c.self.inside.seat c.self.inside.compact c.bring_back-settled.new.self (same_slots c.self.inside.compact c.bring_back-settled.new.self keeps.shape) (keeps.goes.lasts Shadow).size c.self.invariant

pub returns-clause-settles : goal.returns-clause-settles
returns-clause-settles g c =
    let there : c.args.chunk < compact.chunks_of c.self.inside.compact = rw (← c.self.view_is) at c.requires.chunk in
    let back = rw (← c.self.view_is) at c.requires.back in
    rw (← c.self.view_is) (brings_back c.self.inside.seat c.self.inside.compact c.bring_back-settled.new.self (g.D.Disk.seen c.args.master.now) (g.D.Disk.seen c.bring_back-settled.new.master) (over_of c.args.over.now) (over_of c.bring_back-settled.new.over) c.bring_back-settled.result c.args.chunk c.self.invariant c.keeps_form.ensures.form c.keeps_form-2.ensures.form there
    (sym (memory_state c.self.inside.compact c.keeps_form.ensures.form c.args.chunk there) ∙ back) c.bring_back-settled.ensures.brings)

pub returns-clause-counts : goal.returns-clause-counts
returns-clause-counts g c =
    let there : c.args.chunk < compact.chunks_of c.self.inside.compact = rw (← c.self.view_is) at c.requires.chunk in
    let back = rw (← c.self.view_is) at c.requires.back in
    let is = sym (memory_state c.self.inside.compact c.keeps_form.ensures.form c.args.chunk there) ∙ back in
    rw (← c.self.view_is) (counts_settled c.self.inside.compact c.bring_back-settled.new.self (g.D.Disk.seen c.args.master.now) (g.D.Disk.seen c.bring_back-settled.new.master) (over_of c.args.over.now) (over_of c.bring_back-settled.new.over)
    c.args.chunk 1 c.bring_back-settled.result is (c.bring_back-settled.ensures.brings.settles is))
