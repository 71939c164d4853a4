use Rattle.std.proofs.Common.{◌∙◌, ◌+◌, ◌*◌, ◌≤◌, ℕ, sym, subst}
use Rattle.avs_entries.specs.Parts.{is_ahead}
use Rattle.avs_compact.specs.CompactSet.{CompactSet, over_of, disk_of, entry_of}
use Rattle.avs_compact.specs.CompactSet as compact
use Rattle.avs_chunks.specs.Staging.{told_by, part_end}
use Rattle.avs_held.proofs.SlotCounted.{lacking_told}
use Rattle.avs_held.proofs.SlotAhead.{copies_set, ahead_seat, ahead_is}
use Rattle.avs_held.proofs.slots.HeldCompact.copy_part.Goals as goal

pub copy_part-requires-clause-room : goal.copy_part-requires-clause-room
copy_part-requires-clause-room g c =
    let room = rw (← c.self.view_is) at c.requires.room in
    subst (λ (n : ℕ). compact.need_of c.self.inside.compact + n ≤ compact.room_of c.self.inside.compact (over_of c.args.over.now)) (lacking_told c.self.inside.seat c.self.inside.compact c.args.part c.args.split.now) room

pub invariant_of-self : goal.invariant_of-self
invariant_of-self g c = ahead_seat c.self.inside.seat c.self.inside.compact c.copy_part.new.self (g.D.Disk.seen c.args.master.now) (g.D.Disk.seen c.copy_part.new.master) (over_of c.args.over.now) (over_of c.copy_part.new.over) c.copy_part.result c.self.invariant c.copy_part.ensures.copies.keeps

pub returns : goal.returns
returns g c = rw (← c.self.view_is) (copies_set c.self.inside.seat c.self.inside.compact c.copy_part.new.self (g.D.Disk.seen c.args.master.now) (g.D.Disk.seen c.copy_part.new.master) (over_of c.args.over.now) (over_of c.copy_part.new.over) (told_by c.args.split.now c.args.part) (is_ahead c.args.split.now c.args.part (entry_of c.self.inside.compact))
    (2048 * c.args.part) (part_end (compact.chunks_of c.self.inside.compact) c.args.part) c.copy_part.result c.self.invariant c.keeps_form.ensures.form
    (λ k lt is. sym (ahead_is c.self.inside.seat c.self.inside.compact (told_by c.args.split.now c.args.part) k lt) ∙ is) c.copy_part.ensures.copies)
