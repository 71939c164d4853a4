use Rattle.std.proofs.Common.{◌*◌, ◌<◌, arith, refl}
use Rattle.avs_compact.specs.CompactSet.{CompactSet, over_of, disk_of, entry_of}
use Rattle.avs_compact.specs.CompactSet as compact
use Rattle.avs_chunks.specs.States.{area_len}
use Rattle.avs_compact.specs.Ahead as ahead
use Rattle.avs_held.specs.Held.{compact_set}
use Rattle.avs_held.specs.Staging.{split_state}
use Rattle.avs_held.proofs.SlotStagings.{stages_set, staged_seat, told_split}
use Rattle.avs_held.proofs.slots.HeldCompact.stage_split.Goals as goal

pub invariant_of-self : goal.invariant_of-self
invariant_of-self g c = staged_seat c.self.inside.seat c.self.inside.compact c.stage_split.new.self (ahead.split_of c.self.inside.compact c.args.part c.args.split.now) (16 * c.args.part) (ahead.part_blocks (compact.chunks_of c.self.inside.compact) c.args.part) c.stage_split.result c.self.invariant c.stage_split.ensures

pub returns : goal.returns
returns g c = rw (← c.self.view_is) (stages_set c.self.inside.seat c.self.inside.compact c.stage_split.new.self (ahead.split_of c.self.inside.compact c.args.part c.args.split.now) (split_state (compact_set c.self.inside.seat c.self.inside.compact) c.args.part c.args.split.now) c.args.part 1 (ahead.part_blocks (compact.chunks_of c.self.inside.compact) c.args.part) c.stage_split.result c.self.invariant c.keeps_form.ensures.form (told_split c.self.inside.seat c.self.inside.compact c.args.part c.args.split.now c.keeps_form.ensures.form) refl c.stage_split.ensures)

pub stage_split-requires : goal.stage_split-requires
stage_split-requires g c =
    let part : c.args.part < area_len (compact.chunks_of c.self.inside.compact) = rw (← c.self.view_is) at c.requires in
    omega (arith, part)
