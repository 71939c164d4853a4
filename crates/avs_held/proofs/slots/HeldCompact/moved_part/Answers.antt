use Rattle.std.proofs.Common.{◌<◌, arith}
use Rattle.avs_compact.specs.CompactSet as compact
use Rattle.avs_chunks.specs.States.{area_len}
use Rattle.avs_held.proofs.SlotCounted.{tells_split}
use Rattle.avs_held.proofs.slots.HeldCompact.moved_part.Goals as goal

pub moved_part-requires : goal.moved_part-requires
moved_part-requires g c =
    let part : c.args.part < area_len (compact.chunks_of c.self.inside.compact) = rw (← c.self.view_is) at c.requires in
    omega (arith, part)

pub returns-clause-bits : goal.returns-clause-bits
returns-clause-bits g c = rw (← c.self.view_is) (tells_split c.self.inside.compact c.args.part c.moved_part.new.out c.keeps_form.ensures.form c.moved_part.ensures.bits c.moved_part.ensures.behind)
