use Rattle.std.proofs.Common.{◌<◌, sym, arith}
use Rattle.avs_compact.specs.CompactSet.{CompactSet, over_of, disk_of}
use Rattle.avs_compact.specs.CompactSet as compact
use Rattle.avs_chunks.specs.States.{area_len}
use Rattle.avs_held.proofs.SlotCounted.{lacking_told, counted_as}
use Rattle.avs_held.proofs.slots.HeldCompact.lacks.Goals as goal

pub returns-clause-counted : goal.returns-clause-counted
returns-clause-counted g c = rw (← c.self.view_is) (counted_as c.lacks.result _ _ (sym (lacking_told c.self.inside.seat c.self.inside.compact c.args.part c.args.split.now)) c.lacks.ensures.counted)

pub lacks-requires : goal.lacks-requires
lacks-requires g c =
    let part : c.args.part < area_len (compact.chunks_of c.self.inside.compact) = rw (← c.self.view_is) at c.requires in
    omega (arith, part)
