use Rattle.std.proofs.Common.{◌∙◌, sym}
use Rattle.avs_held.proofs.SlotCounted.{touched_count}
use Rattle.avs_held.proofs.slots.HeldCompact.need.Goals as goal

pub returns : goal.returns
returns g c = rw (← c.self.view_is) (c.need.ensures.counted ∙ sym (touched_count c.self.inside.compact))
