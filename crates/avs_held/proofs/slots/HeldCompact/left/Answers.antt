use Rattle.std.proofs.Common.{◌∙◌, sym}
use Rattle.avs_compact.specs.CompactSet.{chunks_of}
use Rattle.avs_held.proofs.SlotCounted.{none_left}
use Rattle.avs_held.proofs.slots.HeldCompact.left.Goals as goal

pub returns : goal.returns
returns g c = rw (← c.self.view_is) (c.left.ensures ∙ sym (none_left (chunks_of c.self.inside.compact)))
