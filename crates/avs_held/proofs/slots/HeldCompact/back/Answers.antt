use Rattle.std.proofs.Common.{◌∙◌, sym}
use Rattle.avs_held.proofs.SlotCounted.{state_count}
use Rattle.avs_held.proofs.slots.HeldCompact.back.Goals as goal

pub returns : goal.returns
returns g c = rw (← c.self.view_is) (c.back.ensures.counted ∙ sym (state_count c.self.inside.compact 3 c.keeps_form.ensures.form))
