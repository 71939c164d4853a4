use Rattle.std.proofs.Common.{◌∙◌, ◌<◌, sym}
use Rattle.avs_compact.specs.CompactSet.{CompactSet, over_of, disk_of}
use Rattle.avs_compact.specs.CompactSet as compact
use Rattle.avs_held.proofs.SlotCalls.{memory_state}
use Rattle.avs_held.proofs.slots.HeldCompact.state.Goals as goal

pub returns : goal.returns
returns g c =
    let there : c.args.chunk < compact.chunks_of c.self.inside.compact = rw (← c.self.view_is) at c.requires in
    rw (← c.self.view_is) (c.state_of.ensures ∙ c.state.ensures ∙ sym (memory_state c.self.inside.compact c.keeps_form.ensures.form c.args.chunk there))
