use Rattle.std.proofs.Common.{◌*◌}
use Rattle.avs_entries.specs.Entries as entries
use Rattle.avs_compact.specs.CompactSet.{CompactSet, over_of, disk_of, entry_of}
use Rattle.avs_compact.specs.CompactSet as compact
use Rattle.avs_chunks.specs.States.{area_len}
use Rattle.avs_held.proofs.SlotStagings.{stages_set, staged_seat, told_none, whole_blocks}
use Rattle.avs_held.proofs.slots.HeldCompact.stage_shadow.Goals as goal

pub invariant_of-self : goal.invariant_of-self
invariant_of-self g c = staged_seat c.self.inside.seat c.self.inside.compact c.turn_to_shadow.new.self (λ _. 0) (16 * 0) (entries.area_len (compact.chunks_of c.self.inside.compact)) c.turn_to_shadow.result c.self.invariant c.turn_to_shadow.ensures

pub returns : goal.returns
returns g c = rw (← c.self.view_is) (stages_set c.self.inside.seat c.self.inside.compact c.turn_to_shadow.new.self (λ _. 0) (λ _. 0) 0 (area_len (compact.chunks_of c.self.inside.compact)) (entries.area_len (compact.chunks_of c.self.inside.compact)) c.turn_to_shadow.result c.self.invariant c.keeps_form.ensures.form (told_none c.self.inside.compact) (whole_blocks (compact.chunks_of c.self.inside.compact)) c.turn_to_shadow.ensures)
