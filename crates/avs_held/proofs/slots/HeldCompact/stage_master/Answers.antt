use Rattle.std.proofs.Common.{◌*◌}
use Rattle.avs_entries.specs.Entries as entries
use Rattle.avs_compact.specs.CompactSet.{CompactSet, over_of, disk_of, entry_of}
use Rattle.avs_compact.specs.CompactSet as compact
use Rattle.avs_chunks.specs.States.{area_len}
use Rattle.avs_compact.specs.Staging as staging
use Rattle.avs_chunks.specs.Staging.{to_master}
use Rattle.avs_held.proofs.Slotted.{memory_map}
use Rattle.avs_held.proofs.SlotStagings.{stages_set, staged_seat, told_master, whole_blocks}
use Rattle.avs_held.proofs.slots.HeldCompact.stage_master.Goals as goal

pub invariant_of-self : goal.invariant_of-self
invariant_of-self g c = staged_seat c.self.inside.seat c.self.inside.compact c.turn_to_master.new.self (λ k. staging.to_master (entry_of c.self.inside.compact k)) (16 * 0) (entries.area_len (compact.chunks_of c.self.inside.compact)) c.turn_to_master.result c.self.invariant c.turn_to_master.ensures

pub returns : goal.returns
returns g c = rw (← c.self.view_is) (stages_set c.self.inside.seat c.self.inside.compact c.turn_to_master.new.self (λ k. staging.to_master (entry_of c.self.inside.compact k)) (λ k. to_master ((memory_map c.self.inside.compact).state k)) 0 (area_len (compact.chunks_of c.self.inside.compact)) (entries.area_len (compact.chunks_of c.self.inside.compact)) c.turn_to_master.result c.self.invariant c.keeps_form.ensures.form (told_master c.self.inside.compact c.keeps_form.ensures.form) (whole_blocks (compact.chunks_of c.self.inside.compact)) c.turn_to_master.ensures)
