use Rattle.std.proofs.Common.{ℕ, ◌-◌, ◌++◌, List, take, drop, ◌∙◌, ap}
use Rattle.std.specs.Prelude.{codes}
use Rattle.std.specs.List.{flat_map}
use Rattle.avs_code.specs.Bytes.{zeros}
use Rattle.avs_code.specs.Slot.{slot_bytes}
use Rattle.avs_code.specs.GroupBlock.{GroupBlockFits}
use Rattle.avs_code.specs.declared.slot_table.Slot.{Slot}
use Rattle.avs_code.proofs.GroupBlocks.{group_block-written}
use Rattle.avs_code.proofs.group_blocks.put_group_block.Goals as goal

pub returns : goal.returns
returns c =
    let x = c.args.x.now in
    let begun = c.start.ensures ∙ ap (λ (n : ℕ). codes "AVSG" ++ zeros (n - 4)) c.told-out in
    let slots = c.put_slots.ensures ∙ ap (λ (ss : List Slot). (take 16 c.put_u64.new.out ++ flat_map slot_bytes ss) ++ drop 400 c.put_u64.new.out) c.as_slice.ensures.value in
    let fits : GroupBlockFits x = record {
      sequence = c.put_u64.ensures.fits;
      slot_count = c.as_slice.ensures.count;
      slots = c.as_slice.ensures.fits;
      note_len = c.put_note.ensures.len;
      note = c.put_note.ensures.fits;
    } in
    record {
      keeps = c.requires;
      fits = fits;
      spelled = group_block-written x _ _ _ _ _ fits begun c.put_u32.ensures.after c.put_u64.ensures.after slots c.put_note.ensures.after;
    }
