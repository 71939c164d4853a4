use Rattle.std.proofs.Common.{sym, ap, ◌∙◌}
use Rattle.avs_code.specs.declared.slot_table.Slot.{Slot}
use Rattle.avs_ii.specs.Held.{has_flag}
use Rattle.avs_ii.proofs.OpenSets.{if_err, refused_settled}
use Rattle.avs_ii.proofs.held.open_chunks.Goals as goal

pub returns-in-Ok-clause-refused : goal.returns-in-Ok-clause-refused
returns-in-Ok-clause-refused g c =
    rw c.in-Some.is (if_err c.settled.result c.settled.ensures.refused (λ e w.
    refused_settled c.args.block.now.slots c.args.slot c.args.kind (g.D.Disk.seen c.in-Some.shadow) (g.D.Disk.seen c.args.bitmap) c.args.blocks c.in-Ok.chunks c.has_flag-live_b.result e.why (g.D.Disk.seen e.parts.1)
    (sym c.is_live.ensures ∙ c.if-is_live.true) (c.has_flag-live_b.ensures ∙ ap (λ (s : Slot). has_flag 2 s) c.slot_in.ensures) c.in-Ok.ensures.loaded w))
