use Rattle.std.proofs.Common.{ℕ, ◌-◌, ◌++◌, ◌∙◌, ap}
use Rattle.std.specs.Prelude.{codes}
use Rattle.avs_code.specs.Bytes.{zeros}
use Rattle.avs_code.proofs.LabelBlocks.{label_block-written}
use Rattle.avs_code.proofs.labels.put_label.Goals as goal

pub returns : goal.returns
returns c =
    let begun = c.start.ensures ∙ ap (λ (n : ℕ). codes "AVSVOL01" ++ zeros (n - 8)) c.told-out in
    record {
      keeps = c.requires;
      fits = record { blocks = c.put_u32-3.ensures.fits; segments = c.put_u32-4.ensures.fits };
      spelled = label_block-written c.args.x.now _ _ _ _ _ _ begun c.put_u32.ensures.after c.put_u32-2.ensures.after c.put_u32-3.ensures.after c.put_u32-4.ensures.after c.put_u64.ensures.after;
    }
