use Rattle.std.proofs.Common.{ℕ, ◌-◌, ◌++◌, ◌∙◌, ap}
use Rattle.std.specs.Prelude.{codes}
use Rattle.avs_code.specs.Bytes.{zeros}
use Rattle.avs_code.proofs.ConfigBlocks.{config_header_block-written}
use Rattle.avs_code.proofs.config_headers.put_config_header.Goals as goal

pub returns : goal.returns
returns c =
    let begun = c.start.ensures ∙ ap (λ (n : ℕ). codes "AVSC" ++ zeros (n - 4)) c.told-out in
    record {
      keeps = c.requires;
      fits = record { sequence = c.put_u64.ensures.fits };
      spelled = config_header_block-written c.args.x.now _ _ _ _ _ begun c.put_u32.ensures.after c.put_u64.ensures.after c.put_u32-2.ensures.after c.put_u32-3.ensures.after;
    }
