use Rattle.std.proofs.Common.{◌≡◌, ℕ, ◌-◌, ◌++◌, ◌∙◌, ap, length, arith}
use Rattle.avs_code.specs.Bytes.{zeros}
use Rattle.avs_code.proofs.HeaderBlocks.{header_block-written}
use Rattle.avs_code.proofs.land_headers.put_header.Goals as goal

pub returns : goal.returns
returns c =
    let rest : length c.args.out.now - length c.args.magic.now ≡ 508 = omega (arith, c.told-out, c.told-magic) in
    let begun = c.start.ensures ∙ ap (λ (n : ℕ). c.args.magic.now ++ zeros n) rest in
    record {
      keeps = c.requires;
      fits = record { set = c.put_u32-3.ensures.fits; at = c.put_u32-4.ensures.fits };
      spelled = header_block-written c.args.magic.now c.told-magic c.args.x.now _ _ _ _ _ _ _ _ begun c.put_u32.ensures.after c.put_u64.ensures.after c.put_u64-2.ensures.after c.put_u32-2.ensures.after c.put_u32-3.ensures.after c.put_u32-4.ensures.after c.put_u32-5.ensures.after;
    }
