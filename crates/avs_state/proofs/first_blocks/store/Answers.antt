use Rattle.std.proofs.Common.{◌+◌, ◌-◌, ◌*◌, List, ℕ, ap, refl, ◌∙◌, arith}
use Rattle.avs_seg.specs.Image.{Image, put, blocks_of}
use Rattle.avs_seg.proofs.Bytes.{blocks_of-put_mid, blocks_of_one}
use Rattle.avs_state.proofs.first_blocks.store.Goals as goal

pub returns-clause-stored : goal.returns-clause-stored
returns-clause-stored c =
    let at = c.args.at in
    let old = c.args.bytes.now in
    let n = 512 * at + 512 - 512 * at in
    blocks_of-put_mid old c.copy_from_slice.new.self at (512 * at) n refl (omega arith) (omega arith) (omega arith)
    ∙ ap (λ (l : List ℕ). put (blocks_of old) at (blocks_of l)) c.copy_from_slice.ensures.after
    ∙ ap (λ (bs : Image). put (blocks_of old) at bs) (blocks_of_one c.args.block.now (omega arith))
