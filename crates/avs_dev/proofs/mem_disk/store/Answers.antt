use Rattle.std.proofs.Common.{◌+◌, ◌-◌, ◌*◌, List, ℕ, length, ap, refl, ◌∙◌, arith}
use Rattle.avs_seg.specs.Image.{put, blocks_of}
use Rattle.avs_seg.proofs.Bytes.{blocks_of-put_mid}
use Rattle.avs_dev.proofs.mem_disk.store.Goals as goal

pub returns : goal.returns
returns c =
    let at = c.args.at in
    let old = c.args.bytes.now in
    let n = 512 * at + length c.args.new.now - 512 * at in
    blocks_of-put_mid old c.copy_from_slice.new.self at (512 * at) n refl (omega arith) (omega arith) (omega arith)
    ∙ ap (λ (l : List ℕ). put (blocks_of old) at (blocks_of l)) c.copy_from_slice.ensures.after
