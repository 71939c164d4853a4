use Rattle.std.proofs.Common.{◌+◌, ◌*◌, ◌/◌, List, ℕ, length, ap, refl, ◌∙◌, arith}
use Rattle.avs_seg.specs.Image.{blocks_of}
use Rattle.avs_seg.proofs.Bytes.{blocks_of-between}
use Rattle.avs_dev.proofs.mem_disk.load.Goals as goal

pub returns : goal.returns
returns c =
    let n = length c.copy_from_slice.new.self / 512 in
    ap (λ (l : List ℕ). blocks_of l) c.copy_from_slice.ensures.after
    ∙ blocks_of-between c.args.bytes.now c.args.at n (512 * c.args.at) (512 * c.args.at + length c.args.out.now) refl (omega arith) (omega arith)
