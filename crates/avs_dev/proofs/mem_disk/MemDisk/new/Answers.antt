use Rattle.std.proofs.Common.{◌≡◌, ◌*◌, List, ℕ, ap, refl, ◌∙◌}
use Rattle.avs_seg.specs.Image.{Image, blank, blocks_of}
use Rattle.avs_seg.proofs.Bytes.{blocks_of_zeros}
use Rattle.avs_dev.specs.Memory.{new_state}
use Rattle.avs_dev.proofs.mem_disk.MemDisk.new.Goals as goal

pub returns : goal.returns
returns c =
    let zeros : blocks_of c.in_ok-zeros.field-0.items ≡ blank c.args.blocks = ap (λ (l : List ℕ). blocks_of l) c.in_ok-zeros.ensures.items ∙ blocks_of_zeros (512 * c.args.blocks) c.args.blocks refl in
    ap (λ (i : Image). record (new_state c.args.blocks c.args.fails.items) { image = i }) zeros
