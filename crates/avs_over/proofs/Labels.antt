-- The label on a disk.
use Rattle.std.proofs.Common.{◌≡◌, ◌/◌, ◌<◌, ℕ, List, [], ◌∷◌, length, ap, sym, subst, ◌∙◌, arith}
use Rattle.avs_seg.specs.Image.{Image, Block, block_at, put, range, blocks_of}
use Rattle.avs_seg.proofs.Bytes.{blocks_of_one}
use Rattle.avs_seg.proofs.Puts.{put_one}
use Rattle.avs_seg.proofs.Ranges.{block_at-range}
use Rattle.avs_dev.specs.Seen.{Seen, IsTold}
use Rattle.avs_code.specs.Label.{IsLabel}
use Rattle.avs_over.specs.Over.{over_label}

-- a label that was written is read again
pub labelled : (old : Seen) (new : Image) (bytes : Block) → IsTold old → 0 < old.size → length bytes ≡ 512 → IsLabel bytes over_label → new ≡ put old.image 0 (blocks_of bytes) → IsLabel (block_at new 0) over_label
labelled old new bytes told some long is done =
    let first : block_at new 0 ≡ bytes =
    ap (λ (img : Image). block_at img 0) (done ∙ ap (λ (bs : Image). put old.image 0 bs) (blocks_of_one bytes long))
    ∙ put_one old.image 0 bytes 0 (omega arith) (omega (arith, told, some)) in
    subst (λ (b : Block). IsLabel b over_label) (sym first) is

-- a block that was read is that of the disk
pub first_read : (img : Image) (out : Block) → length out ≡ 512 → blocks_of out ≡ range img 0 (length out / 512) → block_at img 0 ≡ out
first_read img out long shown =
    sym (block_at-range img 0 (length out / 512) 0 (omega (arith, long)))
    ∙ ap (λ (bs : Image). block_at bs 0) (sym shown ∙ blocks_of_one out long)

-- a disk that was read and has not failed is as it was
pub kept : (old new : Seen) → new ≡ record old { faults = new.faults } → new.faults ≡ old.faults → new ≡ old
kept old new rest same = rest ∙ ap (λ (n : ℕ). record old { faults = n }) same
