use Rattle.std.proofs.Common.{◌≡◌, ◌∙◌, ◌+◌, ◌-◌, ◌*◌, ◌/◌, ◌<◌, ℕ, List, length, take, drop, sym, ap, arith}
use Rattle.std.specs.Str.{bytes_eq}
use Rattle.avs_seg.proofs.Bytes.{block_at-blocks_of}
use Rattle.avs_world.proofs.stopped.is_block.Goals as goal

pub returns : goal.returns
returns c =
    let bytes = c.args.bytes.now in
    let i = c.args.i in
    let there : i < length bytes / 512 = omega (arith, c.requires.within) in
    let width : 512 * i + 512 - 512 * i ≡ 512 = omega arith in
    c.eq.ensures ∙ ap (λ (b : List ℕ). bytes_eq b c.args.block.now) (ap (λ (k : ℕ). take k (drop (512 * i) bytes)) width ∙ sym (block_at-blocks_of bytes i there))
