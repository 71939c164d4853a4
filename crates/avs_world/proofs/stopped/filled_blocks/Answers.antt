use Rattle.std.proofs.Common.{◌≡◌, ◌∙◌, ◌++◌, ◌∷◌, [], Bool, cond, length, sym, ap, rules}
use Rattle.std.specs.Str.{bytes_eq}
use Rattle.std.proofs.lemmas.List.{append-nil}
use Rattle.avs_seg.specs.Image.{block_at, blocks_of}
use Rattle.avs_model.specs.Filling.{fill}
use Rattle.avs_world.proofs.TornLemmas.{filled_more, one_block}
use Rattle.avs_world.proofs.stopped.filled_blocks.Goals as goal
use Rattle.avs_world.proofs.stopped.filled_blocks.Goals.{then-is_block+in_ok-push, else-is_block}

pub loop-i-preserved : goal.loop-i-preserved
loop-i-preserved c =
    let bytes = c.args.bytes.now in
    let pattern = c.args.pattern.now in
    let i = c.loop-i.i in
    let long : length c.fill.new.out ≡ 512 = search rules in
    let block : c.fill.new.out ≡ fill pattern = one_block c.fill.new.out pattern long c.fill.ensures in
    let test : c.is_block.result ≡ bytes_eq (block_at (blocks_of bytes) i) (fill pattern) = c.is_block.ensures ∙ ap (bytes_eq (block_at (blocks_of bytes) i)) block in
    elim c.if-is_block.branch [
      | then-is_block+in_ok-push w ↦
          filled_more pattern (blocks_of bytes) i c.is_block.result c.loop-i.blocks c.if-is_block.blocks c.loop-i.invariant test
          (w.blocks-is ∙ w.in_ok-push.ensures.ok ∙ ap (λ (b : Bool). c.loop-i.blocks ++ cond b (i ∷ []) []) (sym w.if-is_block.true))
      | else-is_block w ↦
          filled_more pattern (blocks_of bytes) i c.is_block.result c.loop-i.blocks c.if-is_block.blocks c.loop-i.invariant test
          (w.blocks-is ∙ sym (append-nil c.loop-i.blocks) ∙ ap (λ (b : Bool). c.loop-i.blocks ++ cond b (i ∷ []) []) (sym w.if-is_block.false))
    ]
