use Rattle.std.proofs.Common.{ℕ, ◌∙◌, ap, arith, [], ◌∷◌}
use Rattle.std.proofs.lemmas.List.{length-replicate}
use Rattle.avs_seg.specs.Image.{Block, Image, put}
use Rattle.avs_seg.proofs.Bytes.{length-blocks_of}
use Rattle.avs_code.specs.Label.{label_block}
use Rattle.avs_code.specs.GroupBlock.{group_block}
use Rattle.avs_code.specs.declared.labels.Label.{Label}
use Rattle.avs_code.specs.declared.group_blocks.GroupBlock.{GroupBlock}
use Rattle.avs_state.specs.StateDisk.{state_label}
use Rattle.avs_state.proofs.FirstBlocks.{two_blocks}
use Rattle.avs_state.proofs.first_blocks.first_blocks.Goals as goal

pub returns-clause-is : goal.returns-clause-is
returns-clause-is c =
    let label = c.put_label.new.out in
    let block = c.put_group_block.new.out in
    c.store-2.ensures.stored
    ∙ ap (λ (img : Image). put img 1 (block ∷ [])) c.store.ensures.stored
    ∙ two_blocks _ label block (length-blocks_of _ ∙ omega (arith, length-replicate {A = ℕ} 1024 0))
    ∙ ap (λ (b : Block). b ∷ block ∷ []) (c.put_label.ensures.spelled ∙ ap (λ (x : Label). label_block x) c.state_label.ensures.is)
    ∙ ap (λ (b : Block). label_block state_label ∷ b ∷ []) (c.put_group_block.ensures.spelled ∙ ap (λ (x : GroupBlock). group_block x) c.empty_block.ensures.is)
