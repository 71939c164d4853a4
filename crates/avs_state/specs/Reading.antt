-- Two blocks that were read: a label, and the block of a group.
use Rattle.std.specs.Prelude.{◌≡◌, ◌⊎◌, ℕ, Some}
use Rattle.avs_seg.specs.Image.{Image, block_at}
use Rattle.avs_code.specs.Label.{IsLabel, IsBadLabel}
use Rattle.avs_code.specs.Rules.{first_broken}
use Rattle.avs_code.specs.GroupBlock.{IsGroupBlock, group_block_rules}
use Rattle.avs_code.specs.declared.group_blocks.GroupBlock.{GroupBlock}
use Rattle.avs_state.specs.StateDisk.{state_label, state_use}

pub record HoldsBlock (image : Image) (block : GroupBlock) : Type 0 where
  pub label : IsLabel (block_at image 0) state_label
  pub holds : IsGroupBlock (block_at image 1) block

-- the label is right, and the block breaks the rule of this field
pub record IsBadSecond (image : Image) (field : ℕ) : Type 0 where
  pub label : IsLabel (block_at image 0) state_label
  pub broken : first_broken (group_block_rules (block_at image 1)) ≡ Some field

abbrev pub IsBadPair : Image → ℕ → Type 0
IsBadPair image field = IsBadLabel (block_at image 0) state_use field ⊎ IsBadSecond image field
