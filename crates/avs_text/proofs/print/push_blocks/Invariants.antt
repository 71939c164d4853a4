use Rattle.std.proofs.Common.{◌≡◌, ◌++◌, take}
use Rattle.std.specs.String.{string_bytes}
use Rattle.avs_model.specs.Printed.{blocks_text}
use Rattle.avs_text.proofs.print.push_blocks.Given as goal

abbrev pub invariant-loop-block : goal.invariant-loop-block
invariant-loop-block l = string_bytes l.text ≡ string_bytes l.initial.text ++ blocks_text (take l.block-index l.blocks)
