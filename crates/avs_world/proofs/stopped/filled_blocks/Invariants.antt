use Rattle.std.proofs.Common.{◌≡◌}
use Rattle.avs_world.specs.Torn.{filled_by}
use Rattle.avs_seg.specs.Image.{blocks_of}
use Rattle.avs_world.proofs.stopped.filled_blocks.Given as goal

abbrev pub invariant-loop-i : goal.invariant-loop-i
invariant-loop-i l = l.blocks ≡ filled_by l.pattern (blocks_of l.bytes) l.i
