use Rattle.std.proofs.Common.{arith}
use Rattle.avs_refs.proofs.tests.a_segment_that_is_touched_again_waits.Goals as goal

pub add-requires-2-clause-rises : goal.add-requires-2-clause-rises
add-requires-2-clause-rises g c =
    c.retire-2.ensures.retires.above 9 (c.next_idle.ensures.kept.above 9 (c.retire.ensures.retires.above 9 (c.add.ensures.above 9 (omega arith))))
