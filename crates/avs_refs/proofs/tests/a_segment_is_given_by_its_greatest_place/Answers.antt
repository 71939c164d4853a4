use Rattle.std.proofs.Common.{arith}
use Rattle.avs_refs.proofs.tests.a_segment_is_given_by_its_greatest_place.Goals as goal

pub add-requires-3-clause-rises : goal.add-requires-3-clause-rises
add-requires-3-clause-rises g c = c.add-2.ensures.above 3 (omega arith)
