use Rattle.avs_refs.specs.Places.{Drains, touched_count}
use Rattle.avs_refs.proofs.tests.reset.Given as goal

abbrev pub invariant-loop-seg : goal.invariant-loop-seg
invariant-loop-seg l = Drains l.fn.refs l.last l.refs

abbrev pub decreases-loop-seg : goal.decreases-loop-seg
decreases-loop-seg l = touched_count l.refs
