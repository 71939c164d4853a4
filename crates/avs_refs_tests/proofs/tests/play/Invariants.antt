use Rattle.avs_refs_tests.specs.Ready.{IsReady}
use Rattle.avs_refs_tests.proofs.tests.play.Given as goal

abbrev pub invariant-loop : goal.invariant-loop
invariant-loop g l = IsReady l.held.refs l.held.next l.held.added
