use Rattle.std.proofs.Common.{◌≡◌, ◌-◌, ℕ, List, [], Some}
use Rattle.avs_io.specs.Given.{HasGiven}
use Rattle.avs_io.specs.Reader.{reader_of, faults_of}
use Rattle.avs_model.specs.Promise.{Claim}
use Rattle.avs_run.specs.Ends.{Printed}
use Rattle.avs_run.specs.Run.{Supports, SoFar}
use Rattle.avs_run.proofs.run.run_lines.Given as goal

abbrev pub invariant-loop-end : goal.invariant-loop-end
invariant-loop-end g l = record {
  reference : l.lines.source.ghost_name ≡ l.fn.lines.source.ghost_name;
  tells : (g.R.Rack.seen l.rack).tells ≡ (g.R.Rack.seen l.fn.rack).tells;
  steady : (g.R.Rack.seen l.rack).steady ≡ (g.R.Rack.seen l.fn.rack).steady;
  source : faults_of l.lines ≡ faults_of l.fn.lines;
  sink : g.K.Sink.faults l.sink ≡ g.K.Sink.faults l.fn.sink;
  rack : (g.R.Rack.seen l.rack).faults ≡ (g.R.Rack.seen l.fn.rack).faults;
  so_far : (claim : Claim) → Supports (g.R.Rack.seen l.fn.rack) claim → (input : List ℕ) → HasGiven (Some input) [] (reader_of l.fn.lines)
      → (given : List (List ℕ)) × (HasGiven (Some input) given (reader_of l.lines)) × (Printed (g.K.Sink.written l.fn.sink) (g.K.Sink.written l.sink) (SoFar g.R.D.Disk.seen claim given l.world));
}

abbrev pub decreases-loop-end : goal.decreases-loop-end
decreases-loop-end g l = 1048577 - (reader_of l.lines).given
