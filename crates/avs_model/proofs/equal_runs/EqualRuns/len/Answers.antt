use Rattle.std.proofs.Common.{◌<◌, length, take, drop, ap, arith}
use Rattle.avs_seg.specs.Image.{Image}
use Rattle.avs_model.specs.EqualBlocks.{runs_of}
use Rattle.avs_model.proofs.HeldRuns.{run_count}
use Rattle.avs_model.proofs.equal_runs.EqualRuns.len.Goals as goal

pub returns : goal.returns
returns c =
    let held = c.self.inside in
    let some : 0 < held.count = omega (arith, c.if-self-eq0.false) in
    let number = run_count (take held.start held.patterns.items) held.runs.items held.count (drop held.start held.patterns.items) some c.self.invariant.are in
    omega (arith, c.len.ensures, held.runs.ok.0, number, ap (λ (img : Image). length (runs_of img)) c.self.view_is)
