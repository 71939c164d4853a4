use Rattle.std.proofs.Common.{◌-◌, ◌^◌, ◌<◌}
use Rattle.avs_chunks.specs.States.{state_in}
use Rattle.avs_chunks.specs.Due.{NoneDue}
use Rattle.avs_chunks.proofs.copying.first_due.Given as goal

abbrev pub decreases-loop-chunk : goal.decreases-loop-chunk
decreases-loop-chunk l = l.end - l.chunk

abbrev pub invariant-loop-chunk : goal.invariant-loop-chunk
invariant-loop-chunk l = record {
  fits : l.chunk < 2 ^ 32;
  passed : NoneDue (state_in l.bytes) l.independent l.chunk;
}
