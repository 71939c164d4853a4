use Rattle.std.proofs.Common.{◌≡◌}
use Rattle.avs_halves.specs.SetBits.{has_bit, set_at}
use Rattle.avs_sender.proofs.Trackings.{WaitsBelow}
use Rattle.avs_sender.proofs.tracking.wait.Given as goal

abbrev pub invariant-loop-seg : goal.invariant-loop-seg
invariant-loop-seg g l = record {
  touched : l.tracked.touched ≡ l.fn.tracked.touched;
  waits : WaitsBelow (has_bit (set_at l.sets l.set)) l.seg l.fn.tracked.waiting l.tracked.waiting;
}
