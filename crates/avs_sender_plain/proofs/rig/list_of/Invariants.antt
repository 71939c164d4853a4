use Rattle.avs_sender_plain.specs.Rigs.{AreBelow}
use Rattle.avs_sender_plain.proofs.rig.list_of.Given as goal

abbrev pub invariant-loop-seg : goal.invariant-loop-seg
invariant-loop-seg l = record { below : AreBelow l.segs l.list }
