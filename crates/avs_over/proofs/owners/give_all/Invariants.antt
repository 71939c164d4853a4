use Rattle.std.proofs.Common.{◌≡◌, length}
use Rattle.avs_over.specs.Slots.{AreGiven, AreApart}
use Rattle.avs_over.proofs.owners.give_all.Given as goal

abbrev pub invariant-loop-place : goal.invariant-loop-place
invariant-loop-place l = record {
  len : length l.owners ≡ length l.fn.owners;
  given : AreGiven l.taken l.place l.owners;
  apart : AreApart l.taken l.place (length l.fn.owners);
}
