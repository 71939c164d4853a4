use Rattle.std.proofs.Common.{◌≡◌, ◌≤◌, length, take}
use Rattle.avs_host.specs.Resting.{disks_in}
use Rattle.avs_host.proofs.resting.place_of.Given as goal

abbrev pub invariant-loop-place : goal.invariant-loop-place
invariant-loop-place g l = (l.before ≡ length (disks_in (take l.place l.disks))) × (l.before ≤ l.number)
