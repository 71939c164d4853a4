use Rattle.std.proofs.Common.{◌≡◌, ℕ, ◌<◌, true}
use Rattle.avs_halves.specs.SetBits.{set_at}
use Rattle.avs_halves.specs.Found.{is_filled}
use Rattle.avs_sender.proofs.contents.are_filled.Given as goal

abbrev pub invariant-loop-set : goal.invariant-loop-set
invariant-loop-set g l = (t : ℕ) → t < l.set → is_filled l.empty (set_at l.sets t).slot ≡ true
