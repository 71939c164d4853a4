use Rattle.std.proofs.Common.{◌≡◌, ◌<◌, ℕ, false, map}
use Rattle.avs_sender.specs.Places.{places_in}
use Rattle.avs_sender.specs.SenderView.{set_places}
use Rattle.avs_sender.specs.Waits.{waits_at}
use Rattle.avs_sender.proofs.copying.first_waiting.Given as goal

abbrev pub invariant-loop-set : goal.invariant-loop-set
invariant-loop-set l = record {
  kept : map set_places l.tracked.items ≡ map set_places l.fn.tracked.items;
  before : (t s : ℕ) → t < l.set → waits_at (places_in (map set_places l.fn.tracked.items) t).waiting s ≡ false;
}
