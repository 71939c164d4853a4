use Rattle.std.proofs.Common.{◌≡◌, map, take}
use Rattle.avs_sender.specs.SenderView.{set_places}
use Rattle.avs_sender.specs.Places.{places_for}
use Rattle.avs_sender.proofs.tracking.track.Given as goal

abbrev pub invariant-loop-set : goal.invariant-loop-set
invariant-loop-set g l = map set_places l.tracked.items ≡ places_for l.places (take l.set l.sets)
