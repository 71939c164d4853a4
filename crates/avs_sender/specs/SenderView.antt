-- What a sender keeps of the segments of a set, as the code holds it.
use Rattle.avs_sender.specs.declared.tracked.Tracked.{Tracked}
use Rattle.avs_sender.specs.Held.{SetPlaces}

abbrev pub set_places : Tracked → SetPlaces
set_places t = record { touched = t.touched; waiting = t.waiting }
