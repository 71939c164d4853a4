use Rattle.avs_pair.proofs.Stopping.{again_has_pair, stop_has_pair, stops_at_once}
use Rattle.avs_pair.proofs.stops_have_pairs.Goals as goal

pub returns-clause-still : goal.returns-clause-still
returns-clause-still c = stop_has_pair

pub returns-clause-at_once : goal.returns-clause-at_once
returns-clause-at_once c = stops_at_once

pub returns-clause-again : goal.returns-clause-again
returns-clause-again c = again_has_pair
