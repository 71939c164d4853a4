use Rattle.avs_sync.proofs.Alike.{begins_alike, places_alike, marks_alike, learns_alike, leaves_alike}
use Rattle.avs_sync.proofs.laws.goes_on_as_its_half.Goals as goal

pub returns-clause-begins : goal.returns-clause-begins
returns-clause-begins c = begins_alike

pub returns-clause-places : goal.returns-clause-places
returns-clause-places c = places_alike

pub returns-clause-marks : goal.returns-clause-marks
returns-clause-marks c = marks_alike

pub returns-clause-learns : goal.returns-clause-learns
returns-clause-learns c = learns_alike

pub returns-clause-leaves : goal.returns-clause-leaves
returns-clause-leaves c = leaves_alike
