-- Lists of events, done or stopped, from one state of two halves to another.
use Rattle.std.specs.Prelude.{Bool, List, [], ◌∷◌, ◌++◌}
use Rattle.avs_mirrors.specs.Pair.{PairState}
use Rattle.avs_mirrors.specs.Moves.{Move, after_all}
use Rattle.avs_mirrors.specs.Events.{PairEvent, moves}
use Rattle.avs_mirrors.specs.Accepts.{Accepts}
use Rattle.avs_mirrors.specs.Stops.{Stops}

-- an event that was done, or that a fault stopped behind these moves; and whether the source had a disk queue
pub data Step : Type 0 where
  Done : Bool → PairEvent → Step
  Stopped : Bool → PairEvent → List Move → Step

abbrev pub step_moves : PairState → Step → List Move
step_moves p (Done queued e) = moves queued p e
step_moves p (Stopped queued e ms) = ms

-- nothing refuses the event; and where it is stopped, it is stopped as it may be
abbrev pub Happens : PairState → Step → Type 0
Happens p (Done queued e) = Accepts p e
Happens p (Stopped queued e ms) = Accepts p e × Stops queued p e ms

abbrev pub all_moves : PairState → List Step → List Move
all_moves p [] = []
all_moves p (s ∷ ss) = step_moves p s ++ all_moves (after_all p (step_moves p s)) ss

abbrev pub AllHappen : PairState → List Step → Type 0
AllHappen p [] = Unit {0}
AllHappen p (s ∷ ss) = Happens p s × AllHappen (after_all p (step_moves p s)) ss
