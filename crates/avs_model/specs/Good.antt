-- Whole runs.
use Rattle.std.specs.Prelude.{◌≡◌, Bool, List, [], ◌∷◌}
use Rattle.avs_model.specs.State.{State, start}
use Rattle.avs_model.specs.Right.{Right}
use Rattle.avs_model.specs.Next.{Next}
use Rattle.avs_model.specs.declared.event.Event.{Event}
use Rattle.avs_model.specs.declared.answer.Answer.{Answer}

-- one event and its answer
pub record Step (steady : Bool) (old : State) (event : Event) (answer : Answer) (new : State) : Type 0 where
  pub right : Right steady old event answer
  pub next : Next steady old event answer new

-- from one state to another by these events, each with its answer
abbrev pub RunTo : Bool → State → List Event → List Answer → State → Type 0
RunTo steady old [] [] new = new ≡ old
RunTo steady old (event ∷ events) (answer ∷ answers) new = (mid : State) × (Step steady old event answer mid) × (RunTo steady mid events answers new)
RunTo steady old [] (answer ∷ answers) new = ⊥
RunTo steady old (event ∷ events) [] new = ⊥

-- the answers to a script's events, from two empty hosts on
abbrev pub Good : Bool → List Event → List Answer → Type 0
Good steady events answers = (end : State) × RunTo steady start events answers end
