-- A run so far, and what the next line makes of it.
use Rattle.std.specs.Prelude.{ℕ, ◌≡◌, ◌+◌, ◌≤◌, ◌<◌, ⊤, IsTrue, Bool, Option, None, Some, List, [], ◌∷◌, ◌++◌, length, Result, OnOk, IfErr}
use Rattle.avs_seg.specs.Lines.{lines_limit}
use Rattle.avs_dev.specs.Seen.{Seen}
use Rattle.avs_dev.specs.Rack.{RackSeen}
use Rattle.avs_io.specs.Given.{HasGiven}
use Rattle.avs_io.specs.Reader.{Reader}
use Rattle.avs_model.specs.Script.{script}
use Rattle.avs_model.specs.Printed.{text}
use Rattle.avs_model.specs.State.{State, start}
use Rattle.avs_model.specs.Good.{RunTo}
use Rattle.avs_model.specs.Promise.{Claim, OneEach, AreGood, Wrote}
use Rattle.avs_model.specs.declared.event.Event.{Event}
use Rattle.avs_model.specs.declared.answer.Answer.{Answer}
use Rattle.avs_world.specs.World.{Stands}
use Rattle.avs_run.specs.Ends.{status_of, EndsIn, Printed}
use Rattle.avs_world.specs.declared.world.World.{World}
use Rattle.avs_run.specs.declared.end.End.{End}

-- what may be claimed over a rack: that answers are good ones only where its disks tell their blocks
abbrev pub Supports : RackSeen → Claim → Type 0
Supports rack OneEach = ⊤
Supports rack (AreGood steady) = IsTrue rack.tells × (steady ≡ rack.steady)

-- good answers to these events lead to a state for which the world stands
pub record RunsToWorld {D : Type 0} (seen : D → Seen) (steady : Bool) (events : List Event) (answers : List Answer) (world : World D) : Type 0 where
  pub state : State
  pub ran : RunTo steady start events answers state
  pub stands : Stands seen steady world state

-- the world after these events with these answers, as far as that is claimed
abbrev pub Ran : {D : Type 0} → (D → Seen) → Claim → List Event → List Answer → World D → Type 0
Ran seen OneEach events answers world = length answers ≡ length events
Ran seen (AreGood steady) events answers world = RunsToWorld seen steady events answers world

-- the lines given so far are done: their events are answered, the answers are printed, and so much is claimed of them and of the world
pub record SoFar {D : Type 0} (seen : D → Seen) (claim : Claim) (lines : List (List ℕ)) (world : World D) (printed : List ℕ) : Type 0 where
  pub within : length lines ≤ lines_limit
  pub not_bad : (script lines).bad ≡ None
  pub answers : List Answer
  pub is_text : printed ≡ text answers
  pub ran : Ran seen claim (script lines).events answers world

-- a line was done, or ended the run
pub record RunsLine {D : Type 0} (seen : D → Seen) (claim : Claim) (line : List ℕ) (number : ℕ) (old new : World D) (before after : Option (List ℕ)) (result : Result (Unit {0}) End) : Type 0 where
  pub goes_on : OnOk result ((lines : List (List ℕ)) (printed : List ℕ) → SoFar seen claim lines old printed → length lines < lines_limit
      → Printed before after (λ more. SoFar seen claim (lines ++ line ∷ []) new (printed ++ more)))
  pub ends : IfErr result (λ end. (lines rest : List (List ℕ)) (printed : List ℕ) → SoFar seen claim lines old printed → number ≡ length lines + 1
      → Printed before after (λ more. EndsIn claim end (script (lines ++ line ∷ rest)) (printed ++ more)))

-- the next line of the input was done, or the run ended there
pub record Turns {D : Type 0} (seen : D → Seen) (claim : Claim) (input : List ℕ) (from to : Reader) (old new : World D) (before after : Option (List ℕ)) (result : Result (Unit {0}) End) : Type 0 where
  pub goes_on : OnOk result ((lines : List (List ℕ)) (printed : List ℕ) → HasGiven (Some input) lines from → SoFar seen claim lines old printed
      → (line : List ℕ) × (HasGiven (Some input) (lines ++ line ∷ []) to) × (Printed before after (λ more. SoFar seen claim (lines ++ line ∷ []) new (printed ++ more))))
  pub ends : IfErr result (λ end. (lines : List (List ℕ)) (printed : List ℕ) → HasGiven (Some input) lines from → SoFar seen claim lines old printed
      → Printed before after (λ more. Wrote claim (status_of end) input to.left (printed ++ more)))
