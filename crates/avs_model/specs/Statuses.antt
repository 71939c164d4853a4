-- What a run of a script has written when it ends, status by status, over disks that tell their blocks or not.
use Rattle.std.specs.Prelude.{◌≡◌, ◌⊎◌, ℕ, ◌<◌, ◌≤◌, ◌==◌, IsTrue, Bool, true, Option, None, Some, List, [], ◌∷◌, ◌++◌, length, take}
use Rattle.std.specs.List.{list_any}
use Rattle.std.specs.Io.KnownBytes.{prepend_known}
use Rattle.avs_seg.specs.Lines.{lines_limit, lines_of, whole_lines}
use Rattle.avs_model.specs.Terms.{Terms}
use Rattle.avs_model.specs.BothHosts.{State, start}
use Rattle.avs_model.specs.WholeRuns.{RunTo, Answers, asks_rack, passes}
use Rattle.avs_model.specs.AnswerTexts.{text}
use Rattle.avs_model.specs.Printed.{bad_line}
use Rattle.avs_model.specs.declared.product.Event.{Event}
use Rattle.avs_model.specs.declared.product.Answer.{Answer}

-- what some lines say: the events up to the first line that is no statement, and that line's number
pub record Given : Type 0 where
  pub events : List Event
  pub bad : Option ℕ

-- how lines are read
abbrev pub Reading : Type 0
Reading = List (List ℕ) → Given

-- the bytes are answers to these events, whole
pub record IsAnswered (terms : Terms) (events : List Event) (bytes : List ℕ) : Type 0 where
  pub answers : List Answer
  pub printed : bytes ≡ text answers
  pub right : Answers terms events answers

-- the bytes are answers to the events before a line that is no statement, and then tell that line's number
pub record IsAnsweredToBad (terms : Terms) (given : Given) (bytes : List ℕ) : Type 0 where
  pub number : ℕ
  pub bad : given.bad ≡ Some number
  pub answers : List Answer
  pub printed : bytes ≡ text answers ++ bad_line number
  pub right : Answers terms given.events answers

-- the script of the lines that may be read of these bytes
abbrev pub script_of : Reading → List ℕ → Given
script_of read input = read (take lines_limit (lines_of input))

-- 0: the whole script was read and answered
pub record IsWhole (terms : Terms) (read : Reading) (input : List ℕ) (left : Option (List ℕ)) (bytes : List ℕ) : Type 0 where
  pub at_end : left ≡ Some []
  pub within : length (lines_of input) ≤ lines_limit
  pub not_bad : (script_of read input).bad ≡ None
  pub answered : IsAnswered terms (script_of read input).events bytes

-- 4: the source failed, and the lines that were taken whole are answered
pub record IsCutBySource (terms : Terms) (read : Reading) (input : List ℕ) (left : Option (List ℕ)) (bytes : List ℕ) : Type 0 where
  pub taken : List ℕ
  pub took : Some input ≡ prepend_known taken left
  pub within : length (whole_lines taken) ≤ lines_limit
  pub not_bad : (read (whole_lines taken)).bad ≡ None
  pub answered : IsAnswered terms (read (whole_lines taken)).events bytes

-- 5: the sink failed, and the bytes are the first of such a text
pub record IsCutBySink (terms : Terms) (given : Given) (bytes : List ℕ) : Type 0 where
  pub whole : List ℕ
  pub count : ℕ
  pub first : bytes ≡ take count whole
  pub such : ((answered : ℕ) × IsAnswered terms (take answered given.events) whole) ⊎ IsAnsweredToBad terms given whole

-- 6: the rack failed, and the events before the one that asked it for a disk are answered; that one is not refused
pub record IsCutByRack (terms : Terms) (given : Given) (bytes : List ℕ) : Type 0 where
  pub before : List Event
  pub event : Event
  pub after : List Event
  pub events : given.events ≡ before ++ event ∷ after
  pub answers : List Answer
  pub printed : bytes ≡ text answers
  pub right : Answers terms before answers
  pub asked : terms.tells ≡ true → (state : State) × (RunTo terms start before answers state) × (passes terms state event) × (0 < length (asks_rack state event))

-- 7: there was no memory, and some first events are answered
pub record IsCutByMemory (terms : Terms) (given : Given) (bytes : List ℕ) : Type 0 where
  pub count : ℕ
  pub answered : IsAnswered terms (take count given.events) bytes

-- 8: the script has more lines than may be, and those that may be are answered
pub record IsOverBudget (terms : Terms) (read : Reading) (input bytes : List ℕ) : Type 0 where
  pub more : lines_limit < length (lines_of input)
  pub not_bad : (script_of read input).bad ≡ None
  pub answered : IsAnswered terms (script_of read input).events bytes

-- what a run over such disks has written of the answers to the input, of which the source then has so much left
pub record Wrote (terms : Terms) (read : Reading) (status : ℕ) (input : List ℕ) (left : Option (List ℕ)) (bytes : List ℕ) : Type 0 where
  pub whole : status ≡ 0 → IsWhole terms read input left bytes
  pub words : status ≡ 2 → bytes ≡ []
  pub bad : status ≡ 3 → IsAnsweredToBad terms (script_of read input) bytes
  pub source : status ≡ 4 → IsCutBySource terms read input left bytes
  pub sink : status ≡ 5 → IsCutBySink terms (script_of read input) bytes
  pub rack : status ≡ 6 → IsCutByRack terms (script_of read input) bytes
  pub memory : status ≡ 7 → IsCutByMemory terms (script_of read input) bytes
  pub budget : status ≡ 8 → IsOverBudget terms read input bytes

-- the statuses that there are so far, and what a run with one of them has written
abbrev pub is_status : ℕ → Bool
is_status status = list_any (λ one. status == one) (0 ∷ 2 ∷ 3 ∷ 4 ∷ 5 ∷ 6 ∷ 7 ∷ 8 ∷ [])

pub record Ends (terms : Terms) (read : Reading) (status : ℕ) (input : List ℕ) (left : Option (List ℕ)) (bytes : List ℕ) : Type 0 where
  pub known : IsTrue (is_status status)
  pub wrote : Wrote terms read status input left bytes
