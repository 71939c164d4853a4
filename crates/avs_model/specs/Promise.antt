-- What a run of a script has written when it ends, status by status.
use Rattle.std.specs.Prelude.{◌≡◌, ◌⊎◌, ℕ, ◌<◌, ◌≤◌, ◌==◌, IsTrue, Bool, Option, None, Some, List, [], ◌∷◌, ◌++◌, length, take}
use Rattle.std.specs.List.{list_any}
use Rattle.std.specs.Io.KnownBytes.{prepend_known}
use Rattle.avs_seg.specs.Lines.{lines_limit, lines_of, whole_lines}
use Rattle.avs_model.specs.Script.{Script, script}
use Rattle.avs_model.specs.Printed.{text, bad_line}
use Rattle.avs_model.specs.State.{State, start, host_of, are_disks_used}
use Rattle.avs_model.specs.Refusals.{refusal}
use Rattle.avs_model.specs.Good.{Good, RunTo}
use Rattle.avs_model.specs.declared.event.Event.{Event}
use Rattle.avs_model.specs.declared.event.Event.TheVariants.{Volume, Ii}
use Rattle.avs_model.specs.declared.answer.Answer.{Answer}

-- What is claimed of the answers to events: that each event has one; or, where the disks tell their blocks, that they are good ones over
-- disks that are steady or not.
pub data Claim : Type 0 where
  OneEach : Claim
  AreGood : Bool → Claim

abbrev pub Meets : Claim → List Event → List Answer → Type 0
Meets OneEach events answers = length answers ≡ length events
Meets (AreGood steady) events answers = Good steady events answers

-- the bytes are such answers to these events, whole
pub record IsAnswered (claim : Claim) (events : List Event) (bytes : List ℕ) : Type 0 where
  pub answers : List Answer
  pub printed : bytes ≡ text answers
  pub good : Meets claim events answers

-- the bytes are such answers to the events before a line that is no statement, and then tell that line's number
pub record IsAnsweredToBad (claim : Claim) (given : Script) (bytes : List ℕ) : Type 0 where
  pub number : ℕ
  pub bad : given.bad ≡ Some number
  pub answers : List Answer
  pub printed : bytes ≡ text answers ++ bad_line number
  pub good : Meets claim given.events answers

-- the script of the lines that may be read of these bytes
abbrev pub script_of : List ℕ → Script
script_of input = script (take lines_limit (lines_of input))

-- the statuses that there are so far
abbrev pub is_status : ℕ → Bool
is_status status = list_any (λ s. status == s) (0 ∷ 2 ∷ 3 ∷ 4 ∷ 5 ∷ 6 ∷ 7 ∷ 8 ∷ [])

-- the whole script was read and answered
pub record IsWhole (claim : Claim) (input : List ℕ) (left : Option (List ℕ)) (bytes : List ℕ) : Type 0 where
  pub at_end : left ≡ Some []
  pub within : length (lines_of input) ≤ lines_limit
  pub not_bad : (script_of input).bad ≡ None
  pub answered : IsAnswered claim (script_of input).events bytes

-- the source failed: the lines that were taken whole are answered
pub record IsCutBySource (claim : Claim) (input : List ℕ) (left : Option (List ℕ)) (bytes : List ℕ) : Type 0 where
  pub taken : List ℕ
  pub took : Some input ≡ prepend_known taken left
  pub within : length (whole_lines taken) ≤ lines_limit
  pub not_bad : (script (whole_lines taken)).bad ≡ None
  pub answered : IsAnswered claim (script (whole_lines taken)).events bytes

-- the sink failed: the bytes are the first of such a text
pub record IsCutBySink (claim : Claim) (given : Script) (bytes : List ℕ) : Type 0 where
  pub whole : List ℕ
  pub count : ℕ
  pub first : bytes ≡ take count whole
  pub such : ((answered : ℕ) × IsAnswered claim (take answered given.events) whole) ⊎ IsAnsweredToBad claim given whole

-- The event asks the rack for a disk: nothing refuses it, and it makes a volume, or a group for whose state no disk is free.
abbrev pub AsksForDisk : State → Event → Type 0
AsksForDisk state (Volume host name blocks) = refusal state (Volume host name blocks) ≡ None
AsksForDisk state (Ii host command) = (refusal state (Ii host command) ≡ None) × IsTrue (are_disks_used (host_of state host))
AsksForDisk state event = ⊥

-- good answers to some events lead to a state in which the next one asks the rack for a disk
pub record RunsToAsking (steady : Bool) (before : List Event) (answers : List Answer) (event : Event) : Type 0 where
  pub state : State
  pub ran : RunTo steady start before answers state
  pub asks : AsksForDisk state event

-- the event behind these asks the rack for a disk, as far as that is claimed
abbrev pub Asks : Claim → List Event → List Answer → Event → Type 0
Asks OneEach before answers event = length answers ≡ length before
Asks (AreGood steady) before answers event = RunsToAsking steady before answers event

-- the rack failed: the events before the one that asked it for a disk are answered
pub record IsCutByRack (claim : Claim) (given : Script) (bytes : List ℕ) : Type 0 where
  pub before : List Event
  pub event : Event
  pub after : List Event
  pub events : given.events ≡ before ++ event ∷ after
  pub answers : List Answer
  pub printed : bytes ≡ text answers
  pub asks : Asks claim before answers event

-- there was no memory: some first events are answered
pub record IsCutByMemory (claim : Claim) (given : Script) (bytes : List ℕ) : Type 0 where
  pub count : ℕ
  pub answered : IsAnswered claim (take count given.events) bytes

-- the script has more lines than may be: those that may be are answered
pub record IsOverBudget (claim : Claim) (input bytes : List ℕ) : Type 0 where
  pub more : lines_limit < length (lines_of input)
  pub not_bad : (script_of input).bad ≡ None
  pub answered : IsAnswered claim (script_of input).events bytes

-- what a run has written of the answers to the input, of which the source then has so much left
pub record Wrote (claim : Claim) (status : ℕ) (input : List ℕ) (left : Option (List ℕ)) (bytes : List ℕ) : Type 0 where
  pub known : IsTrue (is_status status)
  pub whole : status ≡ 0 → IsWhole claim input left bytes
  pub words : status ≡ 2 → bytes ≡ []
  pub bad : status ≡ 3 → IsAnsweredToBad claim (script_of input) bytes
  pub source : status ≡ 4 → IsCutBySource claim input left bytes
  pub sink : status ≡ 5 → IsCutBySink claim (script_of input) bytes
  pub rack : status ≡ 6 → IsCutByRack claim (script_of input) bytes
  pub memory : status ≡ 7 → IsCutByMemory claim (script_of input) bytes
  pub budget : status ≡ 8 → IsOverBudget claim input bytes
