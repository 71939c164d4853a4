-- Whole runs: the events of a script and their answers, over disks that tell their blocks or not.
use Rattle.std.specs.Prelude.{◌≡◌, ◌⊎◌, ℕ, ◌+◌, ◌==◌, Bool, true, false, not, ◌&&◌, ◌||◌, if◌then◌else◌, None, List, [], ◌∷◌, length}
use Rattle.avs_seg.specs.Causes.{Rose}
use Rattle.avs_model.specs.Limits.{least_volume}
use Rattle.avs_model.specs.Terms.{Terms, Chosen}
use Rattle.avs_model.specs.Hosts.{HostState, free_number}
use Rattle.avs_model.specs.HostEvents.{asks_for_number}
use Rattle.avs_model.specs.HostCauses.{refusal}
use Rattle.avs_model.specs.BothHosts.{State, start, host_of, elsewhere, Named, One, named, Step}
use Rattle.avs_model.specs.declared.product.Event.{Event}
use Rattle.avs_model.specs.declared.product.Event.TheVariants.{Volume, Ii}
use Rattle.avs_model.specs.declared.product.Answer.{Answer}
use Rattle.avs_model.specs.declared.product.Answer.TheVariants.{Refused}

-- from one state to another by these events, each with its answer
abbrev pub RunTo : Terms → State → List Event → List Answer → State → Type 0
RunTo terms old [] [] new = new ≡ old
RunTo terms old (event ∷ events) (answer ∷ answers) new = (mid : State) × (Step terms old event answer mid) × (RunTo terms mid events answers new)
RunTo terms old [] (answer ∷ answers) new = ⊥
RunTo terms old (event ∷ events) [] new = ⊥

-- the answers to a script's events, from two empty hosts on
abbrev pub Good : Terms → List Event → List Answer → Type 0
Good terms events answers = (end : State) × RunTo terms start events answers end

-- ---- over disks that tell nothing

-- the event makes a group, unless it is refused
abbrev pub may_make_group : State → Event → Bool
may_make_group state (Ii host command) = asks_for_number (host_of state host) command
may_make_group state event = false

abbrev pub is_refused : Answer → Bool
is_refused (Refused why) = true
is_refused answer = false

-- Each event has one answer. Until the first group is made they are right; behind that nothing is said.
abbrev pub RunsBare : Terms → State → List Event → List Answer → Type 0
RunsBare terms old [] [] = Unit {0}
RunsBare terms old (event ∷ events) (answer ∷ answers) =
    ((may_make_group old event && not (is_refused answer)) ≡ true) × (length answers ≡ length events)
    ⊎ ((mid : State) × (Step terms old event answer mid) × (RunsBare terms mid events answers))
RunsBare terms old [] (answer ∷ answers) = ⊥
RunsBare terms old (event ∷ events) [] = ⊥

-- what is said of a script's answers
abbrev pub Answers : Terms → List Event → List Answer → Type 0
Answers terms events answers = said terms.tells
  where
    said : Bool → Type 0
    said true = Good terms events answers
    said false = RunsBare terms start events answers

-- ---- what a run has of the outside

-- how often the source, the sink and the rack failed
pub record OutsideFaults : Type 0 where
  pub source : ℕ
  pub sink : ℕ
  pub rack : ℕ

-- The status with which a run ends tells which of them failed: the first fault of any ends the run.
pub record HasFaultsBy (status : ℕ) (before after : OutsideFaults) : Type 0 where
  pub source : status ≡ 4 → Rose before.source after.source × (after ≡ record before { source = after.source })
  pub sink : status ≡ 5 → Rose before.sink after.sink × (after ≡ record before { sink = after.sink })
  pub rack : status ≡ 6 → Rose before.rack after.rack × (after ≡ record before { rack = after.rack })
  pub others : (status == 4 || status == 5 || status == 6) ≡ false → after ≡ before

-- ---- disks of the rack

-- the disk of a group's state has the least size of a volume
abbrev pub state_disk_blocks : ℕ
state_disk_blocks = least_volume

-- the disks that a host was given: those of its volumes, and those of numbers
abbrev pub disks_of : HostState → ℕ
disks_of host = length host.volumes + length host.numbers

abbrev pub all_disks : State → ℕ
all_disks state = disks_of state.p + disks_of state.s

-- the blocks of the disks that an event asks of the rack, where nothing refuses it: a volume's own; and one for the state of a group, where
-- none is free
abbrev pub asks_rack : State → Event → List ℕ
asks_rack state (Volume host volume blocks) = blocks ∷ []
asks_rack state (Ii host command) =
    let held = host_of state host in
    if asks_for_number held command && free_number held == length held.numbers then state_disk_blocks ∷ [] else []
asks_rack state event = []

-- nothing refuses an event of one host
abbrev pub passes_on : Terms → State → Named → Event → Type 0
passes_on terms state (One host) event = (chosen : Chosen) × (refusal terms (elsewhere state host) chosen (host_of state host) event ≡ None)
passes_on terms state other event = ⊥

abbrev pub passes : Terms → State → Event → Type 0
passes terms state event = passes_on terms state (named event) event
