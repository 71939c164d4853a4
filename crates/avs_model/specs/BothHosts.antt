-- Both hosts: for which of them an event is, what it does on both, and the steps of an event that is a fold of others.
use Rattle.std.specs.Prelude.{◌≡◌, ◌⊎◌, ℕ, ◌<◌, nat_lt, Bool, true, false, IsTrue, if◌then◌else◌, Option, None, Some, List, [], ◌∷◌, take, drop}
use Rattle.std.specs.List.{list_any}
use Rattle.std.specs.Option.{option_map_or}
use Rattle.avs_seg.specs.Staged.{Stages, run, Parts, in_parts, own}
use Rattle.avs_model.specs.Terms.{Terms, Chosen}
use Rattle.avs_model.specs.ShadowSets.{to_copy}
use Rattle.avs_model.specs.Hosts.{Name, HostStage, Leaves, Arrives, HostState, HostSpot, Halted, empty_host, volume_of, set_state, blocks_on}
use Rattle.avs_model.specs.HostStages.{in_host, sequence_before, host_work_of, written_on, with_armed}
use Rattle.avs_model.specs.HostFacts.{move_facts}
use Rattle.avs_model.specs.HostCauses.{causes}
use Rattle.avs_model.specs.HostSteps.{HostStep, is_armed}
use Rattle.avs_model.specs.Rows.{first_row}
use Rattle.avs_model.specs.HostRows.{move_rows}
use Rattle.avs_model.specs.declared.answer.Refusal.{Refusal}
use Rattle.avs_model.specs.declared.event.Host.{Host}
use Rattle.avs_model.specs.declared.event.Host.TheVariants.{P, S}
use Rattle.avs_model.specs.declared.product.Elsewhere.{Elsewhere}
use Rattle.avs_model.specs.declared.product.IiCommand.TheVariants.{Finish}
use Rattle.avs_model.specs.declared.product.Event.{Event}
use Rattle.avs_model.specs.declared.product.Event.TheVariants.{Volume, Write, Read, Ii, IiBad, Copy, Arm, Crash, Recover, Move}
use Rattle.avs_model.specs.declared.product.Answer.{Answer}
use Rattle.avs_model.specs.declared.product.Answer.TheVariants.{Done, Refused, Faulted}

-- both hosts
pub record State : Type 0 where
  pub p : HostState
  pub s : HostState

-- before the first event: host p gives odd stamps, and s even ones
abbrev pub start : State
start = record { p = empty_host 1; s = empty_host 2 }

abbrev pub host_of : State → Host → HostState
host_of state P = state.p
host_of state S = state.s

abbrev pub with_host : State → Host → HostState → State
with_host state P host = record state { p = host }
with_host state S host = record state { s = host }

abbrev pub same_host : Host → Host → Bool
same_host P P = true
same_host S S = true
same_host P S = false
same_host S P = false

abbrev pub other_of : Host → Host
other_of P = S
other_of S = P

-- what stages of both hosts do, each at its own
abbrev pub hosts : Parts Host HostState State
hosts = record { part = host_of; with_part = with_host; is_same = same_host }

abbrev pub in_both : Stages State (Host × HostStage)
in_both = in_parts hosts in_host

abbrev pub own_stages : Host → List (Host × HostStage) → List HostStage
own_stages host stages = own hosts host stages

-- for whom an event is: one host, two, those of a group, or none
pub data Named : Type 0 where
  One : Host → Named
  Two : Host → Host → Named
  OfGroup : Name → Named
  Neither : Named

abbrev pub named : Event → Named
named (Volume host volume blocks) = One host
named (Write host volume at len pattern) = One host
named (Read host volume at len) = One host
named (Ii host command) = One host
named (IiBad host word) = One host
named (Copy host set) = One host
named (Arm host target skip first count) = One host
named (Crash host) = One host
named (Recover host) = One host
named (Move volume from to) = Two from to

-- what a host is told of all that is not its own
abbrev pub elsewhere : State → Host → Elsewhere
elsewhere state host = record { name = host; blocks = blocks_on (host_of state (other_of host)) }

-- ---- events of two hosts

-- what an event of two hosts is refused for
abbrev pub pair_causes : State → Event → List (Option Refusal)
pair_causes state (Move volume from to) = move_rows (move_facts from (host_of state from) to (host_of state to) volume)
pair_causes state event = []

abbrev pub pair_refusal : State → Event → Option Refusal
pair_refusal state event = first_row (pair_causes state event)

-- its stages: what comes to a host is as it left the other
abbrev pub pair_stages : State → Event → List (Host × HostStage)
pair_stages state (Move volume from to) =
    option_map_or (λ moved. (from, Leaves volume) ∷ (to, Arrives moved) ∷ []) (volume_of (host_of state from) volume) []
pair_stages state event = []

-- the blocks that it writes on a disk of a host at most
abbrev pub pair_writes_on : State → Host → List (Host × HostStage) → HostSpot → ℕ
pair_writes_on state host stages disk = written_on (host_work_of (host_of state host) (own_stages host stages)) disk

-- a tear is armed on a disk of that host on which it may write
pub record PairMeetsTear (state : State) (event : Event) (host : Host) : Type 0 where
  pub disk : HostSpot
  pub writes : 0 < pair_writes_on state host (pair_stages state event) disk
  pub armed : IsTrue (is_armed (host_of state host) disk)

abbrev pub pair_uses_disk : State → Event → Host → Bool
pair_uses_disk state event host = list_any (λ one. nat_lt 0 one.blocks) (host_work_of (host_of state host) (own_stages host (pair_stages state event)))

-- A fault may stop it on either host, where it uses a disk of that host that may fail. What the event did on the other host before
-- that stands; what it was about to do on this one is told when this one is brought up again.
abbrev pub PairTearUsed : Terms → State → Event → Host → HostState → Type 0
PairTearUsed terms old event host new =
    ((met : PairMeetsTear old event host) × (new ≡ with_armed (host_of old host) met.disk false)) ⊎ ((terms.steady ≡ false) × (new ≡ host_of old host))

abbrev pub pair_stopped : HostState → Event → List HostStage → HostState
pair_stopped host event stages =
    record host { run = Halted (Some (record { event = event; stages = stages; begun = true; sequence = sequence_before host stages })) }

abbrev pub with_other_done : State → Host → List (Host × HostStage) → State
with_other_done old host stages = let other = other_of host in with_host old other (run in_host (host_of old other) (own_stages other stages))

-- it is stopped where the next stage is that host's
abbrev pub is_next_on : Host → List (Host × HostStage) → Bool
is_next_on host [] = false
is_next_on host (stage ∷ stages) = same_host host stage.0

pub record PairStops (terms : Terms) (old : State) (event : Event) (host : Host) (new : State) : Type 0 where
  pub uses : IsTrue (pair_uses_disk old event host)
  pub n : ℕ
  pub next : IsTrue (is_next_on host (drop n (pair_stages old event)))
  pub left : HostState
  pub tear : PairTearUsed terms old event host left
  pub is : new ≡ with_host (with_other_done old host (take n (pair_stages old event))) host (pair_stopped left event (own_stages host (pair_stages old event)))

-- an event of two hosts and its answer
abbrev pub PairStep : Terms → State → Event → Answer → State → Type 0
PairStep terms old event (Refused why) new = (pair_refusal old event ≡ Some why) × (new ≡ old)
PairStep terms old event (Faulted host) new = (pair_refusal old event ≡ None) × PairStops terms old event host new
PairStep terms old event answer new = (pair_refusal old event ≡ None) × (answer ≡ Done) × (new ≡ run in_both old (pair_stages old event))

-- ---- one event

-- that host does it, and the other stays
pub record RoutedStep (terms : Terms) (old : State) (host : Host) (event : Event) (answer : Answer) (new : State) : Type 0 where
  pub held : HostState
  pub step : HostStep terms (elsewhere old host) (host_of old host) event answer held
  pub is : new ≡ with_host old host held

abbrev pub StepOf : Terms → State → Named → Event → Answer → State → Type 0
StepOf terms old (One host) event answer new = RoutedStep terms old host event answer new
StepOf terms old (Two from to) event answer new = PairStep terms old event answer new
StepOf terms old (OfGroup group) event answer new = ⊥
StepOf terms old Neither event answer new = ⊥

abbrev pub PlainStep : Terms → State → Event → Answer → State → Type 0
PlainStep terms old event answer new = StepOf terms old (named event) event answer new

-- ---- folds

-- Whether an event is a fold of others; and its next step, with the event that is left. It is done where there is none.
abbrev pub is_fold : Event → Bool
is_fold (Ii host (Finish set)) = true
is_fold event = false

abbrev pub chunks_left : State → Host → Name → ℕ
chunks_left state host set = option_map_or to_copy (set_state (host_of state host) set) 0

abbrev pub next_step : State → Event → Option (Event × Event)
next_step state (Ii host (Finish set)) = if nat_lt 0 (chunks_left state host set) then Some (Copy host set, Ii host (Finish set)) else None
next_step state event = None

-- the answer with which a step ends the fold, or none
abbrev pub ends_with : Answer → Option Answer
ends_with (Refused why) = Some (Refused why)
ends_with (Faulted host) = Some (Faulted host)
ends_with answer = None

-- its steps, one after another, to its answer: one that is refused or stopped is the last
abbrev pub Folds : Terms → State → Event → List Event → Answer → State → Type 0
Folds terms old event [] answer new = (next_step old event ≡ None) × (answer ≡ Done) × (new ≡ old)
Folds terms old event (step ∷ steps) answer new =
    (left : Event) × (out : Answer) × (mid : State)
    × (next_step old event ≡ Some (step, left))
    × PlainStep terms old step out mid
    × (((ends_with out ≡ Some answer) × (steps ≡ []) × (new ≡ mid)) ⊎ ((ends_with out ≡ None) × Folds terms mid left steps answer new))

-- the refusals of the fold itself are looked at once, before its first step
pub record FoldGoes (terms : Terms) (old : State) (host : Host) (event : Event) (answer : Answer) (new : State) : Type 0 where
  pub chosen : Chosen
  pub passes : first_row (causes terms (elsewhere old host) chosen (host_of old host) event) ≡ None
  pub steps : List Event
  pub folds : Folds terms old event steps answer new

abbrev pub FoldStep : Terms → State → Named → Event → Answer → State → Type 0
FoldStep terms old (One host) event (Refused why) new = RoutedStep terms old host event (Refused why) new ⊎ FoldGoes terms old host event (Refused why) new
FoldStep terms old (One host) event answer new = FoldGoes terms old host event answer new
FoldStep terms old other event answer new = ⊥

-- one event and its answer
abbrev pub Step : Terms → State → Event → Answer → State → Type 0
Step terms old event answer new = step (is_fold event)
  where
    step : Bool → Type 0
    step true = FoldStep terms old (named event) event answer new
    step false = PlainStep terms old event answer new
