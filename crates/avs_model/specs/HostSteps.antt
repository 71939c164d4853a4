-- One event on one host and its answer: which answer is right, and which state may follow.
use Rattle.std.specs.Prelude.{◌≡◌, ◌⊎◌, ℕ, ◌+◌, ◌==◌, ◌<◌, ◌||◌, nat_lt, Bool, true, false, not, IsTrue, is_none, if◌then◌else◌, Option, None, Some, List, [], ◌∷◌, length, map, filter, replicate, zero, suc}
use Rattle.std.specs.List.{list_any, range_with_len}
use Rattle.std.specs.Option.{option_map_or}
use Rattle.std.specs.Str.{bytes_eq}
use Rattle.avs_seg.specs.Image.{Image, block_at}
use Rattle.avs_seg.specs.Staged.{Stages, run}
use Rattle.avs_model.specs.Filling.{fill}
use Rattle.avs_model.specs.Terms.{Terms, Chosen, IsFair}
use Rattle.avs_model.specs.ShadowSets.{to_copy}
use Rattle.avs_model.specs.GroupStates.{opened_again, without_holes}
use Rattle.avs_model.specs.Hosts.{Name, ShadowGroup, NumberState, HostSpot, OfVolume, OfNumber, HostStage, HostState, HostRun, Running, Halted, Stopped, stopped_in, volume_of, set_state}
use Rattle.avs_model.specs.HostPlaces.{image_of}
use Rattle.avs_model.specs.HostStages.{in_host, with_armed, is_host_commit, is_committed, sequence_before, host_work_of, written_on}
use Rattle.avs_model.specs.HostEvents.{stages, with_disk_asked, IsOutcome}
use Rattle.avs_model.specs.HostFacts.{room_facts}
use Rattle.avs_model.specs.Rows.{first_row}
use Rattle.avs_model.specs.RangeRows.{room_rows}
use Rattle.avs_model.specs.HostCauses.{command_causes, refusal, early_refusal}
use Rattle.avs_model.specs.declared.event.Host.{Host}
use Rattle.avs_model.specs.declared.recovered.GroupLine.{GroupLine}
use Rattle.avs_model.specs.declared.recovered.SetLine.{SetLine}
use Rattle.avs_model.specs.declared.recovered.Second.{Second}
use Rattle.avs_model.specs.declared.recovered.Second.TheVariants as second
use Rattle.avs_model.specs.declared.recovered.Recovered.{Recovered}
use Rattle.avs_model.specs.declared.product.Elsewhere.{Elsewhere}
use Rattle.avs_model.specs.declared.product.IiCommand.{IiCommand}
use Rattle.avs_model.specs.declared.product.IiCommand.TheVariants.{Enable, Attach, Import, Join}
use Rattle.avs_model.specs.declared.product.Event.{Event}
use Rattle.avs_model.specs.declared.product.Event.TheVariants.{Write, Read, Ii, Recover}
use Rattle.avs_model.specs.declared.product.Answer.{Answer}
use Rattle.avs_model.specs.declared.product.Answer.TheVariants.{Up, Refused, Faulted}

-- ---- stops

-- n of these stages are done, and perhaps the next in part
abbrev pub StoppedAt : {S T : Type 0} → Stages S T → S → List T → ℕ → S → Type 0
StoppedAt does state [] zero left = left ≡ state
StoppedAt does state (stage ∷ stages) zero left = (left ≡ state) ⊎ does.In state stage left
StoppedAt does state [] (suc n) left = ⊥
StoppedAt does state (stage ∷ stages) (suc n) left = StoppedAt does (does.after state stage) stages n left

-- the stages of what a fault stopped, where it was begun, or none
abbrev pub begun_stages : Stopped → List HostStage
begun_stages stopped = if stopped.begun then stopped.stages else []

abbrev pub stopped_stages : HostState → List HostStage
stopped_stages host = option_map_or (λ stopped. begun_stages stopped) (stopped_in host.run) []

-- ---- faults

-- whether a host that is brought up again reads disks: what a fault stopped, groups, or imports
abbrev pub is_looked_up : Event → Bool
is_looked_up (Write name volume at len pattern) = true
is_looked_up (Ii name command) = true
is_looked_up event = false

abbrev pub reads_disks : HostState → Bool
reads_disks host =
    option_map_or (λ stopped. is_looked_up stopped.event) (stopped_in host.run) false || not (length host.groups == 0) || not (length host.imports == 0)

-- whether an event reads a disk, also where it writes on none: a command may look at the label of a volume
abbrev pub looks_at_label : IiCommand → Bool
looks_at_label (Enable group tag dependent master shadow bitmap) = true
looks_at_label (Attach volume set) = true
looks_at_label (Import volume bitmap) = true
looks_at_label (Join set bitmap) = true
looks_at_label command = false

abbrev pub reads_some : HostState → Event → Bool
reads_some host (Read name volume at len) = true
reads_some host (Ii name command) = looks_at_label command
reads_some host (Recover name) = reads_disks host
reads_some host event = false

-- how many blocks an event writes on a disk at most; and whether it uses any disk
abbrev pub writes_on : Terms → Chosen → HostState → Event → HostSpot → ℕ
writes_on terms chosen host event disk = written_on (host_work_of (with_disk_asked host event) (stages terms chosen host event)) disk

abbrev pub uses_disk : Terms → Chosen → HostState → Event → Bool
uses_disk terms chosen host event =
    reads_some host event || list_any (λ one. nat_lt 0 one.blocks) (host_work_of (with_disk_asked host event) (stages terms chosen host event))

-- whether a tear is armed on a disk
abbrev pub armed_at : List NumberState → ℕ → Bool
armed_at [] number = false
armed_at (first ∷ numbers) zero = first.armed
armed_at (first ∷ numbers) (suc number) = armed_at numbers number

abbrev pub is_armed : HostState → HostSpot → Bool
is_armed host (OfVolume name) = option_map_or (λ volume. volume.armed) (volume_of host name) false
is_armed host (OfNumber number) = armed_at host.numbers number

-- a tear is armed on a disk on which the event may write
pub record MeetsTear (terms : Terms) (chosen : Chosen) (host : HostState) (event : Event) : Type 0 where
  pub disk : HostSpot
  pub writes : 0 < writes_on terms chosen host event disk
  pub armed : IsTrue (is_armed host disk)

-- nothing refuses the event; or, where a disk cannot be read, which is never so on steady disks, nothing that is asked before
abbrev pub PassesSoFar : Terms → Elsewhere → Chosen → HostState → Event → Type 0
PassesSoFar terms other chosen host event =
    (refusal terms other chosen host event ≡ None) ⊎ ((terms.steady ≡ false) × (early_refusal terms other chosen host event ≡ None))

-- a fault is answered where nothing refuses the event so far, it uses a disk, and a disk may fail: a steady one only by a tear
pub record MayFault (terms : Terms) (other : Elsewhere) (chosen : Chosen) (host : HostState) (event : Event) : Type 0 where
  pub passes : PassesSoFar terms other chosen host event
  pub uses : IsTrue (uses_disk terms chosen host event)
  pub may_fail : (terms.steady ≡ false) ⊎ MeetsTear terms chosen host event

-- ---- right

-- the answer is right
abbrev pub Right : Terms → Elsewhere → Chosen → HostState → Event → Answer → Type 0
Right terms other chosen host event (Faulted name) = (name ≡ other.name) × MayFault terms other chosen host event
Right terms other chosen host event (Refused why) = refusal terms other chosen host event ≡ Some why
Right terms other chosen host event answer = (refusal terms other chosen host event ≡ None) × IsOutcome terms other host event answer

-- ---- next

-- what a refused event leaves: all is as it was
abbrev pub looked : Chosen → HostState → Event → HostState
looked chosen old event = old

-- a tear was met, and is armed no more; over disks that are not steady a fault may come without one
abbrev pub TearUsed : Terms → Chosen → HostState → Event → HostState → Type 0
TearUsed terms chosen old event new =
    ((met : MeetsTear terms chosen old event) × (new ≡ with_armed old met.disk false)) ⊎ ((terms.steady ≡ false) × (new ≡ old))

-- whether an event that a fault may stop can be begun, as nothing refuses it: of a write and a command that may not be known yet
abbrev pub may_begin : HostState → Event → Bool
may_begin old (Write name volume at len pattern) = is_none (first_row (room_rows (room_facts old volume at len)))
may_begin old (Ii name command) = is_none (first_row (command_causes name old command))
may_begin old event = true

-- it was begun; or, on disks that are not steady, stopped before that, and then no disk was asked for
abbrev pub Begins : Terms → HostState → Event → Bool → Type 0
Begins terms old event begun = (IsTrue begun × IsTrue (may_begin old event)) ⊎ ((terms.steady ≡ false) × (begun ≡ false))

abbrev pub with_begun : Bool → HostState → Event → HostState
with_begun begun host event = if begun then with_disk_asked host event else host

-- what a fault stops: a recovery that is stopped leaves what was stopped before
abbrev pub stopped_by : Terms → Chosen → HostState → Event → Bool → HostRun
stopped_by terms chosen old (Recover name) begun = old.run
stopped_by terms chosen old event begun =
    let doing = stages terms chosen old event in Halted (Some (record { event = event; stages = doing; begun = begun; sequence = sequence_before old doing }))

-- a fault brings the host down: what the event did is told when the host is brought up again
pub record Stops (terms : Terms) (chosen : Chosen) (old : HostState) (event : Event) (new : HostState) : Type 0 where
  pub left : HostState
  pub tear : TearUsed terms chosen old event left
  pub begun : Bool
  pub begins : Begins terms old event begun
  pub down : new ≡ record (with_begun begun left event) { run = stopped_by terms chosen old event begun }

-- what a recovery does once more, behind what stands of the stopped event: nothing yet
abbrev pub redone_stages : HostState → List HostStage
redone_stages host = []

-- the host is up, and its groups are opened again
abbrev pub opened_group : ShadowGroup → ShadowGroup
opened_group group =
    record group { volumes = without_holes group.volumes; overs = without_holes group.overs; state = opened_again group.state }

abbrev pub brought_up : HostState → HostState
brought_up host = record host { run = Running; groups = map opened_group host.groups }

-- those of these blocks, counted from 0, that the image now has from that place on
abbrev pub blocks_there : Image → ℕ → Image → List ℕ
blocks_there image at blocks = filter (λ i. bytes_eq (block_at image (at + i)) (block_at blocks i)) (range_with_len 0 (length blocks))

-- what became of a command: it has no commit, or that stands, or not
abbrev pub became : List HostStage → ℕ → Second
became stages n = if not (list_any is_host_commit stages) then second.Clean else if is_committed n stages then second.Done else second.Kept

-- the line on what a fault stopped, of which n stages are done, or on nothing
abbrev pub second_of : Stopped → ℕ → HostState → Event → Second
second_of stopped n new (Write name volume at len pattern) = second.Torn volume at (blocks_there (image_of new volume) at (replicate len (fill pattern)))
second_of stopped n new (Ii name command) = became stopped.stages n
second_of stopped n new event = second.Clean

abbrev pub second_line : HostState → ℕ → HostState → Second
second_line old n new = option_map_or (λ stopped. second_of stopped n new stopped.event) (stopped_in old.run) second.Clean

-- over a rack that does not tell its blocks, those of a write that now read as written are any
abbrev pub IsAnyTorn : Event → Second → Type 0
IsAnyTorn (Write name volume at len pattern) line = (blocks : List ℕ) × (line ≡ second.Torn volume at blocks)
IsAnyTorn event line = ⊥

abbrev pub IsUntoldLine : Option Stopped → Second → Type 0
IsUntoldLine (Some stopped) line = IsAnyTorn stopped.event line
IsUntoldLine None line = ⊥

pub record IsSecondLine (terms : Terms) (old : HostState) (n : ℕ) (new : HostState) (line : Second) : Type 0 where
  pub is : (line ≡ second_line old n new) ⊎ ((terms.tells ≡ false) × IsUntoldLine (stopped_in old.run) line)

-- the line of a group: no session was begun in it yet; and the line of a set
abbrev pub group_line : ShadowGroup → GroupLine
group_line group = record { group = group.name; session = 0; place = 0 }

abbrev pub set_line : HostState → Name → SetLine
set_line host name = record { set = name; left = option_map_or to_copy (set_state host name) 0 }

-- all lines: the groups in order of making, the sets in order of enabling
abbrev pub told_of : Host → Second → HostState → Recovered
told_of name line new =
    record { host = name; second = line; groups = map group_line new.groups; sets = map (λ set. set_line new set) new.order }

-- A host is brought up: of what a fault stopped n stages are done, perhaps the next in part; then some is done once more.
pub record Recovers (terms : Terms) (old : HostState) (told : Recovered) (new : HostState) : Type 0 where
  pub n : ℕ
  pub left : HostState
  pub redone : HostState
  pub done : StoppedAt in_host old (stopped_stages old) n left
  pub again : redone ≡ run in_host left (redone_stages left)
  pub up : new ≡ brought_up redone
  pub second : IsSecondLine terms old n new told.second
  pub tells : told ≡ told_of told.host told.second new

-- the state that may follow
abbrev pub Next : Terms → Chosen → HostState → Event → Answer → HostState → Type 0
Next terms chosen old event (Refused why) new = new ≡ looked chosen old event
Next terms chosen old event (Faulted name) new = Stops terms chosen old event new
Next terms chosen old event (Up told) new = Recovers terms old told new
Next terms chosen old event answer new = new ≡ run in_host (with_disk_asked old event) (stages terms chosen old event)

-- one event on a host and its answer
pub record HostStep (terms : Terms) (other : Elsewhere) (old : HostState) (event : Event) (answer : Answer) (new : HostState) : Type 0 where
  pub chosen : Chosen
  pub fair : IsFair chosen
  pub right : Right terms other chosen old event answer
  pub next : Next terms chosen old event answer new
