-- How a world stands for a state of the model, and what a step makes of that.
use Rattle.std.specs.Prelude.{◌≡◌, Bool, true, false, ⊤, Option, None, Some, []}
use Rattle.avs_dev.specs.Seen.{Seen}
use Rattle.avs_model.specs.Limits.{longest_write}
use Rattle.avs_model.specs.State.{State, HostState}
use Rattle.avs_model.specs.Stages.{StoppedIn, stopped_stages}
use Rattle.avs_model.specs.Recovery.{is_write, is_command}
use Rattle.avs_model.specs.Refusals.{place_causes, first_cause}
use Rattle.avs_model.specs.Good.{Step}
use Rattle.avs_model.specs.declared.event.Host.TheVariants.{P}
use Rattle.avs_model.specs.declared.event.IiCommand.{IiCommand}
use Rattle.avs_model.specs.declared.event.Event.{Event}
use Rattle.avs_model.specs.declared.event.Event.TheVariants.{Write, Ii}
use Rattle.avs_model.specs.declared.answer.Answer.{Answer}
use Rattle.avs_world.specs.declared.stopped.Stopped.{Stopped}
use Rattle.avs_world.specs.declared.stopped.Stopped.TheVariants as stopped
use Rattle.avs_world.specs.declared.stopped.StoppedWrite.{StoppedWrite}
use Rattle.avs_world.specs.declared.world.World.{World}
use Rattle.avs_world.specs.Views.{GroupView, NoGroup, FreeDisk, InMemory, OnDisks, view_of}
use Rattle.avs_world.specs.Holds.{Holds, IsPhase, is_enabled}

-- the event of a write that was stopped
abbrev pub event_of : StoppedWrite → Event
event_of write = Write P write.volume write.at write.len write.pattern

-- a command was stopped, before which the host had no groups
pub record StopsCommand (held : HostState) : Type 0 where
  pub command : IiCommand
  pub is : held.stopped ≡ Some (Ii P command)
  pub none : held.groups ≡ []

-- of the event in which a fault stopped the host a write and that it was a command are kept, and nothing of any other
abbrev pub Keeps : Option Stopped → HostState → Type 0
Keeps None held = (is_write held.stopped ≡ false) × (is_command held.stopped ≡ false)
Keeps (Some (stopped.Write write)) held = held.stopped ≡ Some (event_of write)
Keeps (Some stopped.Command) held = StopsCommand held

-- the range of a write is there
abbrev pub IsThere : Option Stopped → State → Type 0
IsThere None state = ⊤
IsThere (Some (stopped.Write write)) state = first_cause (place_causes state P write.volume write.at write.len longest_write) ≡ None
IsThere (Some stopped.Command) state = ⊤

-- a set that is not enabled on its disks is one whose enabling was stopped
abbrev pub IsExplained : GroupView → HostState → Type 0
IsExplained NoGroup held = ⊤
IsExplained (FreeDisk disk) held = ⊤
IsExplained (InMemory set group) held = ⊤
IsExplained (OnDisks set parts) held = is_enabled set parts ≡ false → is_command held.stopped ≡ true

-- the world stands for the state: its disks hold what some stages of the event in which a fault stopped the host leave, which is the
-- state itself while the host is up
pub record Stands {D : Type 0} (seen : D → Seen) (steady : Bool) (world : World D) (state : State) : Type 0 where
  pub up : world.up ≡ state.p.up
  pub none_stopped : state.p.up ≡ true → state.p.stopped ≡ None
  pub keeps : Keeps world.stopped state.p
  pub left : State
  pub stopped : StoppedIn state (stopped_stages state P) left
  pub there : IsThere world.stopped left
  pub holds : Holds steady (view_of seen world) left
  pub phase : IsPhase world.up (view_of seen world).group
  pub explained : IsExplained (view_of seen world).group state.p

-- in each state for which the world stood, the answer is right, and the world then stands for a next one
abbrev pub Steps : {D : Type 0} → (D → Seen) → Bool → World D → Event → Answer → World D → Type 0
Steps seen steady old event answer new = (state : State) → Stands seen steady old state → (next : State) × (Step steady state event answer next) × (Stands seen steady new next)
