-- What the state may be after an answer.
use Rattle.std.specs.Prelude.{◌≡◌, ◌⊎◌, ◌+◌, Bool, true, false, if◌then◌else◌, Option, None, Some}
use Rattle.avs_model.specs.State.{State, HostState, host_of, with_host, with_armed, are_disks_used}
use Rattle.avs_model.specs.Stages.{stages, after_stages, StoppedIn, stopped_stages}
use Rattle.avs_model.specs.Recovery.{told_of}
use Rattle.avs_model.specs.Right.{MeetsTear}
use Rattle.avs_model.specs.declared.event.Host.{Host}
use Rattle.avs_model.specs.declared.event.Event.{Event}
use Rattle.avs_model.specs.declared.event.Event.TheVariants.{Ii, Recover}
use Rattle.avs_model.specs.declared.recovered.Recovered.{Recovered}
use Rattle.avs_model.specs.declared.answer.Answer.{Answer}
use Rattle.avs_model.specs.declared.answer.Answer.TheVariants.{Up, Refused, Faulted}

-- Before its stages, and before a fault can stop it, a command has a disk for the state of a group: one more is made only where each
-- that was made serves one.
abbrev pub with_disk_asked : State → Event → State
with_disk_asked state (Ii host command) =
    let held = host_of state host in
    with_host state host (record held { state_disks = if are_disks_used held then held.state_disks + 1 else held.state_disks })
with_disk_asked state event = state

-- the event in which a fault has stopped the host, where it stops this one: a recovery leaves the one that was stopped before
abbrev pub stopped_by : HostState → Event → Option Event
stopped_by held (Recover host) = held.stopped
stopped_by held event = Some event

-- the host is down, with the event that a fault stopped
abbrev pub brought_down : State → Host → Event → State
brought_down state host event =
    let held = host_of state host in with_host state host (record held { up = false; stopped = stopped_by held event })

-- a tear was met, and is armed no more; over disks that are not steady a fault may come without one
abbrev pub TearUsed : Bool → State → Event → Host → State → Type 0
TearUsed steady old event host new =
    ((met : MeetsTear old event host) × (new ≡ with_armed old host met.disk false)) ⊎ ((steady ≡ false) × (new ≡ old))

-- a fault brings the host down: what the event did is told when the host is brought up again
pub record Stops (steady : Bool) (old : State) (event : Event) (host : Host) (new : State) : Type 0 where
  pub left : State
  pub tear : TearUsed steady old event host left
  pub down : new ≡ brought_down (with_disk_asked left event) host event

-- the host is up
abbrev pub brought_up : State → Host → State
brought_up state host = let held = host_of state host in with_host state host (record held { up = true; stopped = None })

-- of the event in which a fault stopped the host some stages are done, perhaps the next in part, and what is told agrees with that
pub record Recovers (old : State) (host : Host) (told : Recovered) (new : State) : Type 0 where
  pub left : State
  pub done : StoppedIn old (stopped_stages old host) left
  pub up : new ≡ brought_up left host
  pub tells : told ≡ told_of (host_of old host).stopped host new

abbrev pub Next : Bool → State → Event → Answer → State → Type 0
Next steady old event (Refused why) new = new ≡ old
Next steady old event (Faulted host) new = Stops steady old event host new
Next steady old event (Up told) new = Recovers old told.host told new
Next steady old event answer new = new ≡ after_stages (with_disk_asked old event) (stages old event)
