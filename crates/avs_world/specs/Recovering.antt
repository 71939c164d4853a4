-- The steps of bringing the host up again.
use Rattle.std.specs.Prelude.{◌≡◌, ◌≤◌, ℕ, ⊤, Bool, true, false, List, map, Option, None, Some, Result, Ok, Err}
use Rattle.avs_dev.specs.Seen.{Seen}
use Rattle.avs_dev.specs.declared.back.Why.{Why}
use Rattle.avs_dev.specs.declared.back.Why.TheVariants.{Size, BadRecord, NoMemory, Fault}
use Rattle.avs_model.specs.Limits.{longest_write}
use Rattle.avs_model.specs.State.{State, VolumeState, ShadowGroup, empty_host, all_blocks}
use Rattle.avs_model.specs.Stages.{StoppedIn, stopped_stages}
use Rattle.avs_model.specs.Refusals.{place_causes, first_cause}
use Rattle.avs_model.specs.Good.{Step}
use Rattle.avs_model.specs.declared.event.Host.TheVariants.{P}
use Rattle.avs_model.specs.declared.event.Event.TheVariants.{Recover}
use Rattle.avs_model.specs.declared.recovered.Second.{Second}
use Rattle.avs_model.specs.declared.recovered.Second.TheVariants.{Kept, Done}
use Rattle.avs_model.specs.declared.answer.Answer.{Answer}
use Rattle.avs_model.specs.declared.answer.Answer.TheVariants.{Up}
use Rattle.avs_ii.specs.Held.{IiDisks, is_live}
use Rattle.avs_ii.specs.Meaning.{meaning}
use Rattle.avs_ii.specs.Sound.{IsSound}
use Rattle.avs_ii.specs.Parts.{PartDisks, parts_of}
use Rattle.avs_ii.specs.Making.{AreTold}
use Rattle.avs_world.specs.declared.place.Place.{Place}
use Rattle.avs_world.specs.declared.group.ShadowSet.{ShadowSet}
use Rattle.avs_world.specs.declared.stopped.Stopped.{Stopped}
use Rattle.avs_world.specs.declared.stopped.StoppedWrite.{StoppedWrite}
use Rattle.avs_world.specs.declared.world.World.{World}
use Rattle.avs_world.specs.Views.{GroupView, NoGroup, FreeDisk, InMemory, OnDisks, StoreView}
use Rattle.avs_world.specs.Holds.{Holds, HoldsBy, HoldsSet, IsPhase, is_enabled, disks_made}
use Rattle.avs_world.specs.Causes.{DiskName, DiskRose, faults_of, was_there}
use Rattle.avs_world.specs.Calls.{IsEnabled}
use Rattle.avs_world.specs.World.{Stands, event_of}

-- a group that was found on its disks, where its set may be enabled or not: they tell their blocks, and are in step with it
pub record IsFoundGroup (set : ShadowSet) (held : IiDisks) : Type 0 where
  pub sound : IsSound held
  pub told : AreTold (parts_of held)
  pub in_step : is_live held.block.slots set.slot ≡ is_enabled set (parts_of held)

-- the volumes and the groups of a state, where the group was found
abbrev pub FoundBy : Bool → List (List ℕ) → List (Place Seen) → GroupView → List VolumeState → List ShadowGroup → Type 0
FoundBy steady names places NoGroup volumes groups = HoldsBy steady names places NoGroup volumes groups
FoundBy steady names places (FreeDisk disk) volumes groups = HoldsBy steady names places (FreeDisk disk) volumes groups
FoundBy steady names places (InMemory set held) volumes groups = IsFoundGroup set held × HoldsSet steady names places set (parts_of held) (meaning held) volumes groups
FoundBy steady names places (OnDisks set parts) volumes groups = ⊥

pub record HoldsFound (steady : Bool) (store : StoreView) (state : State) : Type 0 where
  pub same_names : store.names ≡ map (λ volume. volume.name) state.p.volumes
  pub same_blocks : store.blocks ≡ all_blocks state
  pub no_other : state.s ≡ empty_host
  pub same_disks : disks_made store.group ≡ state.p.state_disks
  pub by : FoundBy steady store.names store.places store.group state.p.volumes state.p.groups

-- the group is in memory, or there is none; where its set is enabled the store holds the same; no disk has a new name, and no
-- count of faults has fallen
pub record IsFound (old new : StoreView) : Type 0 where
  pub holds : (steady : Bool) (state : State) → Holds steady old state → IsPhase false old.group → HoldsFound steady new state
  pub enabled : (steady : Bool) (state : State) → Holds steady old state → IsPhase false old.group → IsEnabled old.group → Holds steady new state
  pub phase : IsPhase true new.group
  pub there : (name : DiskName) → was_there new name ≡ true → was_there old name ≡ true
  pub later : (name : DiskName) → faults_of old name ≤ faults_of new name

-- a disk failed while the group was looked for, and all is as before
pub record FailsFinding (old new : StoreView) : Type 0 where
  pub set : ShadowSet
  pub parts : PartDisks
  pub others : PartDisks
  pub was : old.group ≡ OnDisks set parts
  pub is : new.group ≡ OnDisks set others
  pub enabled : is_enabled set others ≡ is_enabled set parts
  pub holds : (steady : Bool) (state : State) → Holds steady old state → Holds steady new state
  pub unsteady : (steady : Bool) (state : State) → Holds steady old state → steady ≡ false
  pub cause : DiskRose old new

-- a group is looked for: no disks that a state stands on are refused
abbrev pub Finds : {T : Type 0} → StoreView → Result T Why → StoreView → Type 0
Finds old (Ok x) new = IsFound old new
Finds old (Err (Size need have)) new = ⊥
Finds old (Err (BadRecord field)) new = (steady : Bool) (state : State) → Holds steady old state → ⊥
Finds old (Err NoMemory) new = ⊤
Finds old (Err Fault) new = FailsFinding old new

-- whether the command that was stopped stands: where the group is in memory
abbrev pub second_by : GroupView → Second
second_by NoGroup = Kept
second_by (FreeDisk disk) = Kept
second_by (InMemory set held) = Done
second_by (OnDisks set parts) = Kept

-- a set that is not enabled is given up, and it is told whether there is one then
pub record Settles (old : StoreView) (second : Second) (new : StoreView) : Type 0 where
  pub holds : (steady : Bool) (state : State) → HoldsFound steady old state → Holds steady new state
  pub phase : IsPhase true old.group → IsPhase true new.group
  pub told : second ≡ second_by new.group

-- the host is down, with a write that was stopped, and its group was found
pub record IsWaiting (steady : Bool) (store : StoreView) (write : StoppedWrite) (state : State) : Type 0 where
  pub down : state.p.up ≡ false
  pub is : state.p.stopped ≡ Some (event_of write)
  pub left : State
  pub stopped : StoppedIn state (stopped_stages state P) left
  pub there : first_cause (place_causes left P write.volume write.at write.len longest_write) ≡ None
  pub holds : Holds steady store left
  pub phase : IsPhase true store.group

-- then the answer is right, and the world then stands for a next state
abbrev pub RecoversWrite : {D : Type 0} → (D → Seen) → StoreView → StoppedWrite → Answer → World D → Type 0
RecoversWrite seen old write answer new = (steady : Bool) (state : State) → IsWaiting steady old write state → (next : State) × (Step steady state (Recover P) answer next) × (Stands seen steady new next)

-- what is kept of the event in which a fault stopped the host stays, where the host does not come up
abbrev pub KeepsStopped : Option Stopped → Option Stopped → Answer → Type 0
KeepsStopped old new (Up told) = ⊤
KeepsStopped old new answer = new ≡ old
