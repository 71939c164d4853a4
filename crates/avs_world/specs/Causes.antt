-- The disks of a world by name: which of them failed, and which lets a tear be armed.
use Rattle.std.specs.Prelude.{◌≡◌, ℕ, ◌≤◌, ◌==◌, ◌||◌, Bool, true, not, is_some, IsTrue, ⊤, Option, Some, List, [], ◌∷◌, slice_get, position}
use Rattle.std.specs.Option.{option_map_or, option_and_then}
use Rattle.std.specs.Str.{bytes_eq}
use Rattle.avs_seg.specs.Causes.{Rose}
use Rattle.avs_dev.specs.Seen.{Seen}
use Rattle.avs_world.specs.declared.group.Part.{Part}
use Rattle.avs_world.specs.declared.group.Part.TheVariants.{Master, Shadow, Bitmap, Plain}
use Rattle.avs_model.specs.declared.event.ArmTarget.{ArmTarget}
use Rattle.avs_model.specs.declared.event.ArmTarget.TheVariants as disk
use Rattle.avs_model.specs.declared.answer.Word.TheVariants.{Unarmed}
use Rattle.avs_model.specs.declared.answer.Refusal.TheVariants.{WrongState}
use Rattle.avs_model.specs.declared.answer.Answer.{Answer}
use Rattle.avs_model.specs.declared.answer.Answer.TheVariants.{Done, Refused, Faulted}
use Rattle.avs_ii.specs.Held.{disks_of}
use Rattle.avs_ii.specs.Making.{disks_in}
use Rattle.avs_world.specs.Views.{GroupView, NoGroup, FreeDisk, InMemory, OnDisks, StoreView}
use Rattle.avs_world.specs.Ranges.{disk_here, role_by}

-- the disk of the volume at a place, or one of the group's by its number, of which that of its state is the first
pub data DiskName : Type 0 where
  AtPlace : ℕ → DiskName
  InGroup : ℕ → DiskName

-- the disks of a group
abbrev pub group_disks : GroupView → List Seen
group_disks NoGroup = []
group_disks (FreeDisk disk) = disk ∷ []
group_disks (InMemory set held) = disks_of held
group_disks (OnDisks set parts) = disks_in parts

-- a disk by its name
abbrev pub disk_named : StoreView → DiskName → Option Seen
disk_named store (AtPlace place) = disk_here (slice_get store.places place)
disk_named store (InGroup number) = slice_get (group_disks store.group) number

-- how often it has failed: a disk that is not there has not
abbrev pub faults_of : StoreView → DiskName → ℕ
faults_of store name = option_map_or (λ d. d.faults) (disk_named store name) 0

-- the disk had that name before, or it is that of the group's state, for which an event may ask: a new one has not failed
abbrev pub was_there : StoreView → DiskName → Bool
was_there store (AtPlace place) = is_some (disk_named store (AtPlace place))
was_there store (InGroup number) = number == 0 || is_some (disk_named store (InGroup number))

-- the faults of some disk rose
abbrev pub DiskRose : StoreView → StoreView → Type 0
DiskRose old new = (name : DiskName) × (was_there old name ≡ true) × Rose (faults_of old name) (faults_of new name)

-- the disks that were there are there, and their faults have not fallen
pub record DisksLast (old new : StoreView) : Type 0 where
  pub there : (name : DiskName) → was_there new name ≡ was_there old name
  pub later : (name : DiskName) → faults_of old name ≤ faults_of new name

-- a fault is answered only where the faults of a disk rose
abbrev pub FaultHasCause : StoreView → StoreView → Answer → Type 0
FaultHasCause old new (Faulted host) = DiskRose old new
FaultHasCause old new answer = ⊤

-- the number of a group's disk that serves as that
abbrev pub number_of : Part → ℕ
number_of Plain = 0
number_of Master = 1
number_of Shadow = 2
number_of Bitmap = 3

-- the disks of a group that is in memory
abbrev pub open_disks : GroupView → List Seen
open_disks NoGroup = []
open_disks (FreeDisk disk) = []
open_disks (InMemory set held) = disks_of held
open_disks (OnDisks set parts) = []

-- the disk of a volume, by its place and what it serves as
abbrev pub role_disk : StoreView → ℕ → Part → Option Seen
role_disk store place Plain = disk_here (slice_get store.places place)
role_disk store place Master = slice_get (open_disks store.group) (number_of Master)
role_disk store place Shadow = slice_get (open_disks store.group) (number_of Shadow)
role_disk store place Bitmap = slice_get (open_disks store.group) (number_of Bitmap)

-- the disk that a target names, where the host is up
abbrev pub target_disk : StoreView → ArmTarget → Option Seen
target_disk store (disk.Volume name) = option_and_then (λ place. role_disk store place (role_by store.group place)) (position (bytes_eq name) store.names)
target_disk store (disk.StateOf group) = slice_get (open_disks store.group) (number_of Plain)

-- a tear is armed exactly where the disk lets one be
abbrev pub ArmsAsDisk : Option Seen → Answer → Type 0
ArmsAsDisk (Some held) Done = IsTrue held.arms
ArmsAsDisk (Some held) (Refused (WrongState Unarmed)) = IsTrue (not held.arms)
ArmsAsDisk held answer = ⊤
