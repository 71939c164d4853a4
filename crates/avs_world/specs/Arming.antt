-- What arming a tear makes of the disks of a world, and what is answered.
use Rattle.std.specs.Prelude.{◌≡◌, ℕ, ◌<◌, Bool, true, false, ⊤, Some, List, length, position, slice_get}
use Rattle.std.specs.Str.{bytes_eq}
use Rattle.avs_world.specs.declared.group.Part.{Part}
use Rattle.avs_world.specs.declared.group.Part.TheVariants.{Master, Shadow, Bitmap, Plain}
use Rattle.avs_model.specs.declared.event.ArmTarget.{ArmTarget}
use Rattle.avs_model.specs.declared.event.ArmTarget.TheVariants as disk
use Rattle.avs_model.specs.declared.event.Event.{Event}
use Rattle.avs_model.specs.declared.event.Event.TheVariants.{Arm}
use Rattle.avs_model.specs.declared.answer.Answer.{Answer}
use Rattle.avs_model.specs.declared.answer.Answer.TheVariants.{Done, Refused}
use Rattle.avs_dev.specs.declared.disk.Tear.{Tear}
use Rattle.avs_ii.specs.Held.{IiDisks}
use Rattle.avs_ii.specs.Calls.{ArmsGroup}
use Rattle.avs_world.specs.Views.{GroupView, NoGroup, FreeDisk, InMemory, OnDisks, StoreView}
use Rattle.avs_world.specs.Ranges.{disk_here, role_by}
use Rattle.avs_world.specs.Places.{ArmsPlace}
use Rattle.avs_world.specs.Causes.{number_of, target_disk, ArmsAsDisk}

-- this tear is armed on a disk of the group in memory, by its number; where no group is there, nothing changes
abbrev pub ArmsView : GroupView → ℕ → Tear → Bool → GroupView → Type 0
ArmsView NoGroup number tear result new = (result ≡ false) × (new ≡ NoGroup)
ArmsView (FreeDisk disk) number tear result new = (result ≡ false) × (new ≡ FreeDisk disk)
ArmsView (InMemory set held) number tear result new = (held_new : IiDisks) × (ArmsGroup held number tear result held_new) × (new ≡ InMemory set held_new)
ArmsView (OnDisks set parts) number tear result new = (result ≡ false) × (new ≡ OnDisks set parts)

-- on the disk of a volume: where it is, by what the volume serves as
pub record ArmsHere (old : StoreView) (place : ℕ) (tear : Tear) (result : Bool) (new : StoreView) : Type 0 where
  pub arms : ArmsPlace (disk_here (slice_get old.places place)) old.places place tear result new.places
  pub is : new ≡ record old { places = new.places }

pub record ArmsLent (old : StoreView) (number : ℕ) (tear : Tear) (result : Bool) (new : StoreView) : Type 0 where
  pub arms : ArmsView old.group number tear result new.group
  pub is : new ≡ record old { group = new.group }

abbrev pub ArmsBy : Part → StoreView → ℕ → Tear → Bool → StoreView → Type 0
ArmsBy Plain old place tear result new = ArmsHere old place tear result new
ArmsBy Master old place tear result new = ArmsLent old (number_of Master) tear result new
ArmsBy Shadow old place tear result new = ArmsLent old (number_of Shadow) tear result new
ArmsBy Bitmap old place tear result new = ArmsLent old (number_of Bitmap) tear result new

abbrev pub ArmsVolume : StoreView → ℕ → Tear → Bool → StoreView → Type 0
ArmsVolume old place tear result new = ArmsBy (role_by old.group place) old place tear result new

-- whether the group in memory has that name
abbrev pub is_group : GroupView → List ℕ → Bool
is_group NoGroup name = false
is_group (FreeDisk disk) name = false
is_group (InMemory set held) name = bytes_eq set.name name
is_group (OnDisks set parts) name = false

-- on the disk that a target names
abbrev pub ArmsTarget : StoreView → ArmTarget → Tear → Bool → StoreView → Type 0
ArmsTarget old (disk.Volume name) tear result new = (place : ℕ) × (position (bytes_eq name) old.names ≡ Some place) × (place < length old.places) × ArmsVolume old place tear result new
ArmsTarget old (disk.StateOf group) tear result new = (is_group old.group group ≡ true) × ArmsLent old (number_of Plain) tear result new

-- at `Done` exactly this tear is armed on that disk and all else stays, at a refusal all stays, and there is no other answer
abbrev pub ArmsAsTold : StoreView → ArmTarget → Tear → StoreView → Answer → Type 0
ArmsAsTold old target tear new Done = ArmsTarget old target tear true new
ArmsAsTold old target tear new (Refused why) = new ≡ old
ArmsAsTold old target tear new answer = ⊥

-- what is answered to arming has its cause in the disk that the target names, and tells what was done
pub record AnswersArm (old : StoreView) (target : ArmTarget) (tear : Tear) (new : StoreView) (answer : Answer) : Type 0 where
  pub as_disk : ArmsAsDisk (target_disk old target) answer
  pub as_told : ArmsAsTold old target tear new answer

-- at an event that arms; of the others nothing more is said
abbrev pub ArmHasCause : StoreView → Event → StoreView → Answer → Type 0
ArmHasCause old (Arm host target skip first count) new answer = AnswersArm old target (record { skip = skip; from = first; count = count }) new answer
ArmHasCause old event new answer = ⊤
