-- Which answer an event may have.
use Rattle.std.specs.Prelude.{◌≡◌, ◌⊎◌, ℕ, Bool, false, IsTrue, None, Some, List}
use Rattle.avs_seg.specs.Image.{range}
use Rattle.avs_model.specs.State.{State, HostState, Use, Alone, MasterIn, ShadowIn, BitmapIn, DiskPlace, OfVolume, OfState, host_of, image_of, use_of, is_armed}
use Rattle.avs_model.specs.Refusals.{refusal}
use Rattle.avs_model.specs.Recovery.{reads_disks}
use Rattle.avs_model.specs.declared.event.Host.{Host}
use Rattle.avs_model.specs.declared.event.IiCommand.{IiCommand}
use Rattle.avs_model.specs.declared.event.IiCommand.TheVariants as command
use Rattle.avs_model.specs.declared.event.Event.{Event}
use Rattle.avs_model.specs.declared.event.Event.TheVariants.{Volume, Write, Read, Ii, Arm, Crash, Recover}
use Rattle.avs_model.specs.declared.recovered.Recovered.{Recovered}
use Rattle.avs_model.specs.declared.answer.Word.TheVariants.{Unarmed}
use Rattle.avs_model.specs.declared.answer.Refusal.{Refusal}
use Rattle.avs_model.specs.declared.answer.Refusal.TheVariants.{WrongState}
use Rattle.avs_model.specs.declared.answer.Answer.{Answer}
use Rattle.avs_model.specs.declared.answer.Answer.TheVariants.{Done, Shown, Down, Up, Refused, Faulted}

-- the answer of an event that is neither refused nor stopped
abbrev pub IsOutcome : State → Event → Answer → Type 0
IsOutcome state (Volume host name blocks) answer = answer ≡ Done
IsOutcome state (Write host name at len pattern) answer = answer ≡ Done
IsOutcome state (Read host name at len) answer = answer ≡ Shown (range (image_of (host_of state host) name) at len)
IsOutcome state (Ii host command) answer = answer ≡ Done
IsOutcome state (Arm host target skip first count) answer = answer ≡ Done
IsOutcome state (Crash host) answer = answer ≡ Down host
IsOutcome state (Recover host) answer = (told : Recovered) × (answer ≡ Up told) × (told.host ≡ host)

-- the event uses a disk of that host
abbrev pub UsesDisk : State → Event → Host → Type 0
UsesDisk state (Volume host name blocks) which = ⊥
UsesDisk state (Write host name at len pattern) which = which ≡ host
UsesDisk state (Read host name at len) which = which ≡ host
UsesDisk state (Ii host command) which = which ≡ host
UsesDisk state (Arm host target skip first count) which = ⊥
UsesDisk state (Crash host) which = ⊥
UsesDisk state (Recover host) which = (which ≡ host) × IsTrue (reads_disks (host_of state host))

-- the volume is one of the group of that number
abbrev pub IsInGroup : ℕ → Use → Type 0
IsInGroup which Alone = ⊥
IsInGroup which (MasterIn group volume) = group ≡ which
IsInGroup which (ShadowIn group set) = group ≡ which
IsInGroup which (BitmapIn group set) = group ≡ which

-- a volume on whose disk a write to one of that use may write: its own, or one of its group
abbrev pub IsWrittenWith : HostState → Use → List ℕ → List ℕ → Type 0
IsWrittenWith held Alone name volume = volume ≡ name
IsWrittenWith held (MasterIn group master) name volume = IsInGroup group (use_of held volume)
IsWrittenWith held (ShadowIn group set) name volume = IsInGroup group (use_of held volume)
IsWrittenWith held (BitmapIn group set) name volume = ⊥

abbrev pub IsWriteDisk : HostState → List ℕ → DiskPlace → Type 0
IsWriteDisk held name (OfVolume volume) = IsWrittenWith held (use_of held name) name volume
IsWriteDisk held name (OfState group) = ⊥

-- a disk on which a command may write, that was there before it: enabling formats the bitmap
abbrev pub IsCommandDisk : IiCommand → DiskPlace → Type 0
IsCommandDisk (command.Enable dependent master shadow bitmap) disk = disk ≡ OfVolume bitmap

-- the event may write on that disk
abbrev pub MayWriteOn : State → Event → Host → DiskPlace → Type 0
MayWriteOn state (Write host name at len pattern) which disk = (which ≡ host) × IsWriteDisk (host_of state host) name disk
MayWriteOn state (Ii host command) which disk = (which ≡ host) × IsCommandDisk command disk
MayWriteOn state event which disk = ⊥

-- a tear is armed on a disk on which the event may write
pub record MeetsTear (state : State) (event : Event) (host : Host) : Type 0 where
  pub disk : DiskPlace
  pub writes : MayWriteOn state event host disk
  pub armed : IsTrue (is_armed (host_of state host) disk)

-- a fault is answered where nothing refuses the event, it uses a disk of that host, and that disk may fail: a steady one only by a tear
pub record MayFault (steady : Bool) (state : State) (event : Event) (host : Host) : Type 0 where
  pub passes : refusal state event ≡ None
  pub uses : UsesDisk state event host
  pub may_fail : (steady ≡ false) ⊎ MeetsTear state event host

-- a disk lets no tear be armed: a steady one always does
abbrev pub LetsNoTear : Bool → State → Event → Refusal → Type 0
LetsNoTear steady state (Arm host target skip first count) why =
    (steady ≡ false) × (refusal state (Arm host target skip first count) ≡ None) × (why ≡ WrongState Unarmed)
LetsNoTear steady state event why = ⊥

-- the answer is right in the state, over disks that are steady or not
abbrev pub Right : Bool → State → Event → Answer → Type 0
Right steady state event (Faulted host) = MayFault steady state event host
Right steady state event (Refused why) = (refusal state event ≡ Some why) ⊎ LetsNoTear steady state event why
Right steady state event answer = (refusal state event ≡ None) × IsOutcome state event answer
