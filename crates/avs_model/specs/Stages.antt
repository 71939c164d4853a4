-- Stages: what an event does to the state, part by part. A fault stops it behind some of them, in the midst of the next.
use Rattle.std.specs.Prelude.{◌≡◌, ◌⊎◌, ℕ, Bool, true, false, None, List, [], ◌∷◌, ◌++◌, map, replicate}
use Rattle.std.specs.Option.{option_map_or}
use Rattle.avs_seg.specs.Image.{Image, blank, put, IsMix}
use Rattle.avs_model.specs.Filling.{fill}
use Rattle.avs_model.specs.Shadows.{GroupState, GroupStage, bare_group, after_enabling, volume_write_stages, shadow_write_stages}
use Rattle.avs_model.specs.Shadows as shadows
use Rattle.avs_model.specs.State.{State, HostState, VolumeState, ShadowGroup, Use, Alone, MasterIn, ShadowIn, BitmapIn, DiskPlace, host_of, with_host, image_of, use_of, slot_of, group_at, with_volume, with_volume_of, with_image, with_group, disk_place, with_armed}
use Rattle.avs_model.specs.declared.shadow.Kind.{Kind}
use Rattle.avs_model.specs.declared.shadow.Kind.TheVariants.{Ind, Dep}
use Rattle.avs_model.specs.declared.event.Host.{Host}
use Rattle.avs_model.specs.declared.event.IiCommand.{IiCommand}
use Rattle.avs_model.specs.declared.event.IiCommand.TheVariants as command
use Rattle.avs_model.specs.declared.event.Event.{Event}
use Rattle.avs_model.specs.declared.event.Event.TheVariants.{Volume, Write, Read, Ii, Arm, Crash, Recover}

pub data Stage : Type 0 where
  -- a new volume of zeros
  Make : Host → List ℕ → ℕ → Stage
  -- blocks are written from a place on to a volume that no group holds
  Put : Host → List ℕ → ℕ → Image → Stage
  -- a stage within the group of that number
  Within : Host → ℕ → GroupStage → Stage
  -- the contents of a volume are gone
  Spend : Host → List ℕ → Stage
  -- a shadow set is enabled: whether it is dependent, its master, its shadow and its bitmap
  Enable : Host → Bool → List ℕ → List ℕ → List ℕ → Stage
  -- a tear is armed on a disk
  ArmTear : Host → DiskPlace → Stage
  -- the host goes down, and no fault stopped it
  GoDown : Host → Stage

-- the stages of a write, by what the volume serves as: none is written that is a bitmap
abbrev pub write_stages : HostState → Host → List ℕ → ℕ → Image → Use → List Stage
write_stages held host name at blocks Alone = Put host name at blocks ∷ []
write_stages held host name at blocks (MasterIn group volume) =
    map (λ stage. Within host group stage) (volume_write_stages (group_at held group).state.sets volume at blocks)
write_stages held host name at blocks (ShadowIn group set) =
    map (λ stage. Within host group stage) (shadow_write_stages (slot_of (group_at held group) set) at blocks)
write_stages held host name at blocks (BitmapIn group set) = []

-- those of a command: the volume that enabling formats is spent first, and then all the rest is done at once
abbrev pub command_stages : Host → IiCommand → List Stage
command_stages host (command.Enable dependent master shadow bitmap) = Spend host bitmap ∷ Enable host dependent master shadow bitmap ∷ []

-- the stages of an event that nothing refuses
abbrev pub stages : State → Event → List Stage
stages state (Volume host name blocks) = Make host name blocks ∷ []
stages state (Write host name at len pattern) =
    let held = host_of state host in write_stages held host name at (replicate len (fill pattern)) (use_of held name)
stages state (Read host name at len) = []
stages state (Ii host command) = command_stages host command
stages state (Arm host target skip first count) = ArmTear host (disk_place (host_of state host) target) ∷ []
stages state (Crash host) = GoDown host ∷ []
stages state (Recover host) = []

abbrev pub kind_of : Bool → Kind
kind_of true = Dep
kind_of false = Ind

-- a volume whose image is in a group's state from now on
abbrev pub held_by_group : VolumeState → VolumeState
held_by_group volume = record volume { image = []; spent = false }

-- a new group of one set, named by its shadow, which at this point in time is its master
abbrev pub new_group : HostState → Bool → List ℕ → List ℕ → List ℕ → ShadowGroup
new_group held dependent master shadow bitmap = record {
  name = shadow;
  masters = master ∷ [];
  sets = record { slot = 0; shadow = shadow; bitmap = bitmap } ∷ [];
  state = after_enabling (bare_group (image_of held master ∷ [])) 0 (kind_of dependent) 0;
  armed = false;
}

-- the host with that group
abbrev pub with_new_group : HostState → Bool → List ℕ → List ℕ → List ℕ → HostState
with_new_group held dependent master shadow bitmap = record held {
  volumes = with_volume_of (with_volume_of held.volumes master held_by_group) shadow held_by_group;
  groups = held.groups ++ new_group held dependent master shadow bitmap ∷ [];
}

-- the state behind a stage
abbrev pub after_stage : State → Stage → State
after_stage state (Make host name blocks) =
    let held = host_of state host in
    with_host state host (record held { volumes = held.volumes ++ record { name = name; blocks = blocks; image = blank blocks; spent = false; armed = false } ∷ [] })
after_stage state (Put host name at blocks) = with_image state host name (put (image_of (host_of state host) name) at blocks)
after_stage state (Within host group stage) = with_group state host group (λ held. record held { state = shadows.after_stage held.state stage })
after_stage state (Spend host name) = with_volume state host name (λ volume. record volume { image = []; spent = true })
after_stage state (Enable host dependent master shadow bitmap) = with_host state host (with_new_group (host_of state host) dependent master shadow bitmap)
after_stage state (ArmTear host disk) = with_armed state host disk true
after_stage state (GoDown host) = let held = host_of state host in with_host state host (record held { up = false; stopped = None })

-- the state behind all of them
abbrev pub after_stages : State → List Stage → State
after_stages state [] = state
after_stages state (stage ∷ stages) = after_stages (after_stage state stage) stages

-- the state in the midst of a stage: each block of a write is old or new
abbrev pub InStage : State → Stage → State → Type 0
InStage state (Make host name blocks) new = ⊥
InStage state (Put host name at blocks) new =
    (image : Image) × (IsMix (image_of (host_of state host) name) at blocks image) × (new ≡ with_image state host name image)
InStage state (Within host group stage) new =
    (left : GroupState) × (shadows.InStage (group_at (host_of state host) group).state stage left) × (new ≡ with_group state host group (λ held. record held { state = left }))
InStage state (Spend host name) new = ⊥
InStage state (Enable host dependent master shadow bitmap) new = ⊥
InStage state (ArmTear host disk) new = ⊥
InStage state (GoDown host) new = ⊥

-- the state where a fault stopped these stages: some are done, and perhaps the next in part
abbrev pub StoppedIn : State → List Stage → State → Type 0
StoppedIn state [] new = new ≡ state
StoppedIn state (stage ∷ stages) new = (new ≡ state) ⊎ InStage state stage new ⊎ StoppedIn (after_stage state stage) stages new

-- the stages of the event in which a fault stopped the host, or none
abbrev pub stopped_stages : State → Host → List Stage
stopped_stages state host = option_map_or (stages state) (host_of state host).stopped []
