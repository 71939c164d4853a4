-- The state of the model: everything that the answers depend on.
use Rattle.std.specs.Prelude.{ℕ, ◌+◌, ◌==◌, length, Bool, true, false, Option, None, Some, List, [], ◌∷◌, find, position, slice_get, slice_set, slice_index_or, if◌then◌else◌}
use Rattle.std.specs.List.{sum_by, position_or_len}
use Rattle.std.specs.Option.{option_map_or}
use Rattle.std.specs.Str.{bytes_eq}
use Rattle.avs_seg.specs.Image.{Image}
use Rattle.avs_model.specs.Shadows.{GroupState, bare_group, volume_image, image_at, blocks_at}
use Rattle.avs_model.specs.declared.answer.Role.{Role}
use Rattle.avs_model.specs.declared.answer.Role.TheVariants as role
use Rattle.avs_model.specs.declared.event.Host.{Host}
use Rattle.avs_model.specs.declared.event.Host.TheVariants.{P, S}
use Rattle.avs_model.specs.declared.event.ArmTarget.{ArmTarget}
use Rattle.avs_model.specs.declared.event.ArmTarget.TheVariants as disk
use Rattle.avs_model.specs.declared.event.Event.{Event}

-- a volume: its name; how many blocks it has; its image; whether its contents are gone, and then the image is []; and whether a
-- tear is armed on its disk. While it is a master or a shadow its image is in its group's state, and here it is []
pub record VolumeState : Type 0 where
  pub name : List ℕ
  pub blocks : ℕ
  pub image : Image
  pub spent : Bool
  pub armed : Bool

-- a shadow set in its group: its slot, its shadow, by which it is named, and its bitmap
pub record SetNames : Type 0 where
  pub slot : ℕ
  pub shadow : List ℕ
  pub bitmap : List ℕ

-- a group of shadow sets: its name; its masters, in the order of their numbers in the group; its sets, in order of enabling;
-- its state; and whether a tear is armed on its state disk
pub record ShadowGroup : Type 0 where
  pub name : List ℕ
  pub masters : List (List ℕ)
  pub sets : List SetNames
  pub state : GroupState
  pub armed : Bool

-- a host: whether it is up; where it is down, the event in which a fault stopped it, or none; its volumes in order of making,
-- and its groups, which stand as before that event until the host is brought up again, but for a tear that was met; and how many
-- disks were made for the states of groups, which are kept for later groups
pub record HostState : Type 0 where
  pub up : Bool
  pub stopped : Option Event
  pub volumes : List VolumeState
  pub groups : List ShadowGroup
  pub state_disks : ℕ

pub record State : Type 0 where
  pub p : HostState
  pub s : HostState

abbrev pub empty_host : HostState
empty_host = record { up = true; stopped = None; volumes = []; groups = []; state_disks = 0 }

-- before the first event
abbrev pub start : State
start = record { p = empty_host; s = empty_host }

abbrev pub host_of : State → Host → HostState
host_of state P = state.p
host_of state S = state.s

-- the state with another state of that host
abbrev pub with_host : State → Host → HostState → State
with_host state P host = record state { p = host }
with_host state S host = record state { s = host }

-- the volume of that name
abbrev pub volume_of : HostState → List ℕ → Option VolumeState
volume_of host name = find (λ volume. bytes_eq name volume.name) host.volumes

-- how many blocks it has
abbrev pub size_of : HostState → List ℕ → ℕ
size_of host name = option_map_or (λ volume. volume.blocks) (volume_of host name) 0

-- whether its contents are gone
abbrev pub is_spent : HostState → List ℕ → Bool
is_spent host name = option_map_or (λ volume. volume.spent) (volume_of host name) false

-- a group by its number
abbrev pub group_at : HostState → ℕ → ShadowGroup
group_at host group = slice_index_or host.groups group (record { name = []; masters = []; sets = []; state = bare_group []; armed = false })

-- the slot of a set of a group, by its place
abbrev pub slot_of : ShadowGroup → ℕ → ℕ
slot_of group set = option_map_or (λ s. s.slot) (slice_get group.sets set) 0

-- What a volume serves as: nothing; in a group of that number the master of that number, or the shadow or the bitmap of the
-- set at that place.
pub data Use : Type 0 where
  Alone : Use
  MasterIn : ℕ → ℕ → Use
  ShadowIn : ℕ → ℕ → Use
  BitmapIn : ℕ → ℕ → Use

-- the first that fits
abbrev pub first_use : ℕ → Option ℕ → Option ℕ → Option ℕ → Use
first_use group (Some volume) shadow bitmap = MasterIn group volume
first_use group None (Some set) bitmap = ShadowIn group set
first_use group None None (Some set) = BitmapIn group set
first_use group None None None = Alone

abbrev pub use_in : ℕ → ShadowGroup → List ℕ → Use
use_in group held name =
    first_use group (position (λ master. bytes_eq name master) held.masters) (position (λ set. bytes_eq name set.shadow) held.sets) (position (λ set. bytes_eq name set.bitmap) held.sets)

abbrev pub or_use : Use → Use → Use
or_use Alone other = other
or_use (MasterIn group volume) other = MasterIn group volume
or_use (ShadowIn group set) other = ShadowIn group set
or_use (BitmapIn group set) other = BitmapIn group set

-- in the groups from that number on
abbrev pub use_from : ℕ → List ShadowGroup → List ℕ → Use
use_from group [] name = Alone
use_from group (held ∷ groups) name = or_use (use_in group held name) (use_from (group + 1) groups name)

abbrev pub use_of : HostState → List ℕ → Use
use_of host name = use_from 0 host.groups name

abbrev pub role_by : Use → Role
role_by Alone = role.Plain
role_by (MasterIn group volume) = role.Master
role_by (ShadowIn group set) = role.Shadow
role_by (BitmapIn group set) = role.Bitmap

abbrev pub role_of : HostState → List ℕ → Role
role_of host name = role_by (use_of host name)

-- the image of a volume: its group's, where a group holds it
abbrev pub image_by : HostState → List ℕ → Use → Image
image_by host name Alone = option_map_or (λ volume. volume.image) (volume_of host name) []
image_by host name (MasterIn group volume) = volume_image (group_at host group).state volume
image_by host name (ShadowIn group set) = let held = group_at host group in image_at held.state.sets (slot_of held set)
image_by host name (BitmapIn group set) = []

abbrev pub image_of : HostState → List ℕ → Image
image_of host name = image_by host name (use_of host name)

-- how many of a volume's blocks can be read and written: a shadow has as many as its master, all others have all
abbrev pub reach_by : HostState → List ℕ → Use → ℕ
reach_by host name Alone = size_of host name
reach_by host name (MasterIn group volume) = size_of host name
reach_by host name (ShadowIn group set) = let held = group_at host group in blocks_at held.state.sets (slot_of held set)
reach_by host name (BitmapIn group set) = size_of host name

abbrev pub reach_of : HostState → List ℕ → ℕ
reach_of host name = reach_by host name (use_of host name)

-- the number of the group of that name, where it is there
abbrev pub group_of : HostState → List ℕ → Option ℕ
group_of host group = position (λ held. bytes_eq group held.name) host.groups

-- whether each disk that was made for the state of a group serves one
abbrev pub are_disks_used : HostState → Bool
are_disks_used host = host.state_disks == length host.groups

-- whether there is a shadow set of that name
abbrev pub is_set : Use → Bool
is_set Alone = false
is_set (MasterIn group volume) = false
is_set (ShadowIn group set) = true
is_set (BitmapIn group set) = false

abbrev pub has_set : HostState → List ℕ → Bool
has_set host name = is_set (use_of host name)

-- the volumes, of which that of that name is changed
abbrev pub with_volume_of : List VolumeState → List ℕ → (VolumeState → VolumeState) → List VolumeState
with_volume_of [] name change = []
with_volume_of (volume ∷ volumes) name change =
    if bytes_eq name volume.name then change volume ∷ volumes else volume ∷ with_volume_of volumes name change

-- the state in which that volume alone is changed
abbrev pub with_volume : State → Host → List ℕ → (VolumeState → VolumeState) → State
with_volume state host name change =
    let held = host_of state host in with_host state host (record held { volumes = with_volume_of held.volumes name change })

-- the state in which it has another image
abbrev pub with_image : State → Host → List ℕ → Image → State
with_image state host name image = with_volume state host name (λ volume. record volume { image = image })

-- the state in which a group alone is changed
abbrev pub with_group : State → Host → ℕ → (ShadowGroup → ShadowGroup) → State
with_group state host group change =
    let held = host_of state host in with_host state host (record held { groups = slice_set held.groups group (change (group_at held group)) })

-- Disks: that of a volume, and that of the state of a group of that number.
pub data DiskPlace : Type 0 where
  OfVolume : List ℕ → DiskPlace
  OfState : ℕ → DiskPlace

-- the disk that a target names
abbrev pub disk_place : HostState → ArmTarget → DiskPlace
disk_place host (disk.Volume name) = OfVolume name
disk_place host (disk.StateOf group) = OfState (position_or_len (λ held. bytes_eq group held.name) host.groups)

-- whether a tear is armed on a disk
abbrev pub is_armed : HostState → DiskPlace → Bool
is_armed host (OfVolume name) = option_map_or (λ volume. volume.armed) (volume_of host name) false
is_armed host (OfState group) = (group_at host group).armed

-- the state in which a tear is armed on it, or none is
abbrev pub with_armed : State → Host → DiskPlace → Bool → State
with_armed state host (OfVolume name) armed = with_volume state host name (λ volume. record volume { armed = armed })
with_armed state host (OfState group) armed = with_group state host group (λ held. record held { armed = armed })

-- the blocks of a host's volumes, and of all volumes
abbrev pub blocks_on : HostState → ℕ
blocks_on host = sum_by (λ volume. volume.blocks) host.volumes

abbrev pub all_blocks : State → ℕ
all_blocks state = blocks_on state.p + blocks_on state.s
