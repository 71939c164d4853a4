-- Where a volume of a host is, what it serves as, and what can be read of it.
use Rattle.std.specs.Prelude.{ℕ, ◌+◌, Bool, false, not, ◌&&◌, ◌||◌, if◌then◌else◌, Option, None, Some, List, [], ◌∷◌, find, is_some}
use Rattle.std.specs.List.{list_any}
use Rattle.std.specs.Option.{option_map, option_map_or}
use Rattle.std.specs.Str.{bytes_eq}
use Rattle.avs_seg.specs.Image.{Image}
use Rattle.avs_model.specs.ShadowSets.{is_exported}
use Rattle.avs_model.specs.GroupStates.{GroupState, volume_image, shadow_image, of_set, has_master}
use Rattle.avs_model.specs.GroupWork.{GroupSpot, StateDisk, VolumeDisk, ShadowDisk, BitmapDisk, OverDisk}
use Rattle.avs_model.specs.Hosts.{Name, SetNames, ShadowGroup, HostState, HostSpot, OfVolume, OfNumber, blocks_of_volume, marks_of, own_image, group_at, number_in, name_at, names_of_slot, or_else, has_set, is_imported, keeps_import}
use Rattle.avs_model.specs.declared.answer.Role.{Role}
use Rattle.avs_model.specs.declared.answer.Role.TheVariants as role

-- a disk is at rest with its host, or in the group of that place
pub data Where : Type 0 where
  Own : Where
  InGroup : ℕ → GroupSpot → Where

-- the shadow volume of a set is in the group, unless it was given away
abbrev pub is_held : ShadowGroup → SetNames → Bool
is_held group set = of_set group.state set.slot (λ state. not (is_exported state.standing)) false

abbrev pub shadow_spot : ShadowGroup → Name → Option GroupSpot
shadow_spot group name = option_map (λ set. ShadowDisk set.slot) (find (λ set. bytes_eq name set.shadow && is_held group set) group.sets)

abbrev pub bitmap_spot : ShadowGroup → Name → Option GroupSpot
bitmap_spot group name = option_map (λ set. BitmapDisk set.slot) (find (λ set. bytes_eq name set.bitmap) group.sets)

-- the disk that a volume of that name is in a group, or none
abbrev pub spot_in : ShadowGroup → Name → Option GroupSpot
spot_in group name =
    or_else (option_map (λ volume. VolumeDisk volume) (number_in group.volumes name))
    (or_else (shadow_spot group name) (or_else (bitmap_spot group name) (option_map (λ over. OverDisk over) (number_in group.overs name))))

abbrev pub in_group_or : ℕ → Option GroupSpot → Where → Where
in_group_or place (Some spot) other = InGroup place spot
in_group_or place None other = other

abbrev pub where_from : ℕ → List ShadowGroup → Name → Where
where_from place [] name = Own
where_from place (group ∷ groups) name = in_group_or place (spot_in group name) (where_from (place + 1) groups name)

abbrev pub where_is : HostState → Name → Where
where_is host name = where_from 0 host.groups name

-- the volume of a disk of a group, and the disk of the host that it is
abbrev pub spot_name : ShadowGroup → GroupSpot → Name
spot_name group StateDisk = []
spot_name group (VolumeDisk volume) = name_at group.volumes volume
spot_name group (ShadowDisk slot) = (names_of_slot group slot).shadow
spot_name group (BitmapDisk slot) = (names_of_slot group slot).bitmap
spot_name group (OverDisk over) = name_at group.overs over

abbrev pub host_spot : ShadowGroup → GroupSpot → HostSpot
host_spot group StateDisk = OfNumber group.number
host_spot group spot = OfVolume (spot_name group spot)

-- ---- what can be read

-- the image of a volume
abbrev pub image_in : GroupState → GroupSpot → Image
image_in group StateDisk = []
image_in group (VolumeDisk volume) = volume_image group volume
image_in group (ShadowDisk slot) = shadow_image group slot
image_in group (BitmapDisk slot) = []
image_in group (OverDisk over) = []

abbrev pub image_at : HostState → Name → Where → Image
image_at host name Own = own_image host name
image_at host name (InGroup place spot) = image_in (group_at host place).state spot

abbrev pub image_of : HostState → Name → Image
image_of host name = image_at host name (where_is host name)

-- how many of its blocks can be read and written: a shadow has as many as its master, all others have all
abbrev pub reach_at : HostState → Name → Where → ℕ
reach_at host name (InGroup place (ShadowDisk slot)) = of_set (group_at host place).state slot (λ set. set.size.blocks) 0
reach_at host name place = blocks_of_volume host name

abbrev pub reach_of : HostState → Name → ℕ
reach_of host name = reach_at host name (where_is host name)

-- ---- roles: each is a question of its own, and the first that holds is told

-- a set of that group has the volume as its master
abbrev pub leads_in : Name → ShadowGroup → Bool
leads_in name group = option_map_or (λ volume. list_any (λ set. has_master volume set) group.state.sets) (number_in group.volumes name) false

abbrev pub is_marked_away : HostState → Name → Bool
is_marked_away host name = is_some (marks_of host name).away

abbrev pub is_master : HostState → Name → Bool
is_master host name = list_any (λ group. leads_in name group) host.groups

abbrev pub is_bitmap : HostState → Name → Bool
is_bitmap host name = list_any (λ group. list_any (λ set. bytes_eq name set.bitmap) group.sets) host.groups

abbrev pub is_marked_overflow : HostState → Name → Bool
is_marked_overflow host name = (marks_of host name).overflow

abbrev pub serves_import : HostState → Name → Bool
serves_import host name = is_imported host name || keeps_import host name

abbrev pub role_of : HostState → Name → Role
role_of host name =
    if is_marked_away host name then role.Away
    else if is_master host name then role.Master
    else if has_set host name then role.Shadow
    else if is_bitmap host name then role.Bitmap
    else if is_marked_overflow host name then role.Overflow
    else if serves_import host name then role.Import
    else role.Plain
