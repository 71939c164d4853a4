-- The volumes of a world by place: what each serves as, and how many of its blocks can be read and written.
use Rattle.std.specs.Prelude.{◌≡◌, ℕ, ◌+◌, ◌*◌, ◌/◌, ◌==◌, ◌<◌, ◌≤◌, Bool, true, false, if◌then◌else◌, Option, None, Some, List, length, slice_get}
use Rattle.std.specs.Option.{option_map_or}
use Rattle.avs_dev.specs.Seen.{Seen}
use Rattle.avs_world.specs.declared.group.Part.{Part}
use Rattle.avs_world.specs.declared.group.Part.TheVariants.{Master, Shadow, Bitmap, Plain}
use Rattle.avs_model.specs.declared.answer.Role.{Role}
use Rattle.avs_model.specs.declared.answer.Role.TheVariants as told
use Rattle.avs_ii.specs.Held.{IiDisks, set_at}
use Rattle.avs_world.specs.declared.place.Place.{Place}
use Rattle.avs_world.specs.declared.place.Place.TheVariants.{Here, Spent, Lent}
use Rattle.avs_world.specs.declared.group.ShadowSet.{ShadowSet}
use Rattle.avs_world.specs.declared.ranges.Target.{Target}
use Rattle.avs_world.specs.Views.{GroupView, NoGroup, FreeDisk, InMemory, OnDisks, StoreView}

-- how it is told
abbrev pub told_as : Part → Role
told_as Master = told.Master
told_as Shadow = told.Shadow
told_as Bitmap = told.Bitmap
told_as Plain = told.Plain

-- what the volume at a place serves as in a set
abbrev pub role_in : ShadowSet → ℕ → Part
role_in set place = if place == set.master then Master else if place == set.shadow then Shadow else if place == set.bitmap then Bitmap else Plain

abbrev pub role_by : GroupView → ℕ → Part
role_by NoGroup place = Plain
role_by (FreeDisk disk) place = Plain
role_by (InMemory set held) place = role_in set place
role_by (OnDisks set parts) place = role_in set place

-- the disk at a place, where it is here, and whether the contents are gone
abbrev pub disk_here : Option (Place Seen) → Option Seen
disk_here None = None
disk_here (Some (Here d)) = Some d
disk_here (Some (Spent d)) = Some d
disk_here (Some Lent) = None

abbrev pub is_gone : Option (Place Seen) → Bool
is_gone None = false
is_gone (Some (Here d)) = false
is_gone (Some (Spent d)) = true
is_gone (Some Lent) = false

abbrev pub size_here : List (Place Seen) → ℕ → ℕ
size_here places place = option_map_or (λ d. d.size) (disk_here (slice_get places place)) 0

-- how many blocks a group's master has, and its shadow
abbrev pub group_size_of : ShadowSet → IiDisks → Part → ℕ
group_size_of set held Master = option_map_or (λ v. v.size) (slice_get held.volumes 0) 0
group_size_of set held Shadow = option_map_or (λ s. s.chunks.blocks) (set_at held set.slot) 0
group_size_of set held Bitmap = 0
group_size_of set held Plain = 0

abbrev pub group_size : GroupView → Part → ℕ
group_size NoGroup role = 0
group_size (FreeDisk disk) role = 0
group_size (InMemory set held) role = group_size_of set held role
group_size (OnDisks set parts) role = 0

-- how many blocks of a target can be read and written
abbrev pub reach_by : StoreView → ℕ → Part → ℕ
reach_by store place Plain = size_here store.places place
reach_by store place Master = group_size store.group Master
reach_by store place Shadow = group_size store.group Shadow
reach_by store place Bitmap = group_size store.group Bitmap

abbrev pub reach : StoreView → Target → ℕ
reach store target = reach_by store target.place target.role

-- the target is a volume with its role
abbrev pub IsTarget : StoreView → Target → Type 0
IsTarget store target = target.role ≡ role_by store.group target.place

-- so many bytes are whole blocks, one or more, that can be read and written from block `at` on; contents that are gone are those of a
-- volume that serves as nothing
pub record IsReached (store : StoreView) (target : Target) (at len : ℕ) : Type 0 where
  pub there : target.place < length store.places
  pub is : IsTarget store target
  pub some : 0 < len
  pub whole : 512 * (len / 512) ≡ len
  pub inside : at + len / 512 ≤ reach store target
  pub filled : target.role ≡ Plain → is_gone (slice_get store.places target.place) ≡ false
