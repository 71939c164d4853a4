-- What a host keeps outside its groups, and what each call makes of that.
use Rattle.std.specs.Prelude.{◌≡◌, ℕ, Bool, false, not, IsTrue, if◌then◌else◌, List, [], ◌∷◌, ◌++◌, map, filter, find, is_some, Option, Some, IfSome, slice_get}
use Rattle.std.specs.List.{filter_map}
use Rattle.std.specs.Option.{option_map, option_map_or, option_and_then}
use Rattle.avs_dev.specs.Seen.{Seen, with_tear}
use Rattle.avs_dev.specs.declared.disk.Tear.{Tear}
use Rattle.avs_stack.specs.Names.{Named, no_roles, is_named}
use Rattle.avs_stack.specs.declared.roles.Roles.{Roles}

-- a volume: its name with number and roles, and its disk where that is at rest
pub record StoreVolume : Type 0 where
  pub kept : Named
  pub disk : Option Seen

-- the volumes of a host in order of making, and the stamp that it gives next
pub record StoreSeen : Type 0 where
  pub volumes : List StoreVolume
  pub stamp : ℕ

-- volumes of these names, with these disks
abbrev pub volumes_with : {D : Type 0} → (D → Seen) → List Named → List (Option D) → List StoreVolume
volumes_with seen [] disks = []
volumes_with seen (name ∷ names) [] = []
volumes_with seen (name ∷ names) (disk ∷ disks) = record { kept = name; disk = option_map seen disk } ∷ volumes_with seen names disks

-- the names of a host
abbrev pub names_of : StoreSeen → List Named
names_of store = map (λ volume. volume.kept) store.volumes

abbrev pub is_of : List ℕ → StoreVolume → Bool
is_of name volume = is_named name volume.kept

-- the disk of a name, where it is at rest
abbrev pub disk_of : StoreSeen → List ℕ → Option Seen
disk_of store name = option_and_then (λ volume. volume.disk) (find (is_of name) store.volumes)

abbrev pub is_resting : StoreSeen → List ℕ → Bool
is_resting store name = is_some (disk_of store name)

-- with a new volume behind the others, whose disk is at rest
abbrev pub with_volume : StoreSeen → List ℕ → ℕ → Seen → StoreSeen
with_volume store name number disk =
    record store { volumes = store.volumes ++ record { kept = record { name = name; number = number; roles = no_roles }; disk = Some disk } ∷ [] }

-- these volumes, with the one of a name changed
abbrev pub changed : List ℕ → (StoreVolume → StoreVolume) → List StoreVolume → List StoreVolume
changed name change volumes = map (λ volume. if is_of name volume then change volume else volume) volumes

-- with that disk at rest by a name, or none
abbrev pub with_disk : StoreSeen → List ℕ → Option Seen → StoreSeen
with_disk store name disk = record store { volumes = changed name (λ volume. record volume { disk = disk }) store.volumes }

-- with these roles at a name
abbrev pub with_given : StoreSeen → List ℕ → Roles → StoreSeen
with_given store name roles = record store { volumes = changed name (λ volume. record volume { kept = record (volume.kept) { roles = roles } }) store.volumes }

-- without the volume of a name
abbrev pub without_volume : StoreSeen → List ℕ → StoreSeen
without_volume store name = record store { volumes = filter (λ volume. not (is_of name volume)) store.volumes }

-- the disks at rest in order of making, each with its name
abbrev pub resting_in : List StoreVolume → List (List ℕ × Seen)
resting_in volumes = filter_map (λ volume. option_map (λ disk. (volume.kept.name, disk)) volume.disk) volumes

-- the one of that number among them
abbrev pub numbered : StoreSeen → ℕ → Option (List ℕ × Seen)
numbered store number = slice_get (resting_in store.volumes) number

-- the blocks written on it
abbrev pub written_of : StoreSeen → ℕ → Option ℕ
written_of store number = option_map (λ one. one.1.written) (numbered store number)

-- exactly this tear is armed, exactly on a disk that is at rest and lets one be armed; where none is, nothing changes
pub record ArmsResting (old : StoreSeen) (number : ℕ) (tear : Tear) (result : Bool) (new : StoreSeen) : Type 0 where
  pub answer : result ≡ option_map_or (λ one. one.1.arms) (numbered old number) false
  pub armed : IsTrue result → IfSome (numbered old number) (λ one. new ≡ with_disk old one.0 (Some (with_tear tear one.1)))
  pub unarmed : IsTrue (not result) → new ≡ old
  pub sure : IfSome (numbered old number) (λ one. IsTrue one.1.steady → IsTrue result)
