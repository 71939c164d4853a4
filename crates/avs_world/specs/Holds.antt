-- How disks hold the volumes and the groups of a state.
use Rattle.std.specs.Prelude.{◌≡◌, ◌≢◌, ◌≤◌, ℕ, Bool, true, false, ◌&&◌, if◌then◌else◌, List, [], ◌∷◌, length, map, Some, position, slice_set, slice_index_or, nat_lt}
use Rattle.std.specs.Str.{bytes_eq}
use Rattle.avs_seg.specs.Image.{Image}
use Rattle.avs_dev.specs.Seen.{Seen, IsTold}
use Rattle.avs_model.specs.Shadows.{GroupState}
use Rattle.avs_model.specs.State.{State, VolumeState, ShadowGroup, empty_host, all_blocks}
use Rattle.avs_ii.specs.Held.{IiDisks, is_live}
use Rattle.avs_ii.specs.Meaning.{meaning, kept_on}
use Rattle.avs_ii.specs.Sound.{IsSound}
use Rattle.avs_ii.specs.Parts.{PartDisks, parts_of, meaning_of_parts}
use Rattle.avs_ii.specs.Making.{AreTold, AreWhole, state_blocks}
use Rattle.avs_world.specs.declared.place.Place.{Place}
use Rattle.avs_world.specs.declared.place.Place.TheVariants.{Here, Spent, Lent}
use Rattle.avs_world.specs.declared.group.ShadowSet.{ShadowSet}
use Rattle.avs_world.specs.Views.{GroupView, NoGroup, FreeDisk, InMemory, OnDisks, StoreView, FourDisks, one_set}

-- of a volume: its image, whether its contents are gone, how many blocks its disk tells and has, whether it has one, whether that
-- is steady, and whether it is steady and a tear is armed on it
pub record Shown : Type 0 where
  pub image : Image
  pub spent : Bool
  pub told : ℕ
  pub size : ℕ
  pub some : Bool
  pub steady : Bool
  pub armed : Bool

-- a volume whose image is what its disk holds; one whose contents are gone; and one whose image is in a group's state
abbrev pub plain : Seen → Shown
plain d = record { image = d.image; spent = false; told = length d.image; size = d.size; some = nat_lt 0 d.size; steady = d.steady; armed = d.steady && d.armed }

abbrev pub gone : Seen → Shown
gone d = record { image = []; spent = true; told = length d.image; size = d.size; some = nat_lt 0 d.size; steady = d.steady; armed = d.steady && d.armed }

abbrev pub kept : Seen → Shown
kept d = record { image = []; spent = false; told = length d.image; size = d.size; some = nat_lt 0 d.size; steady = d.steady; armed = d.steady && d.armed }

abbrev pub plain_or_gone : Bool → Seen → Shown
plain_or_gone spent d = if spent then gone d else plain d

-- by its place; of a disk that is not here nothing is shown, as no volume is
abbrev pub shown : Place Seen → Shown
shown (Here d) = plain d
shown (Spent d) = gone d
shown Lent = record { image = []; spent = false; told = 1; size = 0; some = false; steady = false; armed = false }

-- what is shown of a volume of the state: each has a block
abbrev pub expected : Bool → VolumeState → Shown
expected steady volume = record { image = volume.image; spent = volume.spent; told = volume.blocks; size = volume.blocks; some = true; steady = steady; armed = steady && volume.armed }

-- by all places, and the disks that a group has of three of them. A set that is not enabled leaves its volumes as they were,
-- but for its bitmap, which is spent
abbrev pub shown_with : List (Place Seen) → ShadowSet → FourDisks → Bool → List Shown
shown_with places set disks live =
    slice_set (slice_set (slice_set (map shown places)
    set.bitmap (gone disks.bitmap))
    set.master (if live then kept disks.master else plain disks.master))
    set.shadow (if live then kept disks.shadow else plain_or_gone set.spent disks.shadow)

-- the name at a place
abbrev pub name_at : List (List ℕ) → ℕ → List ℕ
name_at names place = slice_index_or names place []

-- the place is that of its name
abbrev pub IsNamed : List (List ℕ) → ℕ → Type 0
IsNamed names place = position (bytes_eq (name_at names place)) names ≡ Some place

-- three volumes with names of their own, and the set is named by its shadow
pub record IsSetOf (names : List (List ℕ)) (set : ShadowSet) : Type 0 where
  pub first : set.slot ≡ 0
  pub named : set.name ≡ name_at names set.shadow
  pub master_there : IsNamed names set.master
  pub shadow_there : IsNamed names set.shadow
  pub bitmap_there : IsNamed names set.bitmap
  pub shadow_differs : set.shadow ≢ set.master
  pub bitmap_differs : set.bitmap ≢ set.master
  pub bitmap_differs_too : set.bitmap ≢ set.shadow

-- the group of the state
abbrev pub group_with : List (List ℕ) → ShadowSet → GroupState → Bool → ShadowGroup
group_with names set state armed = record {
  name = set.name;
  masters = name_at names set.master ∷ [];
  sets = record { slot = set.slot; shadow = name_at names set.shadow; bitmap = name_at names set.bitmap } ∷ [];
  state = state;
  armed = armed;
}

-- whether the state disk says that the set is enabled
abbrev pub is_enabled : ShadowSet → PartDisks → Bool
is_enabled set parts = is_live (kept_on parts.state).slots set.slot

-- the state has this group where the set is enabled, and else none. Over steady disks a tear is armed on the state disk where the
-- group says so, and none is where there is no group
abbrev pub AreGroups : Bool → List (List ℕ) → ShadowSet → GroupState → Seen → Bool → List ShadowGroup → Type 0
AreGroups steady names set state disk true groups = (armed : Bool) × (groups ≡ group_with names set state armed ∷ []) × (steady ≡ true → disk.armed ≡ armed)
AreGroups steady names set state disk false groups = (groups ≡ []) × (steady ≡ true → disk.armed ≡ false)

-- a state disk that tells its blocks
pub record IsStateDisk (steady : Bool) (d : Seen) : Type 0 where
  pub told : IsTold d
  pub room : state_blocks ≤ d.size
  pub same : d.steady ≡ steady

-- the disks of a set hold its volumes, and stand for this state of a group
pub record HoldsSet (steady : Bool) (names : List (List ℕ)) (places : List (Place Seen)) (set : ShadowSet) (parts : PartDisks) (group : GroupState) (volumes : List VolumeState) (groups : List ShadowGroup) : Type 0 where
  pub disks : FourDisks
  pub is : parts ≡ one_set set.slot disks
  pub set_of : IsSetOf names set
  pub state_disk : IsStateDisk steady disks.state
  pub shows : shown_with places set disks (is_enabled set parts) ≡ map (expected steady) volumes
  pub are : AreGroups steady names set group disks.state (is_enabled set parts) groups

-- a group in memory: it is enabled, its disks tell their blocks, and they are in step
pub record IsOpen (set : ShadowSet) (held : IiDisks) : Type 0 where
  pub sound : IsSound held
  pub told : AreTold (parts_of held)
  pub in_memory : is_live held.block.slots set.slot ≡ true
  pub on_disk : is_enabled set (parts_of held) ≡ true

-- a group on its disks, on which it can be found
pub record IsApart (parts : PartDisks) : Type 0 where
  pub told : AreTold parts
  pub whole : AreWhole parts

-- all disks are here
abbrev pub AreHere : Bool → List (Place Seen) → List VolumeState → Type 0
AreHere steady places volumes = map shown places ≡ map (expected steady) volumes

-- the volumes and the groups of a state, by the group
abbrev pub HoldsBy : Bool → List (List ℕ) → List (Place Seen) → GroupView → List VolumeState → List ShadowGroup → Type 0
HoldsBy steady names places NoGroup volumes groups = AreHere steady places volumes × (groups ≡ [])
HoldsBy steady names places (FreeDisk disk) volumes groups =
    AreHere steady places volumes × ((groups ≡ []) × (IsStateDisk steady disk × (steady ≡ true → disk.armed ≡ false)))
HoldsBy steady names places (InMemory set held) volumes groups = IsOpen set held × HoldsSet steady names places set (parts_of held) (meaning held) volumes groups
HoldsBy steady names places (OnDisks set parts) volumes groups = IsApart parts × HoldsSet steady names places set parts (meaning_of_parts parts) volumes groups

-- how many disks were made for the states of groups
abbrev pub disks_made : GroupView → ℕ
disks_made NoGroup = 0
disks_made (FreeDisk disk) = 1
disks_made (InMemory set held) = 1
disks_made (OnDisks set parts) = 1

-- a store holds the volumes and the groups of host p, and host s has none
pub record Holds (steady : Bool) (store : StoreView) (state : State) : Type 0 where
  pub same_names : store.names ≡ map (λ volume. volume.name) state.p.volumes
  pub same_blocks : store.blocks ≡ all_blocks state
  pub no_other : state.s ≡ empty_host
  pub same_disks : disks_made store.group ≡ state.p.state_disks
  pub by : HoldsBy steady store.names store.places store.group state.p.volumes state.p.groups

-- the group is in memory while the host is up, and on its disks while it is down
abbrev pub IsPhase : Bool → GroupView → Type 0
IsPhase up NoGroup = Unit {0}
IsPhase up (FreeDisk disk) = Unit {0}
IsPhase up (InMemory set held) = up ≡ true
IsPhase up (OnDisks set parts) = up ≡ false
