-- The steps of enabling a set.
use Rattle.std.specs.Prelude.{◌≡◌, ◌≢◌, ◌⊎◌, ℕ, ◌<◌, ◌≤◌, ◌==◌, nat_lt, Bool, true, false, not, ◌||◌, ⊤, Option, None, Some, List, [], ◌∷◌, length, slice_get, slice_set, position, Ok, Err}
use Rattle.std.specs.Str.{bytes_eq}
use Rattle.avs_dev.specs.Seen.{Seen}
use Rattle.avs_dev.specs.Rack.{RackSeen, new_disk}
use Rattle.avs_model.specs.Limits.{bitmap_blocks, most_sets}
use Rattle.avs_world.specs.declared.group.Part.{Part}
use Rattle.avs_world.specs.declared.group.Part.TheVariants.{Master, Shadow, Bitmap, Plain}
use Rattle.avs_model.specs.declared.answer.Refusal.{Refusal}
use Rattle.avs_model.specs.declared.answer.Refusal.TheVariants.{BusyVolume, Size, Limit, NoMemory}
use Rattle.avs_model.specs.declared.shadow.Kind.TheVariants.{Dep}
use Rattle.avs_ii.specs.Held.{IiDisks}
use Rattle.avs_ii.specs.Parts.{parts_of}
use Rattle.avs_ii.specs.Calls.{Adds, Enables, EnableRefused, Confirms}
use Rattle.avs_ii.specs.Making.{Opens, FailsOpening, state_blocks}
use Rattle.avs_world.specs.declared.place.Place.{Place}
use Rattle.avs_world.specs.declared.place.Place.TheVariants.{Here, Spent, Lent}
use Rattle.avs_world.specs.declared.group.ShadowSet.{ShadowSet}
use Rattle.avs_world.specs.declared.enabling.Chosen.{Chosen}
use Rattle.avs_world.specs.declared.ranges.Target.{Target}
use Rattle.avs_world.specs.Views.{GroupView, NoGroup, FreeDisk, InMemory, OnDisks, StoreView, IsSameApart}
use Rattle.avs_world.specs.Ranges.{IsTarget, told_as}
use Rattle.avs_world.specs.Places.{place_of}

-- the target is the volume of that name, with what it serves as
pub record IsNamedTarget (store : StoreView) (name : List ℕ) (target : Target) : Type 0 where
  pub at : position (bytes_eq name) store.names ≡ Some target.place
  pub there : target.place < length store.places
  pub is : IsTarget store target

-- what may be the master of a set, and what its shadow and its bitmap
abbrev pub may_lead : Part → Bool
may_lead Plain = true
may_lead Master = true
may_lead Shadow = false
may_lead Bitmap = false

abbrev pub is_plain : Part → Bool
is_plain Plain = true
is_plain Master = false
is_plain Shadow = false
is_plain Bitmap = false

-- what three volumes are refused for by what they serve as, where some are the same
abbrev pub role_causes : Part → Part → Part → Bool → Bool → List (Bool × Refusal)
role_causes master shadow bitmap shadow_twice bitmap_twice =
    (not (may_lead master), BusyVolume (told_as master))
    ∷ (not (is_plain shadow) || shadow_twice, BusyVolume (told_as shadow))
    ∷ (not (is_plain bitmap) || bitmap_twice, BusyVolume (told_as bitmap))
    ∷ []

abbrev pub target_causes : Target → Target → Target → List (Bool × Refusal)
target_causes master shadow bitmap =
    role_causes master.role shadow.role bitmap.role (shadow.place == master.place) (bitmap.place == master.place || bitmap.place == shadow.place)

-- and by how many blocks they have
abbrev pub size_causes : ℕ → ℕ → ℕ → List (Bool × Refusal)
size_causes master shadow bitmap = (nat_lt shadow master, Size master shadow) ∷ (nat_lt bitmap (bitmap_blocks master), Size (bitmap_blocks master) bitmap) ∷ []

-- there is no group, and the state disk that is free is large enough for the next
abbrev pub IsFree : GroupView → Type 0
IsFree NoGroup = ⊤
IsFree (FreeDisk disk) = state_blocks ≤ disk.size
IsFree (InMemory set held) = ⊥
IsFree (OnDisks set parts) = ⊥

-- no state disk is free
abbrev pub HasNoFree : GroupView → Type 0
HasNoFree NoGroup = ⊤
HasNoFree (FreeDisk disk) = ⊥
HasNoFree (InMemory set held) = ⊤
HasNoFree (OnDisks set parts) = ⊤

-- why there can be no other group
abbrev pub GroupRefused : GroupView → Refusal → Type 0
GroupRefused NoGroup why = ⊥
GroupRefused (FreeDisk disk) why = disk.size < state_blocks
GroupRefused (InMemory set held) why = why ≡ Limit most_sets
GroupRefused (OnDisks set parts) why = why ≡ Limit most_sets

-- three places whose disks are here and large enough for a set
pub record HasThree (places : List (Place Seen)) (chosen : Chosen) : Type 0 where
  pub shadow_differs : chosen.shadow ≢ chosen.master
  pub bitmap_differs : chosen.bitmap ≢ chosen.master
  pub bitmap_differs_too : chosen.bitmap ≢ chosen.shadow
  pub master_disk : Seen
  pub shadow_disk : Seen
  pub bitmap_disk : Seen
  pub shadow_spent : Bool
  pub bitmap_spent : Bool
  pub master_here : slice_get places chosen.master ≡ Some (Here master_disk)
  pub shadow_here : slice_get places chosen.shadow ≡ Some (place_of shadow_spent shadow_disk)
  pub bitmap_here : slice_get places chosen.bitmap ≡ Some (place_of bitmap_spent bitmap_disk)
  pub some : 0 < master_disk.size
  pub shadow_room : master_disk.size ≤ shadow_disk.size
  pub bitmap_room : bitmap_blocks master_disk.size ≤ bitmap_disk.size

-- three volumes of which a set can be enabled
pub record IsChosen (store : StoreView) (master shadow bitmap : List ℕ) (chosen : Chosen) : Type 0 where
  pub at_master : position (bytes_eq master) store.names ≡ Some chosen.master
  pub at_shadow : position (bytes_eq shadow) store.names ≡ Some chosen.shadow
  pub at_bitmap : position (bytes_eq bitmap) store.names ≡ Some chosen.bitmap
  pub three : HasThree store.places chosen
  pub free : IsFree store.group

-- the state disk of the next group: the free one, else a new one of the rack
abbrev pub TakesState : GroupView → RackSeen → Seen → GroupView → Type 0
TakesState (FreeDisk free) rack disk new = (disk ≡ free) × (new ≡ NoGroup)
TakesState NoGroup rack disk new = (disk ≡ new_disk rack state_blocks disk.arms) × (new ≡ NoGroup)
TakesState (InMemory set held) rack disk new = (disk ≡ new_disk rack state_blocks disk.arms) × (new ≡ InMemory set held)
TakesState (OnDisks set parts) rack disk new = (disk ≡ new_disk rack state_blocks disk.arms) × (new ≡ OnDisks set parts)

-- a group is started on its state disk; where that fails the disk is free
abbrev pub StartsGroup : Seen → GroupView → Option IiDisks → GroupView → Type 0
StartsGroup disk old (Some held) new = Opens disk held × (new ≡ old)
StartsGroup disk old None new = (left : Seen) × (FailsOpening disk left) × (new ≡ FreeDisk left)

-- the volumes of a set are as if there had been no group, but for the bitmap, whose contents are gone, and the state disk is free
abbrev pub places_back : List (Place Seen) → ShadowSet → Seen → Seen → Seen → List (Place Seen)
places_back places set master shadow bitmap =
    slice_set (slice_set (slice_set places set.bitmap (Spent bitmap)) set.master (Here master)) set.shadow (place_of set.spent shadow)

-- the pending set is enabled, and the group is in memory; or that failed, and the group lies on its disks
pub record IsCommitted (set : ShadowSet) (held : IiDisks) (new : GroupView) : Type 0 where
  pub value : Unit {0}
  pub held_new : IiDisks
  pub confirms : Confirms held set.slot (Ok value) held_new
  pub is : new ≡ InMemory set held_new

pub record FailsCommit (set : ShadowSet) (held : IiDisks) (new : GroupView) : Type 0 where
  pub why : Refusal
  pub held_new : IiDisks
  pub confirms : Confirms {T = Unit {0}} held set.slot (Err why) held_new
  pub same : IsSameApart held_new
  pub is : new ≡ OnDisks set (parts_of held_new)

abbrev pub Commits : ShadowSet → IiDisks → Bool → GroupView → Type 0
Commits set held true new = IsCommitted set held new
Commits set held false new = FailsCommit set held new

-- a set waits in the group, and the commit is tried
pub record FillsGroup (places : List (Place Seen)) (set : ShadowSet) (held : IiDisks) (shadow bitmap : Seen) (done : Bool) (places_new : List (Place Seen)) (new : GroupView) : Type 0 where
  pub slot : ℕ
  pub held_mid : IiDisks
  pub enables : Enables held Dep 0 shadow bitmap slot held_mid
  pub commits : Commits (record set { slot = slot }) held_mid done new
  pub places_same : places_new ≡ places

-- or none can, and the disks of the volumes and of the state are given back
pub record FillsNone (places : List (Place Seen)) (set : ShadowSet) (held : IiDisks) (shadow bitmap : Seen) (done : Bool) (places_new : List (Place Seen)) (new : GroupView) : Type 0 where
  pub why : Refusal
  pub shadow_new : Seen
  pub bitmap_new : Seen
  pub refused : EnableRefused held Dep 0 shadow bitmap why shadow_new bitmap_new
  pub memory : why ≢ NoMemory
  pub not_done : done ≡ false
  pub back : (master : Seen) → held.volumes ≡ master ∷ [] → places_new ≡ places_back places set master shadow_new bitmap_new
  pub is : new ≡ FreeDisk held.state

abbrev pub Fills : List (Place Seen) → ShadowSet → IiDisks → Seen → Seen → Bool → List (Place Seen) → GroupView → Type 0
Fills places set held shadow bitmap done places_new new = FillsGroup places set held shadow bitmap done places_new new ⊎ FillsNone places set held shadow bitmap done places_new new

-- the places, when the disks of three are lent
abbrev pub places_lent : List (Place Seen) → Chosen → List (Place Seen)
places_lent places chosen = slice_set (slice_set (slice_set places chosen.master Lent) chosen.shadow Lent) chosen.bitmap Lent

-- the set of that name, of volumes at these places
abbrev pub set_of : List ℕ → Chosen → Bool → ShadowSet
set_of name chosen spent = record { name = name; slot = 0; master = chosen.master; shadow = chosen.shadow; bitmap = chosen.bitmap; spent = spent }

-- the disks of three places are lent to a group
pub record LendsTo (places : List (Place Seen)) (chosen : Chosen) (name : List ℕ) (held : IiDisks) (done : Bool) (places_new : List (Place Seen)) (new : GroupView) : Type 0 where
  pub three : HasThree places chosen
  pub held_mid : IiDisks
  pub adds : Adds held three.master_disk held_mid
  pub fills : Fills (places_lent places chosen) (set_of name chosen three.shadow_spent) held_mid three.shadow_disk three.bitmap_disk done places_new new
