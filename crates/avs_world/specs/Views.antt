-- What contracts see of a world: names, where the disk of each volume is, and the disks of the group.
use Rattle.std.specs.Prelude.{◌≡◌, ℕ, ◌∷◌, [], List, map, None, Some}
use Rattle.avs_dev.specs.Seen.{Seen}
use Rattle.avs_model.specs.declared.shadow.Kind.TheVariants.{Dep}
use Rattle.avs_ii.specs.Held.{IiDisks, disks_of}
use Rattle.avs_ii.specs.Meaning.{meaning}
use Rattle.avs_ii.specs.Parts.{PartDisks, part_disks, parts_of, meaning_of_parts}
use Rattle.avs_ii.specs.Sound.{IsSound}
use Rattle.avs_ii.specs.Making.{AreWhole, disks_in}
use Rattle.avs_world.specs.declared.place.Place.{Place}
use Rattle.avs_world.specs.declared.place.Place.TheVariants as place
use Rattle.avs_world.specs.declared.group.ShadowSet.{ShadowSet}
use Rattle.avs_world.specs.declared.group.Group.{Group}
use Rattle.avs_world.specs.declared.group.Group.TheVariants as group
use Rattle.avs_world.specs.declared.place.Shelf.{Shelf}
use Rattle.avs_world.specs.declared.world.World.{World}

-- a place, with what is seen of its disk
abbrev pub place_view : {D : Type 0} → (D → Seen) → Place D → Place Seen
place_view seen (place.Here disk) = place.Here (seen disk)
place_view seen (place.Spent disk) = place.Spent (seen disk)
place_view seen place.Lent = place.Lent

-- the group: none was ever there; none is, and a state disk is free; it is in memory; or it lies on its disks
pub data GroupView : Type 0 where
  NoGroup : GroupView
  FreeDisk : Seen → GroupView
  InMemory : ShadowSet → IiDisks → GroupView
  OnDisks : ShadowSet → PartDisks → GroupView

abbrev pub group_view : {D : Type 0} → (D → Seen) → Group D → GroupView
group_view seen group.None = NoGroup
group_view seen (group.Free disk) = FreeDisk (seen disk)
group_view seen (group.Open set held) = InMemory set held
group_view seen (group.Closed set parts) = OnDisks set (part_disks seen parts)

-- the names of the volumes in order of making, the places of their disks, the blocks of all, and the group
pub record StoreView : Type 0 where
  pub names : List (List ℕ)
  pub places : List (Place Seen)
  pub blocks : ℕ
  pub group : GroupView

abbrev pub names_of : {D : Type 0} → Shelf D → List (List ℕ)
names_of shelf = map (λ name. name.items) shelf.names.keys

abbrev pub places_of : {D : Type 0} → (D → Seen) → Shelf D → List (Place Seen)
places_of seen shelf = map (place_view seen) shelf.places.items

abbrev pub store_view : {D : Type 0} → (D → Seen) → Shelf D → Group D → StoreView
store_view seen shelf group = record { names = names_of shelf; places = places_of seen shelf; blocks = shelf.blocks; group = group_view seen group }

abbrev pub view_of : {D : Type 0} → (D → Seen) → World D → StoreView
view_of seen world = store_view seen world.shelf world.group

-- the disks of a group with one set: of its state, of its master, of its shadow, and of its bitmap
pub record FourDisks : Type 0 where
  pub state : Seen
  pub master : Seen
  pub shadow : Seen
  pub bitmap : Seen

-- such a group, as parts
abbrev pub one_set : ℕ → FourDisks → PartDisks
one_set slot disks = record {
  state = disks.state;
  volumes = disks.master ∷ [];
  sets = record { slot = slot; kind = Dep; master = 0; shadow = Some disks.shadow; bitmap = disks.bitmap; over = None } ∷ [];
  overs = [];
}

-- the group taken apart
abbrev pub closed : GroupView → GroupView
closed NoGroup = NoGroup
closed (FreeDisk disk) = FreeDisk disk
closed (InMemory set held) = OnDisks set (parts_of held)
closed (OnDisks set parts) = OnDisks set parts

-- what a group stands for is the same when it is taken apart, with the same disks, and where it is sound it can be found again
pub record IsSameApart (held : IiDisks) : Type 0 where
  pub meaning : meaning_of_parts (parts_of held) ≡ meaning held
  pub disks : disks_in (parts_of held) ≡ disks_of held
  pub whole : IsSound held → AreWhole (parts_of held)

abbrev pub SameApart : GroupView → Type 0
SameApart NoGroup = Unit {0}
SameApart (FreeDisk disk) = Unit {0}
SameApart (InMemory set held) = IsSameApart held
SameApart (OnDisks set parts) = Unit {0}
