-- What a read keeps of a store: which ranges are reached, and the disks that are there.
use Rattle.std.proofs.Common.{◌≡◌, ◌⊎◌, inl, inr, ℕ, zero, suc, ◌≤◌, Bool, true, Option, None, Some, List, [], ◌∷◌, length, map, refl, sym, ◌∙◌, ap, arith}
use Rattle.std.specs.Prelude.{filter, find, is_some, slice_index, slice_index_or, slice_set, ◌||◌, ◌==◌}
use Rattle.std.specs.List.{slice_get}
use Rattle.std.specs.Option.{option_map, option_map_or}
use Rattle.std.proofs.lemmas.Bool.{cases_Bool, cases_eq, cond-true, cond-false}
use Rattle.std.proofs.lemmas.List.{length-map, length-set}
use Rattle.std.proofs.lemmas.Option.{get_or_from_slice_get, slice_get_within}
use Rattle.avs_dev.specs.Devices.{NoneFell}
use Rattle.avs_dev.specs.Seen.{Seen}
use Rattle.avs_code.specs.declared.slot_table.Slot.{Slot}
use Rattle.avs_code.specs.declared.group_blocks.GroupBlock.{GroupBlock}
use Rattle.avs_ii.specs.Held.{HeldSet, IiDisks, disks_of, is_live, set_at}
use Rattle.avs_ii.specs.Shape.{DiskShape, SetShape, GroupShape, disk_shape, set_shape, shape_of}
use Rattle.avs_ii.specs.Calls.{faults_of}
use Rattle.avs_world.specs.declared.group.Part.{Part}
use Rattle.avs_world.specs.declared.group.Part.TheVariants.{Master, Shadow, Bitmap, Plain}
use Rattle.avs_world.specs.declared.group.ShadowSet.{ShadowSet}
use Rattle.avs_world.specs.declared.place.Place.{Place}
use Rattle.avs_world.specs.declared.place.Place.TheVariants.{Here, Spent, Lent}
use Rattle.avs_world.specs.declared.ranges.Target.{Target}
use Rattle.avs_world.specs.Views.{GroupView, InMemory, StoreView}
use Rattle.avs_world.specs.Ranges.{role_by, disk_here, is_gone, size_here, group_size_of, group_size, reach_by, reach, IsReached}
use Rattle.avs_world.specs.Places.{places_with, with_disk}
use Rattle.avs_world.specs.Causes.{DiskName, AtPlace, InGroup, group_disks, was_there, DisksLast}
use Rattle.avs_world.specs.Causes as world
use Rattle.avs_world.proofs.Holding.{slice_get-set, slice_get-set_other}
use Rattle.avs_world.proofs.Staying.{count_at}

-- ---- a disk of the shelf

-- where a disk is
cases_here : (o : Option (Place Seen)) (d : Seen) → disk_here o ≡ Some d → (o ≡ Some (Here d)) ⊎ (o ≡ Some (Spent d))
cases_here None d is = absurd (cc)
cases_here (Some (Here x)) d is = inl (ap (λ (y : Seen). Some (Here y)) (cc))
cases_here (Some (Spent x)) d is = inr (ap (λ (y : Seen). Some (Spent y)) (cc))
cases_here (Some Lent) d is = absurd (cc)

module _ (places : List (Place Seen)) (k : ℕ) (d d' : Seen) (is : disk_here (slice_get places k) ≡ Some d) where
  placed_as : (p : Place Seen) → slice_get places k ≡ Some p → slice_get (places_with places k d') k ≡ Some (with_disk p d')
  placed_as p there =
      ap (λ (q : Place Seen). slice_get (slice_set places k (with_disk q d')) k) (get_or_from_slice_get places k p Lent there)
      ∙ slice_get-set places k (with_disk p d') (slice_get_within places k p there)

  placed_disk : disk_here (slice_get (places_with places k d') k) ≡ Some d'
  placed_disk = elim (cases_here (slice_get places k) d is) [
    | inl here ↦ ap disk_here (placed_as (Here d) here)
    | inr spent ↦ ap disk_here (placed_as (Spent d) spent)
  ]

  placed_gone : is_gone (slice_get (places_with places k d') k) ≡ is_gone (slice_get places k)
  placed_gone = elim (cases_here (slice_get places k) d is) [
    | inl here ↦ ap is_gone (placed_as (Here d) here) ∙ sym (ap is_gone here)
    | inr spent ↦ ap is_gone (placed_as (Spent d) spent) ∙ sym (ap is_gone spent)
  ]

  other_disk : (j : ℕ) → (j ≡ k → ⊥) → disk_here (slice_get (places_with places k d') j) ≡ disk_here (slice_get places j)
  other_disk j other = ap disk_here (slice_get-set_other places k j _ other)

-- what is told of a disk that is there
told_of : (o : Option Seen) (d : Seen) → o ≡ Some d → (is_some o ≡ true) × (option_map_or (λ (x : Seen). x.faults) o 0 ≡ d.faults)
told_of o d is = (ap is_some is, ap (λ (x : Option Seen). option_map_or (λ (y : Seen). y.faults) x 0) is)

-- a disk is read whose size stays, and whose faults do not fall
module _ (old : StoreView) (k : ℕ) (d d' : Seen) (is : disk_here (slice_get old.places k) ≡ Some d) (size : d'.size ≡ d.size) (later : d.faults ≤ d'.faults) where
  abbrev new_store : StoreView
  new_store = record old { places = places_with old.places k d' }

  there_still : (name : DiskName) → was_there new_store name ≡ was_there old name
  there_still (InGroup number) = refl
  there_still (AtPlace j) = elim (cases_eq j k) [
    | inl same ↦
        ap (λ (n : ℕ). is_some (disk_here (slice_get new_store.places n))) same
        ∙ (told_of _ d' (placed_disk old.places k d d' is)).0
        ∙ sym (told_of _ d is).0
        ∙ ap (λ (n : ℕ). is_some (disk_here (slice_get old.places n))) (sym same)
    | inr other ↦ ap is_some (other_disk old.places k d d' is j other)
  ]

  faults_still : (name : DiskName) → world.faults_of old name ≤ world.faults_of new_store name
  faults_still (InGroup number) = omega arith
  faults_still (AtPlace j) = elim (cases_eq j k) [
    | inl same ↦
        let before : world.faults_of old (AtPlace j) ≡ d.faults = ap (λ (n : ℕ). world.faults_of old (AtPlace n)) same ∙ (told_of _ d is).1 in
        let after : world.faults_of new_store (AtPlace j) ≡ d'.faults = ap (λ (n : ℕ). world.faults_of new_store (AtPlace n)) same ∙ (told_of _ d' (placed_disk old.places k d d' is)).1 in
        omega (arith, before, after, later)
    | inr other ↦
        let same : world.faults_of new_store (AtPlace j) ≡ world.faults_of old (AtPlace j) = ap (λ (o : Option Seen). option_map_or (λ (x : Seen). x.faults) o 0) (other_disk old.places k d d' is j other) in
        omega (arith, same)
  ]

  pub plain_lasts : DisksLast old new_store
  plain_lasts = record { there = there_still; later = faults_still }

  size_still : size_here new_store.places k ≡ size_here old.places k
  size_still =
      ap (λ (o : Option Seen). option_map_or (λ (x : Seen). x.size) o 0) (placed_disk old.places k d d' is)
      ∙ size
      ∙ sym (ap (λ (o : Option Seen). option_map_or (λ (x : Seen). x.size) o 0) is)

  pub plain_reached : (target : Target) (from len : ℕ) → target.role ≡ Plain → target.place ≡ k → IsReached old target from len → IsReached new_store target from len
  plain_reached target from len role place reached =
      let sizes : size_here new_store.places target.place ≡ size_here old.places target.place =
      ap (size_here new_store.places) place ∙ size_still ∙ sym (ap (size_here old.places) place) in
      let same : reach new_store target ≡ reach old target = ap (reach_by new_store target.place) role ∙ sizes ∙ sym (ap (reach_by old target.place) role) in
      record {
        there = omega (arith, reached.there, length-set old.places k (with_disk (slice_index_or old.places k Lent) d'));
        is = reached.is;
        some = reached.some;
        whole = reached.whole;
        inside = omega (arith, reached.inside, same);
        filled = λ is_plain.
            ap (λ (n : ℕ). is_gone (slice_get new_store.places n)) place
            ∙ placed_gone old.places k d d' is
            ∙ sym (ap (λ (n : ℕ). is_gone (slice_get old.places n)) place)
            ∙ reached.filled is_plain;
      }

-- ---- a group

module _ {X Y : Type 0} (f : X → Y) (p : Y → Bool) where
  filter_mapped : (xs : List X) → filter p (map f xs) ≡ map f (filter (λ x. p (f x)) xs)
  filter_mapped [] = refl
  filter_mapped (x ∷ xs) = elim (cases_Bool (p (f x))) [
    | inl so ↦
        cond-true (p (f x)) (f x ∷ filter p (map f xs)) (filter p (map f xs)) so
        ∙ ap (λ (l : List Y). f x ∷ l) (filter_mapped xs)
        ∙ sym (ap (map f) (cond-true (p (f x)) (x ∷ filter (λ x. p (f x)) xs) (filter (λ x. p (f x)) xs) so))
    | inr other ↦
        cond-false (p (f x)) (f x ∷ filter p (map f xs)) (filter p (map f xs)) other
        ∙ filter_mapped xs
        ∙ sym (ap (map f) (cond-false (p (f x)) (x ∷ filter (λ x. p (f x)) xs) (filter (λ x. p (f x)) xs) other))
  ]

  find_mapped : (xs : List X) → find p (map f xs) ≡ option_map f (find (λ x. p (f x)) xs)
  find_mapped [] = refl
  find_mapped (x ∷ xs) = elim (cases_Bool (p (f x))) [
    | inl so ↦
        cond-true (p (f x)) (Some (f x)) (find p (map f xs)) so
        ∙ sym (ap (option_map f) (cond-true (p (f x)) (Some x) (find (λ x. p (f x)) xs) so))
    | inr other ↦
        cond-false (p (f x)) (Some (f x)) (find p (map f xs)) other
        ∙ find_mapped xs
        ∙ sym (ap (option_map f) (cond-false (p (f x)) (Some x) (find (λ x. p (f x)) xs) other))
  ]

-- the blocks of the enabled set with that slot, by the shapes of the sets
abbrev shaped_blocks : List Slot → List SetShape → ℕ → ℕ
shaped_blocks slots shapes slot = option_map_or (λ (s : SetShape). s.blocks) (find (λ (s : SetShape). s.slot == slot) (filter (λ (s : SetShape). is_live slots s.slot) shapes)) 0

set_blocks : (held : IiDisks) (slot : ℕ) → option_map_or (λ (s : HeldSet). s.chunks.blocks) (set_at held slot) 0 ≡ shaped_blocks held.block.slots (shape_of held).sets slot
set_blocks held slot =
    by_shape (set_at held slot)
    ∙ ap blocks (sym (find_mapped set_shape (λ (s : SetShape). s.slot == slot) (filter (λ (s : HeldSet). is_live held.block.slots s.slot) held.sets)))
    ∙ ap (λ (shapes : List SetShape). blocks (find (λ (s : SetShape). s.slot == slot) shapes)) (sym (filter_mapped set_shape (λ (s : SetShape). is_live held.block.slots s.slot) held.sets))
  where
    blocks : Option SetShape → ℕ
    blocks o = option_map_or (λ (s : SetShape). s.blocks) o 0

    by_shape : (o : Option HeldSet) → option_map_or (λ (s : HeldSet). s.chunks.blocks) o 0 ≡ blocks (option_map set_shape o)
    by_shape None = refl
    by_shape (Some s) = refl

-- the size of the first volume, by the shapes of the volumes
first_size : (volumes : List Seen) → option_map_or (λ (v : Seen). v.size) (slice_get volumes 0) 0 ≡ option_map_or (λ (s : DiskShape). s.size) (slice_get (map disk_shape volumes) 0) 0
first_size [] = refl
first_size (v ∷ volumes) = refl

-- a group whose shape and block stay has as many blocks
module _ (set : ShadowSet) (held held_new : IiDisks) (shape : shape_of held_new ≡ shape_of held) (block : held_new.block ≡ held.block) where
  sizes_still : (role : Part) → group_size_of set held_new role ≡ group_size_of set held role
  sizes_still Master =
      first_size held_new.volumes
      ∙ ap (λ (s : GroupShape). option_map_or (λ (v : DiskShape). v.size) (slice_get s.volumes 0) 0) shape
      ∙ sym (first_size held.volumes)
  sizes_still Shadow =
      set_blocks held_new set.slot
      ∙ ap (λ (b : GroupBlock). shaped_blocks b.slots (shape_of held_new).sets set.slot) block
      ∙ ap (λ (s : GroupShape). shaped_blocks held.block.slots s.sets set.slot) shape
      ∙ sym (set_blocks held set.slot)
  sizes_still Bitmap = refl
  sizes_still Plain = refl

  module _ (old : StoreView) (group : GroupView) (was : old.group ≡ InMemory set held) (now : group ≡ InMemory set held_new) where
    sizes_as : (role : Part) → group_size group role ≡ group_size old.group role
    sizes_as role = ap (λ (g : GroupView). group_size g role) now ∙ sizes_still role ∙ sym (ap (λ (g : GroupView). group_size g role) was)

    reach_still : (place : ℕ) (role : Part) → reach_by (record old { group = group }) place role ≡ reach_by old place role
    reach_still place Plain = refl
    reach_still place Master = sizes_as Master
    reach_still place Shadow = sizes_as Shadow
    reach_still place Bitmap = sizes_as Bitmap

    pub group_reached : (target : Target) (from len : ℕ) → IsReached old target from len → IsReached (record old { group = group }) target from len
    group_reached target from len reached = record {
      there = reached.there;
      is = reached.is ∙ ap (λ (g : GroupView). role_by g target.place) was ∙ sym (ap (λ (g : GroupView). role_by g target.place) now);
      some = reached.some;
      whole = reached.whole;
      inside = omega (arith, reached.inside, reach_still target.place target.role);
      filled = reached.filled;
    }

there_by_length : (xs ys : List Seen) (n : ℕ) → length xs ≡ length ys → is_some (slice_get xs n) ≡ is_some (slice_get ys n)
there_by_length [] [] n same = refl
there_by_length [] (y ∷ ys) n same = absurd (omega (arith, same))
there_by_length (x ∷ xs) [] n same = absurd (omega (arith, same))
there_by_length (x ∷ xs) (y ∷ ys) zero same = refl
there_by_length (x ∷ xs) (y ∷ ys) (suc n) same = there_by_length xs ys n (omega (arith, same))

-- a group's disks last, where none of their counts fell
pub group_lasts : (set : ShadowSet) (held held_new : IiDisks) (old : StoreView) (group : GroupView) → old.group ≡ InMemory set held → group ≡ InMemory set held_new → NoneFell (faults_of held) (faults_of held_new)
    → DisksLast old (record old { group = group })
group_lasts set held held_new old group was now fell = record { there = there_still; later = faults_still }
  where
    before : List Seen
    before = disks_of held

    after : List Seen
    after = disks_of held_new

    count : length after ≡ length before
    count = sym (length-map after (λ (d : Seen). d.faults)) ∙ fell.same_length ∙ length-map before (λ (d : Seen). d.faults)

    there_still : (name : DiskName) → was_there (record old { group = group }) name ≡ was_there old name
    there_still (AtPlace place) = refl
    there_still (InGroup number) =
        ap (λ (b : Bool). number == 0 || b)
        (ap (λ (g : GroupView). is_some (slice_get (group_disks g) number)) now
        ∙ there_by_length after before number count
        ∙ sym (ap (λ (g : GroupView). is_some (slice_get (group_disks g) number)) was))

    counted : (store : StoreView) (disks : List Seen) (number : ℕ) → group_disks store.group ≡ disks → world.faults_of store (InGroup number) ≡ slice_index (map (λ (d : Seen). d.faults) disks) number
    counted store disks number is = ap (λ (l : List Seen). option_map_or (λ (d : Seen). d.faults) (slice_get l number) 0) is ∙ sym (count_at (λ (d : Seen). d.faults) disks number)

    faults_still : (name : DiskName) → world.faults_of old name ≤ world.faults_of (record old { group = group }) name
    faults_still (AtPlace place) = omega arith
    faults_still (InGroup number) =
        let old_is = counted old before number (ap group_disks was) in
        let new_is = counted (record old { group = group }) after number (ap group_disks now) in
        omega (arith, old_is, new_is, fell.each number)
