-- How names, disks and a group hold the volumes and the groups of a state.
use Rattle.std.proofs.Common.{◌≡◌, ◌≢◌, ℕ, zero, suc, ◌+◌, ◌<◌, ◌≤◌, Bool, true, false, not, ◌==◌, Option, Some, None, List, [], ◌∷◌, length, map, refl, sym, ◌∙◌, ap, subst, inl, inr, arith}
use Rattle.std.specs.Prelude.{slice_set, if◌then◌else◌}
use Rattle.std.specs.List.{sum_by, slice_get, position, position_or_len}
use Rattle.std.specs.Option.{option_map, option_map_or}
use Rattle.std.specs.Str.{bytes_eq}
use Rattle.std.proofs.lemmas.Bool.{false≢true, cases_Bool, cond-true, cond-false, cases_eq, eqb-false, not_from_true, not_from_false}
use Rattle.std.proofs.lemmas.Bool.Decides.{nat_tests}
use Rattle.std.proofs.lemmas.Option.{slice_get-map, slice_get-get_or, slice_get_within, slice_get_past, get_or_from_slice_get, same_Some}
use Rattle.std.proofs.lemmas.List.{map-set, set-get_or, set_comm, length-map, length-set}
use Rattle.std.proofs.lemmas.List.Sums.{sum_by-set}
use Rattle.std.proofs.lemmas.Slice.Eq.{bytes_eq-Decides}
use Rattle.avs_dev.specs.Seen.{Seen}
use Rattle.avs_world.specs.Views.{one_set}
use Rattle.avs_world.specs.Ranges.{disk_here, is_gone, size_here}
use Rattle.avs_world.specs.Holds.{IsStateDisk, IsOpen}
use Rattle.avs_model.specs.Shadows.{GroupState}
use Rattle.avs_model.specs.State.{State, VolumeState, HostState, ShadowGroup, Use, Alone, MasterIn, ShadowIn, BitmapIn, first_use, or_use, use_from, use_of, volume_of, size_of, is_spent, blocks_on}
use Rattle.avs_world.specs.declared.group.Part.{Part}
use Rattle.avs_world.specs.declared.group.Part.TheVariants.{Master, Shadow, Bitmap, Plain}
use Rattle.avs_model.proofs.Volumes.{position_or_len-map, position_some, position_none, place_or_count, volume_of-place}
use Rattle.avs_ii.specs.Held.{IiDisks}
use Rattle.avs_ii.specs.Meaning.{meaning}
use Rattle.avs_ii.specs.Parts.{PartDisks, parts_of, meaning_of_parts}
use Rattle.avs_world.specs.declared.place.Place.{Place}
use Rattle.avs_world.specs.declared.place.Place.TheVariants.{Here, Spent, Lent}
use Rattle.avs_world.specs.declared.group.ShadowSet.{ShadowSet}
use Rattle.avs_world.specs.Views.{GroupView, NoGroup, FreeDisk, InMemory, OnDisks, StoreView, FourDisks, closed, SameApart}
use Rattle.avs_world.specs.Ranges.{role_in, role_by}
use Rattle.avs_world.specs.Holds.{Shown, plain, gone, kept, plain_or_gone, shown, expected, shown_with, name_at, IsNamed, IsSetOf, group_with, is_enabled, AreGroups, HoldsSet, HoldsBy, Holds, IsPhase, disks_made}

-- Elements by place.

module _ {X : Type 0} where
  -- an element that was put at a place, and at another one
  pub slice_get-set : (xs : List X) (k : ℕ) (x : X) → k < length xs → slice_get (slice_set xs k x) k ≡ Some x
  slice_get-set [] k x lt = absurd (omega arith)
  slice_get-set (y ∷ xs) zero x lt = refl
  slice_get-set (y ∷ xs) (suc k) x lt = slice_get-set xs k x (omega arith)

  pub slice_get-set_other : (xs : List X) (i j : ℕ) (x : X) → j ≢ i → slice_get (slice_set xs i x) j ≡ slice_get xs j
  slice_get-set_other [] i j x other = refl
  slice_get-set_other (y ∷ xs) zero zero x other = absurd (other refl)
  slice_get-set_other (y ∷ xs) zero (suc j) x other = refl
  slice_get-set_other (y ∷ xs) (suc i) zero x other = refl
  slice_get-set_other (y ∷ xs) (suc i) (suc j) x other = slice_get-set_other xs i j x (λ same. other (ap suc same))

  -- an element put back where it stood
  pub set_back : (xs : List X) (k : ℕ) (x : X) → slice_get xs k ≡ Some x → slice_set xs k x ≡ xs
  set_back xs k x there = ap (slice_set xs k) (sym (get_or_from_slice_get xs k x x there)) ∙ set-get_or xs k x

  -- there is an element at each place of a list
  pub element : (xs : List X) (k : ℕ) → k < length xs → (x : X) × (slice_get xs k ≡ Some x)
  element [] k lt = absurd (omega arith)
  element (x ∷ xs) zero lt = (x, refl)
  element (x ∷ xs) (suc k) lt = element xs k (omega arith)

  -- the element at the first place that passes does
  pub passes_there : (p : X → Bool) (xs : List X) (k : ℕ) (x : X) → position_or_len p xs ≡ k → slice_get xs k ≡ Some x → p x ≡ true
  passes_there p [] k x here there = let e : None ≡ Some x = there in absurd (cc)
  passes_there p (y ∷ xs) zero x here there = elim (cases_Bool (p y)) [
    | inl is ↦ ap p (sym (same_Some y x there)) ∙ is
    | inr other ↦ absurd (omega (arith, here, cond-true (not (p y)) (1 + position_or_len p xs) 0 (not_from_false (p y) other)))
  ]
  passes_there p (y ∷ xs) (suc k) x here there = elim (cases_Bool (p y)) [
    | inl is ↦ absurd (omega (arith, here, cond-false (not (p y)) (1 + position_or_len p xs) 0 (not_from_true (p y) is)))
    | inr other ↦
        passes_there p xs k x (omega (arith, here, cond-true (not (p y)) (1 + position_or_len p xs) 0 (not_from_false (p y) other))) there
  ]

-- Names.

-- the volume of a name, at its place
pub record IsVolume (host : HostState) (name : List ℕ) (k : ℕ) : Type 0 where
  pub volume : VolumeState
  pub here : place_or_count name host.volumes ≡ k
  pub there : slice_get host.volumes k ≡ Some volume
  pub named : volume_of host name ≡ Some volume
  pub within : k < length host.volumes
  pub is_name : volume.name ≡ name

module _ (names : List (List ℕ)) (host : HostState) (same : names ≡ map (λ (v : VolumeState). v.name) host.volumes) where
  pub count_names : length names ≡ length host.volumes
  count_names = ap (λ (l : List (List ℕ)). length l) same ∙ length-map host.volumes (λ (v : VolumeState). v.name)

  pub place_among : (name : List ℕ) → position_or_len (bytes_eq name) names ≡ place_or_count name host.volumes
  place_among name = ap (position_or_len (bytes_eq name)) same ∙ position_or_len-map (λ (v : VolumeState). v.name) (bytes_eq name) host.volumes

  pub volume_named : (name : List ℕ) (k : ℕ) → position (bytes_eq name) names ≡ Some k → IsVolume host name k
  volume_named name k sought =
      let some = position_some (bytes_eq name) names k sought in
      let here : place_or_count name host.volumes ≡ k = sym (place_among name) ∙ some.0 in
      let within : k < length host.volumes = omega (arith, count_names, some.1) in
      let at = element host.volumes k within in
      record {
        volume = at.0;
        here = here;
        there = at.1;
        named = volume_of-place host name k here ∙ at.1;
        within = within;
        is_name = sym ((bytes_eq-Decides name at.0.name).0 (passes_there (λ (v : VolumeState). bytes_eq name v.name) host.volumes k at.0 here at.1));
      }

  pub no_volume : (name : List ℕ) → position (bytes_eq name) names ≡ None → volume_of host name ≡ None
  no_volume name none =
      let past : length host.volumes ≤ place_or_count name host.volumes = omega (arith, count_names, place_among name, position_none (bytes_eq name) names none) in
      volume_of-place host name (place_or_count name host.volumes) refl ∙ slice_get_past host.volumes (place_or_count name host.volumes) past

  -- the name at a place is that of the volume there
  pub name_there : (k : ℕ) (v : VolumeState) → slice_get host.volumes k ≡ Some v → name_at names k ≡ v.name
  name_there k v there =
      get_or_from_slice_get names k v.name []
      (ap (λ (l : List (List ℕ)). slice_get l k) same ∙ slice_get-map (λ (w : VolumeState). w.name) host.volumes k ∙ ap (option_map (λ (w : VolumeState). w.name)) there)

-- a name is that at a place exactly where its own place is that one
pub is_at : (names : List (List ℕ)) (name : List ℕ) (k place : ℕ) → position (bytes_eq name) names ≡ Some k → IsNamed names place → bytes_eq name (name_at names place) ≡ (k == place)
is_at names name k place sought named = elim (cases_Bool (bytes_eq name (name_at names place))) [
  | inl is ↦
      let same : name ≡ name_at names place = (bytes_eq-Decides name (name_at names place)).0 is in
      let twice : Some k ≡ Some place = sym sought ∙ ap (λ (n : List ℕ). position (bytes_eq n) names) same ∙ named in
      let equal : k ≡ place = same_Some k place twice in
      is ∙ grind (arith, nat_tests)
  | inr other ↦ elim (cases_eq k place) [
    | inl equal ↦
        let some = position_some (bytes_eq name) names k sought in
        let there : slice_get names place ≡ Some (name_at names place) = slice_get-get_or names place [] (omega (arith, some.1, equal)) in
        absurd (false≢true (sym other ∙ passes_there (bytes_eq name) names place (name_at names place) (some.0 ∙ equal) there))
    | inr differ ↦ other ∙ grind (arith, nat_tests)
  ]
]

-- What is shown.

-- the volume at a place, of which that is shown
pub record VolumeAt (steady : Bool) (volumes : List VolumeState) (k : ℕ) (s : Shown) : Type 0 where
  pub volume : VolumeState
  pub there : slice_get volumes k ≡ Some volume
  pub is : s ≡ expected steady volume

module _ (steady : Bool) (volumes : List VolumeState) (shows : List Shown) (same : shows ≡ map (expected steady) volumes) where
  pub count_shown : length shows ≡ length volumes
  count_shown = ap (λ (l : List Shown). length l) same ∙ length-map volumes (expected steady)

  pub volume_shown : (k : ℕ) (s : Shown) → slice_get shows k ≡ Some s → VolumeAt steady volumes k s
  volume_shown k s read = of (slice_get volumes k) refl
    where
      both : option_map (expected steady) (slice_get volumes k) ≡ Some s
      both = sym (slice_get-map (expected steady) volumes k) ∙ ap (λ (l : List Shown). slice_get l k) (sym same) ∙ read

      of : (o : Option VolumeState) → slice_get volumes k ≡ o → VolumeAt steady volumes k s
      of None is = let e : None ≡ Some s = sym (ap (option_map (expected steady)) is) ∙ both in absurd (cc)
      of (Some v) is = let e : Some (expected steady v) ≡ Some s = sym (ap (option_map (expected steady)) is) ∙ both in record { volume = v; there = is; is = sym (same_Some (expected steady v) s e) }

-- what is shown at a place
pub shown_there : (places : List (Place Seen)) (k : ℕ) (p : Place Seen) → slice_get places k ≡ Some p → slice_get (map shown places) k ≡ Some (shown p)
shown_there places k p there = slice_get-map shown places k ∙ ap (option_map shown) there

-- no volume is shown by a disk that is not here
pub not_lent : (steady : Bool) (v : VolumeState) → shown Lent ≡ expected steady v → ⊥
not_lent steady v is = omega (arith, ap (λ (s : Shown). s.told) is, ap (λ (s : Shown). s.size) is)

-- how many blocks the disk at a place has, and whether its contents are gone
size_shown : (p : Place Seen) → option_map_or (λ d. d.size) (disk_here (Some p)) 0 ≡ (shown p).size
size_shown (Here d) = refl
size_shown (Spent d) = refl
size_shown Lent = refl

gone_shown : (p : Place Seen) → is_gone (Some p) ≡ (shown p).spent
gone_shown (Here d) = refl
gone_shown (Spent d) = refl
gone_shown Lent = refl

pub size_at : (places : List (Place Seen)) (k : ℕ) (p : Place Seen) → slice_get places k ≡ Some p → size_here places k ≡ (shown p).size
size_at places k p there = ap (λ (o : Option (Place Seen)). option_map_or (λ d. d.size) (disk_here o) 0) there ∙ size_shown p

pub gone_at : (places : List (Place Seen)) (k : ℕ) (p : Place Seen) → slice_get places k ≡ Some p → is_gone (slice_get places k) ≡ (shown p).spent
gone_at places k p there = ap is_gone there ∙ gone_shown p

-- the volume that was found under a name, and what is shown of it
pub record Found (steady : Bool) (host : HostState) (name : List ℕ) (k : ℕ) (s : Shown) : Type 0 where
  pub volume : VolumeState
  pub here : place_or_count name host.volumes ≡ k
  pub there : slice_get host.volumes k ≡ Some volume
  pub named : volume_of host name ≡ Some volume
  pub is_name : volume.name ≡ name
  pub is : s ≡ expected steady volume
  pub size : s.size ≡ size_of host name
  pub spent : s.spent ≡ is_spent host name
  pub image : s.image ≡ option_map_or (λ (v : VolumeState). v.image) (volume_of host name) []

pub found : (steady : Bool) (names : List (List ℕ)) (host : HostState) (shows : List Shown) (name : List ℕ) (k : ℕ) (s : Shown) → names ≡ map (λ (v : VolumeState). v.name) host.volumes
    → shows ≡ map (expected steady) host.volumes → position (bytes_eq name) names ≡ Some k → slice_get shows k ≡ Some s → Found steady host name k s
found steady names host shows name k s same_names same_shows sought read =
    let by_name = volume_named names host same_names name k sought in
    let by_place = volume_shown steady host.volumes shows same_shows k s read in
    let v = by_place.volume in
    let named : volume_of host name ≡ Some v = volume_of-place host name k by_name.here ∙ by_place.there in
    record {
      volume = v;
      here = by_name.here;
      there = by_place.there;
      named = named;
      is_name = ap (λ (w : VolumeState). w.name) (same_Some v by_name.volume (sym by_place.there ∙ by_name.there)) ∙ by_name.is_name;
      is = by_place.is;
      size = ap (λ (t : Shown). t.size) by_place.is ∙ sym (ap (λ (o : Option VolumeState). option_map_or (λ (w : VolumeState). w.blocks) o 0) named);
      spent = ap (λ (t : Shown). t.spent) by_place.is ∙ sym (ap (λ (o : Option VolumeState). option_map_or (λ (w : VolumeState). w.spent) o false) named);
      image = ap (λ (t : Shown). t.image) by_place.is ∙ sym (ap (λ (o : Option VolumeState). option_map_or (λ (w : VolumeState). w.image) o []) named);
    }

-- What is shown with a set.

module _ (places : List (Place Seen)) (set : ShadowSet) (disks : FourDisks) (live : Bool) where
  pub length-shown_with : length (shown_with places set disks live) ≡ length places
  length-shown_with = simp (length-set, length-map)

  pub shown_other : (k : ℕ) → k ≢ set.master → k ≢ set.shadow → k ≢ set.bitmap → slice_get (shown_with places set disks live) k ≡ slice_get (map shown places) k
  shown_other k master shadow bitmap =
      slice_get-set_other _ set.shadow k _ shadow ∙ slice_get-set_other _ set.master k _ master ∙ slice_get-set_other (map shown places) set.bitmap k (gone disks.bitmap) bitmap

  pub shown_shadow : set.shadow < length places → slice_get (shown_with places set disks live) set.shadow ≡ Some (if live then kept disks.shadow else plain_or_gone set.spent disks.shadow)
  shown_shadow lt = slice_get-set _ set.shadow _ (simp (length-set, length-map) lt)

  pub shown_master : set.master < length places → set.shadow ≢ set.master → slice_get (shown_with places set disks live) set.master ≡ Some (if live then kept disks.master else plain disks.master)
  shown_master lt differs = slice_get-set_other _ set.shadow set.master _ (λ e. differs (sym e)) ∙ slice_get-set _ set.master _ (simp (length-set, length-map) lt)

  pub shown_bitmap : set.bitmap < length places → set.bitmap ≢ set.master → set.bitmap ≢ set.shadow → slice_get (shown_with places set disks live) set.bitmap ≡ Some (gone disks.bitmap)
  shown_bitmap lt master shadow =
      slice_get-set_other _ set.shadow set.bitmap _ shadow ∙ slice_get-set_other _ set.master set.bitmap _ master ∙ slice_get-set (map shown places) set.bitmap (gone disks.bitmap) (simp length-map lt)

  -- at another place another disk
  pub shown_with-set : (k : ℕ) (p : Place Seen) → k ≢ set.master → k ≢ set.shadow → k ≢ set.bitmap
      → shown_with (slice_set places k p) set disks live ≡ slice_set (shown_with places set disks live) k (shown p)
  shown_with-set k p master shadow bitmap =
      let b : Shown = gone disks.bitmap in
      let m : Shown = if live then kept disks.master else plain disks.master in
      let s : Shown = if live then kept disks.shadow else plain_or_gone set.spent disks.shadow in
      let shows = map shown places in
      ap (λ (l : List Shown). slice_set (slice_set (slice_set l set.bitmap b) set.master m) set.shadow s) (map-set shown places k p)
      ∙ ap (λ (l : List Shown). slice_set (slice_set l set.master m) set.shadow s) (set_comm shows k set.bitmap (shown p) b bitmap)
      ∙ ap (λ (l : List Shown). slice_set l set.shadow s) (set_comm (slice_set shows set.bitmap b) k set.master (shown p) m master)
      ∙ set_comm (slice_set (slice_set shows set.bitmap b) set.master m) k set.shadow (shown p) s shadow

  -- by what is shown of the places
  pub shown_with-same : (others : List (Place Seen)) → map shown others ≡ map shown places → shown_with others set disks live ≡ shown_with places set disks live
  shown_with-same others same =
      ap (λ (l : List Shown). slice_set (slice_set (slice_set l set.bitmap (gone disks.bitmap)) set.master (if live then kept disks.master else plain disks.master))
      set.shadow (if live then kept disks.shadow else plain_or_gone set.spent disks.shadow)) same

-- the places of a set's volumes are places of disks
pub record ArePlaces (places : List (Place Seen)) (set : ShadowSet) : Type 0 where
  pub master : set.master < length places
  pub shadow : set.shadow < length places
  pub bitmap : set.bitmap < length places

-- the three volumes of a set, and what is shown of them
pub record ThreeVolumes (steady : Bool) (volumes : List VolumeState) (set : ShadowSet) (disks : FourDisks) (live : Bool) : Type 0 where
  pub master : VolumeAt steady volumes set.master (if live then kept disks.master else plain disks.master)
  pub shadow : VolumeAt steady volumes set.shadow (if live then kept disks.shadow else plain_or_gone set.spent disks.shadow)
  pub bitmap : VolumeAt steady volumes set.bitmap (gone disks.bitmap)

module _ (steady : Bool) (names : List (List ℕ)) (host : HostState) (places : List (Place Seen)) (set : ShadowSet) (disks : FourDisks) (live : Bool)
    (same : names ≡ map (λ (v : VolumeState). v.name) host.volumes) (shows : shown_with places set disks live ≡ map (expected steady) host.volumes) (set_of : IsSetOf names set) where
  pub are_places : ArePlaces places set
  are_places =
      let count : length names ≡ length places =
      count_names names host same ∙ sym (count_shown steady host.volumes (shown_with places set disks live) shows) ∙ length-shown_with places set disks live in
      record {
        master = omega (arith, count, (position_some (bytes_eq (name_at names set.master)) names set.master set_of.master_there).1);
        shadow = omega (arith, count, (position_some (bytes_eq (name_at names set.shadow)) names set.shadow set_of.shadow_there).1);
        bitmap = omega (arith, count, (position_some (bytes_eq (name_at names set.bitmap)) names set.bitmap set_of.bitmap_there).1);
      }

  pub three_volumes : ThreeVolumes steady host.volumes set disks live
  three_volumes =
      let at = are_places in
      let all = shown_with places set disks live in
      record {
        master = volume_shown steady host.volumes all shows set.master _ (shown_master places set disks live at.master set_of.shadow_differs);
        shadow = volume_shown steady host.volumes all shows set.shadow _ (shown_shadow places set disks live at.shadow);
        bitmap = volume_shown steady host.volumes all shows set.bitmap _ (shown_bitmap places set disks live at.bitmap set_of.bitmap_differs set_of.bitmap_differs_too);
      }

-- What a volume serves as.

-- the use of a volume of the one set
abbrev pub use_as : Part → Use
use_as Master = MasterIn 0 0
use_as Shadow = ShadowIn 0 0
use_as Bitmap = BitmapIn 0 0
use_as Plain = Alone

-- whether the one element of a list passes
abbrev one : Bool → Option ℕ
one b = position (λ (x : Bool). x) (b ∷ [])

use_three : (master shadow bitmap : Bool)
    → or_use (first_use 0 (one master) (one shadow) (one bitmap)) Alone ≡ use_as (if master then Master else if shadow then Shadow else if bitmap then Bitmap else Plain)
use_three true shadow bitmap = refl
use_three false true bitmap = refl
use_three false false true = refl
use_three false false false = refl

module _ (names : List (List ℕ)) (host : HostState) (set : ShadowSet) (state : GroupState) (armed : Bool) (is : host.groups ≡ group_with names set state armed ∷ []) (name : List ℕ) where
  use_by : (master shadow bitmap : Bool) → bytes_eq name (name_at names set.master) ≡ master → bytes_eq name (name_at names set.shadow) ≡ shadow → bytes_eq name (name_at names set.bitmap) ≡ bitmap
      → use_of host name ≡ use_as (if master then Master else if shadow then Shadow else if bitmap then Bitmap else Plain)
  use_by master shadow bitmap m s b =
      ap (λ (groups : List ShadowGroup). use_from 0 groups name) is ∙ (λ i. or_use (first_use 0 (one (m i)) (one (s i)) (one (b i))) Alone) ∙ use_three master shadow bitmap

  -- by its place
  pub use_in_set : (k : ℕ) → IsSetOf names set → position (bytes_eq name) names ≡ Some k → use_of host name ≡ use_as (role_in set k)
  use_in_set k set_of sought =
      use_by (k == set.master) (k == set.shadow) (k == set.bitmap) (is_at names name k set.master sought set_of.master_there)
      (is_at names name k set.shadow sought set_of.shadow_there) (is_at names name k set.bitmap sought set_of.bitmap_there)

-- without groups
pub use_alone : (host : HostState) (name : List ℕ) → host.groups ≡ [] → use_of host name ≡ Alone
use_alone host name none = ap (λ (groups : List ShadowGroup). use_from 0 groups name) none

-- A set.

module _ (steady : Bool) (names : List (List ℕ)) (places : List (Place Seen)) (set : ShadowSet) where
  -- its disks hold these volumes and groups, by whether it is enabled
  pub set_holds : (parts : PartDisks) (disks : FourDisks) (live : Bool) (state : GroupState) (volumes : List VolumeState) (groups : List ShadowGroup) → parts ≡ one_set set.slot disks → IsSetOf names set → IsStateDisk steady disks.state
      → is_enabled set parts ≡ live → shown_with places set disks live ≡ map (expected steady) volumes → AreGroups steady names set state disks.state live groups → HoldsSet steady names places set parts state volumes groups
  set_holds parts disks live state volumes groups is set_of state_disk enabled shows are = record {
    disks = disks;
    is = is;
    set_of = set_of;
    state_disk = state_disk;
    shows = ap (shown_with places set disks) enabled ∙ shows;
    are = subst (λ (b : Bool). AreGroups steady names set state disks.state b groups) (sym enabled) are;
  }

  -- what is known where it is enabled
  pub open_shows : (held : IiDisks) {state : GroupState} (volumes : List VolumeState) (groups : List ShadowGroup) → IsOpen set held → (holds : HoldsSet steady names places set (parts_of held) state volumes groups)
      → shown_with places set holds.disks true ≡ map (expected steady) volumes
  open_shows held volumes groups opened holds = ap (shown_with places set holds.disks) (sym opened.on_disk) ∙ holds.shows

  pub open_groups : (held : IiDisks) {state : GroupState} (volumes : List VolumeState) (groups : List ShadowGroup) → IsOpen set held → (holds : HoldsSet steady names places set (parts_of held) state volumes groups)
      → AreGroups steady names set state holds.disks.state true groups
  open_groups held {state} volumes groups opened holds = subst (λ (b : Bool). AreGroups steady names set state holds.disks.state b groups) opened.on_disk holds.are

-- by the group, while the host is up
use_held : (steady : Bool) (names : List (List ℕ)) (places : List (Place Seen)) (group : GroupView) (host : HostState) (name : List ℕ) (k : ℕ) → HoldsBy steady names places group host.volumes host.groups
    → IsPhase true group → position (bytes_eq name) names ≡ Some k → use_of host name ≡ use_as (role_by group k)
use_held steady names places NoGroup host name k by phase sought = use_alone host name by.1
use_held steady names places (FreeDisk disk) host name k by phase sought = use_alone host name by.1.0
use_held steady names places (InMemory set held) host name k by phase sought =
    let are = open_groups steady names places set held host.volumes host.groups by.0 by.1 in
    use_in_set names host set (meaning held) are.0 are.1 name k by.1.set_of sought
use_held steady names places (OnDisks set parts) host name k by phase sought = let e : true ≡ false = phase in absurd (false≢true (sym e))

pub use_by_place : (steady : Bool) (store : StoreView) (state : State) (name : List ℕ) (k : ℕ) → Holds steady store state → IsPhase true store.group → position (bytes_eq name) store.names ≡ Some k
    → use_of state.p name ≡ use_as (role_by store.group k)
use_by_place steady store state name k holds phase sought = use_held steady store.names store.places store.group state.p name k holds.by phase sought

-- a volume that serves as nothing in a set is none of the three
pub plain_in : (set : ShadowSet) (k : ℕ) → role_in set k ≡ Plain → (k ≢ set.master) × ((k ≢ set.shadow) × (k ≢ set.bitmap))
plain_in set k is = by (k == set.master) (k == set.shadow) (k == set.bitmap) refl refl refl is
  where
    differs : (m : ℕ) → (k == m) ≡ false → k ≢ m
    differs m fails = eqb-false k m fails

    by : (m s b : Bool) → (k == set.master) ≡ m → (k == set.shadow) ≡ s → (k == set.bitmap) ≡ b → (if m then Master else if s then Shadow else if b then Bitmap else Plain) ≡ Plain
        → (k ≢ set.master) × ((k ≢ set.shadow) × (k ≢ set.bitmap))
    by true s b at_m at_s at_b e = absurd (cc)
    by false true b at_m at_s at_b e = absurd (cc)
    by false false true at_m at_s at_b e = absurd (cc)
    by false false false at_m at_s at_b e = (differs set.master at_m, (differs set.shadow at_s, differs set.bitmap at_b))

-- How a store goes on holding a state.

-- the volumes, the groups and the count of state disks alone matter
pub holds_same_state : (steady : Bool) (store : StoreView) (s t : State) → t.p.volumes ≡ s.p.volumes → t.p.groups ≡ s.p.groups → t.p.state_disks ≡ s.p.state_disks → t.s ≡ s.s → Holds steady store s → Holds steady store t
holds_same_state steady store s t volumes groups disks other holds = record {
  same_names = holds.same_names ∙ ap (map (λ (v : VolumeState). v.name)) (sym volumes);
  same_blocks = holds.same_blocks ∙ (λ i. sum_by (λ (v : VolumeState). v.blocks) (sym volumes i) + blocks_on (sym other i));
  no_other = other ∙ holds.no_other;
  same_disks = holds.same_disks ∙ sym disks;
  by = subst (λ (gs : List ShadowGroup). HoldsBy steady store.names store.places store.group t.p.volumes gs) (sym groups)
      (subst (λ (vs : List VolumeState). HoldsBy steady store.names store.places store.group vs s.p.groups) (sym volumes) holds.by);
}

-- the group taken apart
apart_by : (steady : Bool) (names : List (List ℕ)) (places : List (Place Seen)) (group : GroupView) (volumes : List VolumeState) (groups : List ShadowGroup) → SameApart group
    → HoldsBy steady names places group volumes groups → HoldsBy steady names places (closed group) volumes groups
apart_by steady names places NoGroup volumes groups same by = by
apart_by steady names places (FreeDisk disk) volumes groups same by = by
apart_by steady names places (InMemory set held) volumes groups same by = (
  record { told = by.0.told; whole = same.whole by.0.sound },
  subst (λ (g : GroupState). HoldsSet steady names places set (parts_of held) g volumes groups) (sym same.meaning) by.1,
)
apart_by steady names places (OnDisks set parts) volumes groups same by = by

-- it has as many state disks
same_made : (group : GroupView) → disks_made (closed group) ≡ disks_made group
same_made NoGroup = refl
same_made (FreeDisk disk) = refl
same_made (InMemory set held) = refl
same_made (OnDisks set parts) = refl

pub holds_apart : (steady : Bool) (store : StoreView) (state : State) → SameApart store.group → Holds steady store state → Holds steady (record store { group = closed store.group }) state
holds_apart steady store state same holds = record {
  same_names = holds.same_names;
  same_blocks = holds.same_blocks;
  no_other = holds.no_other;
  same_disks = same_made store.group ∙ holds.same_disks;
  by = apart_by steady store.names store.places store.group state.p.volumes state.p.groups same holds.by;
}

-- it then lies on its disks
pub phase_apart : (group : GroupView) → IsPhase false (closed group)
phase_apart NoGroup = tt
phase_apart (FreeDisk disk) = tt
phase_apart (InMemory set held) = refl
phase_apart (OnDisks set parts) = refl

-- Volumes, of which one is another that has its name and its blocks.
module _ (volumes : List VolumeState) (k : ℕ) (v w : VolumeState) (there : slice_get volumes k ≡ Some v) where
  pub names-set : w.name ≡ v.name → map (λ (u : VolumeState). u.name) (slice_set volumes k w) ≡ map (λ (u : VolumeState). u.name) volumes
  names-set same =
      map-set (λ (u : VolumeState). u.name) volumes k w
      ∙ ap (slice_set (map (λ (u : VolumeState). u.name) volumes) k) same
      ∙ sym (map-set (λ (u : VolumeState). u.name) volumes k v)
      ∙ ap (map (λ (u : VolumeState). u.name)) (set_back volumes k v there)

  pub blocks-set : w.blocks ≡ v.blocks → sum_by (λ (u : VolumeState). u.blocks) (slice_set volumes k w) ≡ sum_by (λ (u : VolumeState). u.blocks) volumes
  blocks-set same =
      omega (arith, same, sum_by-set (λ (u : VolumeState). u.blocks) volumes k w v (slice_get_within volumes k v there), ap (λ (u : VolumeState). u.blocks) (get_or_from_slice_get volumes k v v there))

  -- the names and the blocks of a state of which only that changed
  pub holds_changed : (steady : Bool) (store : StoreView) (s t : State) (places : List (Place Seen)) (group : GroupView) → Holds steady store s → s.p.volumes ≡ volumes → t.p.volumes ≡ slice_set volumes k w → t.s ≡ s.s
      → w.name ≡ v.name → w.blocks ≡ v.blocks → disks_made group ≡ t.p.state_disks → HoldsBy steady store.names places group t.p.volumes t.p.groups → Holds steady (record store { places = places; group = group }) t
  holds_changed steady store s t places group holds was is other name blocks disks by = record {
    same_names = holds.same_names ∙ ap (map (λ (u : VolumeState). u.name)) was ∙ sym (names-set name) ∙ ap (map (λ (u : VolumeState). u.name)) (sym is);
    same_blocks = holds.same_blocks ∙ (λ i. (ap (sum_by (λ (u : VolumeState). u.blocks)) was ∙ sym (blocks-set blocks) ∙ ap (sum_by (λ (u : VolumeState). u.blocks)) (sym is)) i + blocks_on (sym other i));
    no_other = other ∙ holds.no_other;
    same_disks = disks;
    by = by;
  }

-- what is shown of it
pub shows-set : (steady : Bool) (shows : List Shown) (volumes : List VolumeState) (k : ℕ) (s : Shown) (w : VolumeState) → shows ≡ map (expected steady) volumes → s ≡ expected steady w
    → slice_set shows k s ≡ map (expected steady) (slice_set volumes k w)
shows-set steady shows volumes k s w same is = (λ i. slice_set (same i) k (is i)) ∙ sym (map-set (expected steady) volumes k w)

-- a disk that shows what it showed
pub shown_same : (places : List (Place Seen)) (k : ℕ) (old new : Place Seen) → slice_get places k ≡ Some old → shown new ≡ shown old → map shown (slice_set places k new) ≡ map shown places
shown_same places k old new there same =
    map-set shown places k new ∙ ap (slice_set (map shown places) k) same ∙ set_back (map shown places) k (shown old) (shown_there places k old there)

module _ (steady : Bool) (names : List (List ℕ)) (volumes : List VolumeState) (groups : List ShadowGroup) where
  -- places that show the same
  pub by_same : (places others : List (Place Seen)) (group : GroupView) → map shown others ≡ map shown places → HoldsBy steady names places group volumes groups → HoldsBy steady names others group volumes groups
  by_same places others NoGroup same by = (same ∙ by.0, by.1)
  by_same places others (FreeDisk disk) same by = (same ∙ by.0, by.1)
  by_same places others (InMemory set held) same by = (
    by.0,
    record {
      disks = by.1.disks;
      is = by.1.is;
      set_of = by.1.set_of;
      state_disk = by.1.state_disk;
      shows = shown_with-same places set by.1.disks (is_enabled set (parts_of held)) others same ∙ by.1.shows;
      are = by.1.are;
    },
  )
  by_same places others (OnDisks set parts) same by = (
    by.0,
    record {
      disks = by.1.disks;
      is = by.1.is;
      set_of = by.1.set_of;
      state_disk = by.1.state_disk;
      shows = shown_with-same places set by.1.disks (is_enabled set parts) others same ∙ by.1.shows;
      are = by.1.are;
    },
  )

  -- another disk of a volume that serves as nothing, and that volume
  module _ (places : List (Place Seen)) (k : ℕ) (p : Place Seen) (w : VolumeState) (is : shown p ≡ expected steady w) where
    set_changed : (set : ShadowSet) (parts : PartDisks) (state : GroupState) → role_in set k ≡ Plain → HoldsSet steady names places set parts state volumes groups
        → HoldsSet steady names (slice_set places k p) set parts state (slice_set volumes k w) groups
    set_changed set parts state plain holds =
        let apart = plain_in set k plain in
        record {
          disks = holds.disks;
          is = holds.is;
          set_of = holds.set_of;
          state_disk = holds.state_disk;
          shows = shown_with-set places set holds.disks (is_enabled set parts) k p apart.0 apart.1.0 apart.1.1
              ∙ shows-set steady (shown_with places set holds.disks (is_enabled set parts)) volumes k (shown p) w holds.shows is;
          are = holds.are;
        }

    pub by_changed : (group : GroupView) → role_by group k ≡ Plain → HoldsBy steady names places group volumes groups → HoldsBy steady names (slice_set places k p) group (slice_set volumes k w) groups
    by_changed NoGroup plain by = (map-set shown places k p ∙ shows-set steady (map shown places) volumes k (shown p) w by.0 is, by.1)
    by_changed (FreeDisk disk) plain by = (map-set shown places k p ∙ shows-set steady (map shown places) volumes k (shown p) w by.0 is, by.1)
    by_changed (InMemory set held) plain by = (by.0, set_changed set (parts_of held) (meaning held) plain by.1)
    by_changed (OnDisks set parts) plain by = (by.0, set_changed set parts (meaning_of_parts parts) plain by.1)

-- a store whose disks show the same
pub holds_same_shown : (steady : Bool) (store : StoreView) (state : State) (places : List (Place Seen)) → map shown places ≡ map shown store.places → Holds steady store state → Holds steady (record store { places = places }) state
holds_same_shown steady store state places same holds = record {
  same_names = holds.same_names;
  same_blocks = holds.same_blocks;
  no_other = holds.no_other;
  same_disks = holds.same_disks;
  by = by_same steady store.names state.p.volumes state.p.groups store.places places store.group same holds.by;
}

-- a store in which the disk of a volume that serves as nothing is another, and the state in which that volume is
pub holds_plain : (steady : Bool) (store : StoreView) (s t : State) (k : ℕ) (p : Place Seen) (v w : VolumeState) → Holds steady store s → role_by store.group k ≡ Plain → slice_get s.p.volumes k ≡ Some v
    → t.p.volumes ≡ slice_set s.p.volumes k w → t.p.groups ≡ s.p.groups → t.p.state_disks ≡ s.p.state_disks → t.s ≡ s.s → w.name ≡ v.name → w.blocks ≡ v.blocks → shown p ≡ expected steady w → Holds steady (record store { places = slice_set store.places k p }) t
holds_plain steady store s t k p v w holds plain there volumes groups disks other name blocks is =
    let by = by_changed steady store.names s.p.volumes s.p.groups store.places k p w is store.group plain holds.by in
    holds_changed s.p.volumes k v w there steady store s t (slice_set store.places k p) store.group holds refl volumes other name blocks (holds.same_disks ∙ sym disks)
    (subst (λ (vs : List VolumeState). HoldsBy steady store.names (slice_set store.places k p) store.group vs t.p.groups) (sym volumes)
    (subst (λ (gs : List ShadowGroup). HoldsBy steady store.names (slice_set store.places k p) store.group (slice_set s.p.volumes k w) gs) (sym groups) by))

-- the volume at a place that serves as nothing
pub plain_shown : (steady : Bool) (names : List (List ℕ)) (places : List (Place Seen)) (group : GroupView) (volumes : List VolumeState) (groups : List ShadowGroup) (k : ℕ) (p : Place Seen)
    → HoldsBy steady names places group volumes groups → role_by group k ≡ Plain → slice_get places k ≡ Some p → (shows : List Shown) × ((shows ≡ map (expected steady) volumes) × (slice_get shows k ≡ Some (shown p)))
plain_shown steady names places NoGroup volumes groups k p by plain there = (map shown places, (by.0, shown_there places k p there))
plain_shown steady names places (FreeDisk disk) volumes groups k p by plain there = (map shown places, (by.0, shown_there places k p there))
plain_shown steady names places (InMemory set held) volumes groups k p by plain there =
    let apart = plain_in set k plain in
    let live = is_enabled set (parts_of held) in
    (shown_with places set by.1.disks live, (by.1.shows, shown_other places set by.1.disks live k apart.0 apart.1.0 apart.1.1 ∙ shown_there places k p there))
plain_shown steady names places (OnDisks set parts) volumes groups k p by plain there =
    let apart = plain_in set k plain in
    let live = is_enabled set parts in
    (shown_with places set by.1.disks live, (by.1.shows, shown_other places set by.1.disks live k apart.0 apart.1.0 apart.1.1 ∙ shown_there places k p there))

-- the volume that was found under a name, where it serves as nothing
pub found_plain : (steady : Bool) (store : StoreView) (state : State) (name : List ℕ) (k : ℕ) (p : Place Seen) → Holds steady store state → role_by store.group k ≡ Plain → position (bytes_eq name) store.names ≡ Some k
    → slice_get store.places k ≡ Some p → Found steady state.p name k (shown p)
found_plain steady store state name k p holds plain sought there =
    let shows = plain_shown steady store.names store.places store.group state.p.volumes state.p.groups k p holds.by plain there in
    found steady store.names state.p shows.0 name k (shown p) holds.same_names shows.1.0 sought shows.1.1
