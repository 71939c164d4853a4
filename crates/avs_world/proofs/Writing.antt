-- What writing blocks of a volume makes of a store.
use Rattle.std.proofs.Common.{◌≡◌, ℕ, Bool, true, false, ◌&&◌, Option, Some, Ok, Err, List, [], map, refl, sym, ◌∙◌, ap, subst, inl, inr}
use Rattle.std.specs.Prelude.{Result, slice_set, nat_lt}
use Rattle.std.specs.List.{slice_get}
use Rattle.std.specs.Option.{option_map, option_map_or}
use Rattle.std.proofs.lemmas.Bool.{cases_Bool, false≢true, not-true}
use Rattle.avs_seg.specs.Image.{Image, blocks_of, put, IsMix}
use Rattle.avs_dev.specs.Seen.{Seen, IsTold, Writes}
use Rattle.avs_model.specs.State.{State, VolumeState, ShadowGroup, Use, Alone, OfVolume, use_from, use_of, volume_of, image_by, image_of, reach_by, with_armed, with_image}
use Rattle.avs_model.specs.Stages.{write_stages, after_stages, StoppedIn}
use Rattle.avs_model.specs.Right.{IsWrittenWith}
use Rattle.avs_model.specs.declared.event.Host.TheVariants.{P}
use Rattle.avs_world.specs.declared.group.Part.TheVariants.{Plain}
use Rattle.avs_model.proofs.Volumes.{with_volume_of-place, volume_of-changed, changed_twice}
use Rattle.avs_world.specs.declared.place.Place.{Place}
use Rattle.avs_world.specs.declared.place.Place.TheVariants.{Here}
use Rattle.avs_world.specs.declared.ranges.Target.{Target}
use Rattle.avs_world.specs.Views.{GroupView, NoGroup, FreeDisk, InMemory, OnDisks, StoreView, closed, SameApart}
use Rattle.avs_world.specs.Ranges.{role_by, disk_here, IsReached}
use Rattle.avs_world.specs.Places.{WritesPlace, places_with}
use Rattle.avs_world.specs.Holds.{Shown, plain, expected, HoldsBy, Holds, IsPhase}
use Rattle.avs_world.specs.Calls.{IsOf, StopsWrite, SamePlace, IsEnabled, WritesOpen}
use Rattle.avs_world.proofs.Holding.{holds_plain, holds_apart}
use Rattle.avs_world.proofs.SamePlaces.{look, looks_same, size_same, same_place}
use Rattle.avs_world.proofs.Reading.{FoundPlain, plain_volume, place_filled, changed_place, here_still, rose_at}

-- a disk that a write left, with this image, as this volume is then marked
plain_written : {T E : Type 0} (steady : Bool) (at : ℕ) (bytes : List ℕ) (result : Result T E) (d d' : Seen) (v : VolumeState) (image : Image) (armed : Bool) → plain d ≡ expected steady v → IsTold d → Writes d at bytes result d' → d'.image ≡ image
    → (d'.steady && d'.armed) ≡ (steady && armed) → plain d' ≡ expected steady (record v { image = image; armed = armed })
plain_written steady at bytes result d d' v image armed shows told writes is marked =
    let size : d'.size ≡ v.blocks = writes.size ∙ ap (λ (s : Shown). s.size) shows in
    λ i. record {
      image = is i;
      spent = (ap (λ (s : Shown). s.spent) shows) i;
      told = (writes.told told ∙ size) i;
      size = size i;
      some = (ap (λ (n : ℕ). nat_lt 0 n) writes.size ∙ ap (λ (s : Shown). s.some) shows) i;
      steady = (writes.steady ∙ ap (λ (s : Shown). s.steady) shows) i;
      armed = marked i;
    }

-- A volume that serves as nothing.
module _ (old : StoreView) (places : List (Place Seen)) (target : Target) (at len : ℕ) (bytes : List ℕ) (role : target.role ≡ Plain) (reached : IsReached old target at len) (steady : Bool) (state : State) (name : List ℕ)
    (holds : Holds steady old state) (sought : IsOf old target name) where
  abbrev k : ℕ
  k = target.place

  abbrev bs : Image
  bs = blocks_of bytes

  abbrev new : StoreView
  new = record old { places = places }

  by_role : role_by old.group k ≡ Plain
  by_role = sym reached.is ∙ role

  module _ (disk disk_new : Seen) (disk_is : disk_here (slice_get old.places k) ≡ Some disk) (is : places ≡ places_with old.places k disk_new) where
    volume : FoundPlain steady state name k disk
    volume = plain_volume steady old state target name at len disk role reached holds sought disk_is

    abbrev v : VolumeState
    v = volume.found.volume

    places_are : places ≡ slice_set old.places k (Here disk_new)
    places_are = is ∙ changed_place old.places k disk disk_new (place_filled (slice_get old.places k) disk disk_is (reached.filled role))

    -- the store holds a state in which that volume is so
    holds_volume : (t : State) (w : VolumeState) → t.p.volumes ≡ slice_set state.p.volumes k w → t.p.groups ≡ state.p.groups → t.p.state_disks ≡ state.p.state_disks → t.s ≡ state.s → w.name ≡ v.name → w.blocks ≡ v.blocks → plain disk_new ≡ expected steady w → Holds steady new t
    holds_volume t w volumes groups disks other name_is blocks shows =
        subst (λ (ps : List (Place Seen)). Holds steady (record old { places = ps }) t) (sym places_are)
        (holds_plain steady old state t k (Here disk_new) v w holds by_role volume.found.there volumes groups disks other name_is blocks shows)

    -- it is done
    pub plain_done : {T E : Type 0} (x : T) → Writes {T = T} {E = E} disk at bytes (Ok x) disk_new → Holds steady new (after_stages state (write_stages state.p P name at bs (use_of state.p name)))
    plain_done {T} {E} x writes =
        let image = put (image_of state.p name) at bs in
        let image_is : disk_new.image ≡ image = writes.done volume.told ∙ ap (λ (i : Image). put i at bs) volume.image in
        let marked : (disk_new.steady && disk_new.armed) ≡ (steady && v.armed) =
        (λ i. writes.steady i && writes.still_armed i) ∙ ap (λ (s : Shown). s.armed) volume.found.is in
        let shows = plain_written {T = T} {E = E} steady at bytes (Ok x) disk disk_new v image v.armed volume.found.is volume.told writes image_is marked in
        subst (λ (u : Use). Holds steady new (after_stages state (write_stages state.p P name at bs u))) (sym volume.alone)
        (holds_volume (with_image state P name image) (record v { image = image })
        (with_volume_of-place state.p.volumes name (λ w. record w { image = image }) k v volume.found.here volume.found.there) refl refl refl refl refl shows)

    -- it is stopped: the volume has such an image, and no tear is armed on it any more where it was met
    module _ {T E : Type 0} (e : E) (writes : Writes {T = T} {E = E} disk at bytes (Err e) disk_new) where
      abbrev show : VolumeState → VolumeState
      show w = record w { image = disk_new.image }

      abbrev unarm : VolumeState → VolumeState
      unarm w = record w { armed = false }

      mix : IsMix (image_of state.p name) at bs disk_new.image
      mix = subst (λ (i : Image). IsMix i at bs disk_new.image) volume.image (writes.failed volume.told)

      stopped_at : (mid : State) → mid.p.groups ≡ state.p.groups → image_of mid.p name ≡ image_of state.p name → StoppedIn mid (write_stages mid.p P name at bs (use_of mid.p name)) (with_image mid P name disk_new.image)
      stopped_at mid groups image =
          let alone : use_of mid.p name ≡ Alone = ap (λ (gs : List ShadowGroup). use_from 0 gs name) groups ∙ volume.alone in
          subst (λ (u : Use). StoppedIn mid (write_stages mid.p P name at bs u) (with_image mid P name disk_new.image)) (sym alone)
          (inr (inl (disk_new.image, subst (λ (i : Image). IsMix i at bs disk_new.image) (sym image) mix, refl)))

      -- the range is there still
      place_at : (left : State) → left.p.groups ≡ state.p.groups → map look left.p.volumes ≡ map look state.p.volumes → SamePlace name state left
      place_at left groups same =
          let used : use_of left.p name ≡ use_of state.p name = ap (λ (gs : List ShadowGroup). use_from 0 gs name) groups in
          let alone : use_of left.p name ≡ Alone = used ∙ volume.alone in
          same_place state left name same used (ap (reach_by left.p name) alone ∙ size_same state left name same ∙ sym (ap (reach_by state.p name) volume.alone))

      stopped_steady : steady ≡ true → StopsWrite steady state name at bs new
      stopped_steady is_steady =
          let spent = writes.spent (volume.steady_is ∙ is_steady) in
          let was_armed : v.armed ≡ true =
          sym (λ i. is_steady i && v.armed) ∙ sym (ap (λ (s : Shown). s.armed) volume.found.is) ∙ (λ i. (volume.steady_is ∙ is_steady) i && spent.was_armed i) in
          let marked : (disk_new.steady && disk_new.armed) ≡ (steady && false) = λ i. (writes.steady ∙ volume.steady_is) i && not-true disk_new.armed spent.is_used i in
          let shows = plain_written {T = T} {E = E} steady at bytes (Err e) disk disk_new v disk_new.image false volume.found.is volume.told writes refl marked in
          let mid = with_armed state P (OfVolume name) false in
          let in_mid : volume_of mid.p name ≡ Some (unarm v) = volume_of-changed name unarm (λ w. refl) state.p.volumes ∙ ap (option_map unarm) volume.found.named in
          let mid_image : image_of mid.p name ≡ image_of state.p name =
          ap (image_by mid.p name) volume.alone ∙ ap (λ (o : Option VolumeState). option_map_or (λ (w : VolumeState). w.image) o []) in_mid
          ∙ sym (ap (image_by state.p name) volume.alone ∙ ap (λ (o : Option VolumeState). option_map_or (λ (w : VolumeState). w.image) o []) volume.found.named) in
          record {
            mid = mid;
            tear = inl (
              OfVolume name,
              subst (λ (u : Use). IsWrittenWith state.p u name name) (sym volume.alone) refl,
              ap (λ (o : Option VolumeState). option_map_or (λ (w : VolumeState). w.armed) o false) volume.found.named ∙ was_armed,
              refl,
            );
            left = with_image mid P name disk_new.image;
            stopped = stopped_at mid refl mid_image;
            holds = holds_volume (with_image mid P name disk_new.image) (show (unarm v))
                (changed_twice name unarm (λ w. refl) state.p.volumes show ∙ with_volume_of-place state.p.volumes name (λ w. show (unarm w)) k v volume.found.here volume.found.there) refl refl refl refl refl shows;
            place = place_at (with_image mid P name disk_new.image) refl
                (looks_same mid.p.volumes name show (λ w. refl) ∙ looks_same state.p.volumes name unarm (λ w. refl));
          }

      stopped_other : steady ≡ false → StopsWrite steady state name at bs new
      stopped_other other =
          let marked : (disk_new.steady && disk_new.armed) ≡ (steady && v.armed) =
          (λ i. (writes.steady ∙ volume.steady_is ∙ other) i && disk_new.armed) ∙ sym (λ i. other i && v.armed) in
          let shows = plain_written {T = T} {E = E} steady at bytes (Err e) disk disk_new v disk_new.image v.armed volume.found.is volume.told writes refl marked in
          record {
            mid = state;
            tear = inr (other, refl);
            left = with_image state P name disk_new.image;
            stopped = stopped_at state refl refl;
            holds = holds_volume (with_image state P name disk_new.image) (show v) (with_volume_of-place state.p.volumes name show k v volume.found.here volume.found.there) refl refl refl refl refl shows;
            place = place_at (with_image state P name disk_new.image) refl (looks_same state.p.volumes name show (λ w. refl));
          }

      pub plain_stopped : StopsWrite steady state name at bs new
      plain_stopped = elim (cases_Bool steady) [ inl is ↦ stopped_steady is | inr other ↦ stopped_other other ]

-- a write that stopped, with the group taken apart
stopped_apart : (steady : Bool) (state : State) (name : List ℕ) (at : ℕ) (blocks : Image) (store : StoreView) → SameApart store.group → StopsWrite steady state name at blocks store
    → StopsWrite steady state name at blocks (record store { group = closed store.group })
stopped_apart steady state name at blocks store same stops = record {
  mid = stops.mid;
  tear = stops.tear;
  left = stops.left;
  stopped = stops.stopped;
  holds = holds_apart steady store stops.left same stops.holds;
  place = stops.place;
}

-- the set of a group in memory is enabled
enabled_by : (steady : Bool) (names : List (List ℕ)) (places : List (Place Seen)) (group : GroupView) (volumes : List VolumeState) (groups : List ShadowGroup) → HoldsBy steady names places group volumes groups → IsPhase true group → IsEnabled group
enabled_by steady names places NoGroup volumes groups by phase = tt
enabled_by steady names places (FreeDisk disk) volumes groups by phase = tt
enabled_by steady names places (InMemory set held) volumes groups by phase = by.0.on_disk
enabled_by steady names places (OnDisks set parts) volumes groups by phase = absurd (false≢true (sym phase))

pub enabled_up : (steady : Bool) (store : StoreView) (state : State) → Holds steady store state → IsPhase true store.group → IsEnabled store.group
enabled_up steady store state holds phase = enabled_by steady store.names store.places store.group state.p.volumes state.p.groups holds.by phase

pub writes_plain : {T E : Type 0} (old : StoreView) (places : List (Place Seen)) (target : Target) (at len : ℕ) (bytes : List ℕ) (result : Result T E) → target.role ≡ Plain → IsReached old target at len
    → WritesPlace old.places target.place at bytes result places → WritesOpen old target at bytes result (record old { places = places })
writes_plain {T} {E} old places target at len bytes (Ok x) role reached writes = record {
  names = refl;
  phase = λ up phase. phase;
  enabled = λ steady state holds phase. enabled_up steady old state holds phase;
  done = λ steady state name holds sought. plain_done old places target at len bytes role reached steady state name holds sought writes.disk writes.disk_new writes.here writes.is {T = T} {E = E} x writes.writes;
  stopped = λ steady state name holds sought same. tt;
  cause = tt;
}
writes_plain {T} {E} old places target at len bytes (Err e) role reached writes = record {
  names = refl;
  phase = λ up phase. phase;
  enabled = λ steady state holds phase. enabled_up steady old state holds phase;
  done = λ steady state name holds sought. tt;
  stopped = λ steady state name holds sought same.
      stopped_apart steady state name at (blocks_of bytes) (record old { places = places }) same
      (plain_stopped old places target at len bytes role reached steady state name holds sought writes.disk writes.disk_new writes.here writes.is {T = T} {E = E} e writes.writes);
  cause = rose_at {T = T} old (record old { places = places }) target.place writes.disk writes.disk_new (Err e) writes.here
      (ap (λ (ps : List (Place Seen)). disk_here (slice_get ps target.place)) writes.is ∙ here_still old.places target.place writes.disk writes.disk_new writes.here) writes.writes.cause.failed;
}
