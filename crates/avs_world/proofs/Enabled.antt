-- What enabling a set makes of a store and of the state that it holds.
use Rattle.std.proofs.Common.{◌≡◌, ◌≢◌, ℕ, Bool, true, false, Some, List, [], length, map, refl, sym, ◌∙◌, ap, subst}
use Rattle.std.specs.Prelude.{◌&&◌, nat_lt, slice_set}
use Rattle.std.specs.List.{sum_by, slice_get, position, position_or_len}
use Rattle.std.specs.Str.{bytes_eq}
use Rattle.std.proofs.lemmas.List.{set_comm, set-set, map-set}
use Rattle.avs_dev.specs.Seen.{Seen, IsTold}
use Rattle.avs_chunk.specs.Disks.{IsSameDisk}
use Rattle.avs_model.specs.State.{State, VolumeState, with_volume_of}
use Rattle.avs_model.specs.Stages.{held_by_group}
use Rattle.avs_model.proofs.Volumes.{position_or_len-map, place_or_count, with_volume_of-place}
use Rattle.avs_world.specs.declared.place.Place.{Place}
use Rattle.avs_world.specs.declared.place.Place.TheVariants.{Here, Spent, Lent}
use Rattle.avs_world.specs.declared.group.ShadowSet.{ShadowSet}
use Rattle.avs_world.specs.declared.enabling.Chosen.{Chosen}
use Rattle.avs_world.specs.Views.{StoreView, FourDisks}
use Rattle.avs_world.specs.Holds.{Shown, plain, gone, kept, plain_or_gone, shown, expected, shown_with, Holds, AreHere, IsNamed, name_at}
use Rattle.avs_world.specs.Places.{place_of}
use Rattle.avs_world.specs.Enabling.{HasThree, IsChosen, places_lent, places_back, set_of}
use Rattle.avs_world.proofs.Holding.{slice_get-set_other, set_back, names-set, blocks-set, Found, found, shown_there, shows-set}
use Rattle.avs_world.proofs.Choosing.{no_groups, all_here, named_there}

-- Three places of a list.
module _ {X : Type 0} (xs : List X) (m s b : ℕ) (s_m : s ≢ m) (b_m : b ≢ m) (b_s : b ≢ s) where
  m_b : m ≢ b
  m_b e = b_m (sym e)

  s_b : s ≢ b
  s_b e = b_s (sym e)

  -- what stood there counts no more
  put_over : (x c a d : X) → slice_set (slice_set (slice_set (slice_set (slice_set (slice_set xs m x) s x) b x) b c) m a) s d ≡ slice_set (slice_set (slice_set xs b c) m a) s d
  put_over x c a d =
      let with_b = slice_set xs b c in
      let first : slice_set (slice_set (slice_set (slice_set xs m x) s x) b x) b c ≡ slice_set (slice_set with_b m x) s x =
      set-set (slice_set (slice_set xs m x) s x) b x c ∙ set_comm (slice_set xs m x) s b x c s_b ∙ ap (λ (l : List X). slice_set l s x) (set_comm xs m b x c m_b) in
      let second : slice_set (slice_set (slice_set with_b m x) s x) m a ≡ slice_set (slice_set with_b m a) s x =
      set_comm (slice_set with_b m x) s m x a s_m ∙ ap (λ (l : List X). slice_set l s x) (set-set with_b m x a) in
      ap (λ (l : List X). slice_set (slice_set l m a) s d) first ∙ ap (λ (l : List X). slice_set l s d) second ∙ set-set (slice_set with_b m a) s x d

  -- two of them are what they were
  put_back_two : (c a d : X) → slice_get xs m ≡ Some a → slice_get xs s ≡ Some d → slice_set (slice_set (slice_set xs b c) m a) s d ≡ slice_set xs b c
  put_back_two c a d at_m at_s =
      ap (λ (l : List X). slice_set l s d) (set_back (slice_set xs b c) m a (slice_get-set_other xs b m c m_b ∙ at_m))
      ∙ set_back (slice_set xs b c) s d (slice_get-set_other xs b s c s_b ∙ at_s)

-- The disks of three places that were lent, given back: the bitmap's alone is another.
pub given_back : (places : List (Place Seen)) (chosen : Chosen) (three : HasThree places chosen) (name : List ℕ) (new : Seen)
    → places_back (places_lent places chosen) (set_of name chosen three.shadow_spent) three.master_disk three.shadow_disk new ≡ slice_set places chosen.bitmap (Spent new)
given_back places chosen three name new =
    let spent = place_of three.shadow_spent three.shadow_disk in
    put_over places chosen.master chosen.shadow chosen.bitmap three.shadow_differs three.bitmap_differs three.bitmap_differs_too Lent (Spent new) (Here three.master_disk) spent
    ∙ put_back_two places chosen.master chosen.shadow chosen.bitmap three.shadow_differs three.bitmap_differs three.bitmap_differs_too (Spent new) (Here three.master_disk) spent three.master_here three.shadow_here

-- A volume's disk, while no group holds its image.
pub record DiskOf (steady : Bool) (d : Seen) (v : VolumeState) : Type 0 where
  pub told : length d.image ≡ v.blocks
  pub size : d.size ≡ v.blocks
  pub some : nat_lt 0 d.size ≡ true
  pub same : d.steady ≡ steady
  pub armed : (d.steady && d.armed) ≡ (steady && v.armed)

disk_of : (steady spent : Bool) (d : Seen) (v : VolumeState) → shown (place_of spent d) ≡ expected steady v → DiskOf steady d v
disk_of steady true d v is = record {
  told = ap (λ (t : Shown). t.told) is;
  size = ap (λ (t : Shown). t.size) is;
  some = ap (λ (t : Shown). t.some) is;
  same = ap (λ (t : Shown). t.steady) is;
  armed = ap (λ (t : Shown). t.armed) is;
}
disk_of steady false d v is = record {
  told = ap (λ (t : Shown). t.told) is;
  size = ap (λ (t : Shown). t.size) is;
  some = ap (λ (t : Shown). t.some) is;
  same = ap (λ (t : Shown). t.steady) is;
  armed = ap (λ (t : Shown). t.armed) is;
}

-- the volume whose contents are gone, and with no tear armed
abbrev pub spend : VolumeState → VolumeState
spend v = record v { image = []; spent = true }

abbrev pub unarm : VolumeState → VolumeState
unarm v = record v { armed = false }

module _ (steady : Bool) (d : Seen) (v : VolumeState) (of : DiskOf steady d v) where
  pub disk_told : IsTold d
  disk_told = of.told ∙ sym of.size

  pub kept_is : kept d ≡ expected steady (held_by_group v)
  kept_is = (λ i. record { image = []; spent = false; told = of.told i; size = of.size i; some = of.some i; steady = of.same i; armed = of.armed i })

  -- the disk was written, and the contents are gone
  pub gone_is : (new : Seen) (w : VolumeState) → IsSameDisk d new → w.blocks ≡ v.blocks → w.image ≡ [] → w.spent ≡ true → (new.steady && new.armed) ≡ (steady && w.armed) → gone new ≡ expected steady w
  gone_is new w disk blocks image spent armed =
      let size : new.size ≡ w.blocks = disk.size ∙ of.size ∙ sym blocks in
      let told : length new.image ≡ w.blocks = disk.told disk_told ∙ size in
      let some : nat_lt 0 new.size ≡ true = ap (nat_lt 0) disk.size ∙ of.some in
      let same : new.steady ≡ steady = disk.steady ∙ of.same in
      (λ i. record { image = sym image i; spent = sym spent i; told = told i; size = size i; some = some i; steady = same i; armed = armed i })

-- a volume that is changed stays at its place
place-set : (volumes : List VolumeState) (k : ℕ) (v w : VolumeState) (name : List ℕ) → slice_get volumes k ≡ Some v → w.name ≡ v.name → place_or_count name (slice_set volumes k w) ≡ place_or_count name volumes
place-set volumes k v w name there same =
    sym (position_or_len-map (λ (u : VolumeState). u.name) (bytes_eq name) (slice_set volumes k w))
    ∙ ap (position_or_len (bytes_eq name)) (names-set volumes k v w there same)
    ∙ position_or_len-map (λ (u : VolumeState). u.name) (bytes_eq name) volumes

-- The volumes of which a set is enabled.
module _ (steady : Bool) (store : StoreView) (state : State) (master shadow bitmap : List ℕ) (chosen : Chosen) (is : IsChosen store master shadow bitmap chosen) (holds : Holds steady store state) where
  pub none_before : state.p.groups ≡ []
  none_before = no_groups steady store.names store.places store.group state.p.volumes state.p.groups is.free holds.by

  pub here : AreHere steady store.places state.p.volumes
  here = all_here steady store.names store.places store.group state.p.volumes state.p.groups is.free holds.by

  pub found_at : (name : List ℕ) (k : ℕ) (p : Place Seen) → position (bytes_eq name) store.names ≡ Some k → slice_get store.places k ≡ Some p → Found steady state.p name k (shown p)
  found_at name k p sought there = found steady store.names state.p (map shown store.places) name k (shown p) holds.same_names here sought (shown_there store.places k p there)

  pub of_master : Found steady state.p master chosen.master (plain is.three.master_disk)
  of_master = found_at master chosen.master (Here is.three.master_disk) is.at_master is.three.master_here

  pub of_shadow : Found steady state.p shadow chosen.shadow (shown (place_of is.three.shadow_spent is.three.shadow_disk))
  of_shadow = found_at shadow chosen.shadow (place_of is.three.shadow_spent is.three.shadow_disk) is.at_shadow is.three.shadow_here

  pub of_bitmap : Found steady state.p bitmap chosen.bitmap (shown (place_of is.three.bitmap_spent is.three.bitmap_disk))
  of_bitmap = found_at bitmap chosen.bitmap (place_of is.three.bitmap_spent is.three.bitmap_disk) is.at_bitmap is.three.bitmap_here

  pub master_of : DiskOf steady is.three.master_disk of_master.volume
  master_of = disk_of steady false is.three.master_disk of_master.volume of_master.is

  pub shadow_of : DiskOf steady is.three.shadow_disk of_shadow.volume
  shadow_of = disk_of steady is.three.shadow_spent is.three.shadow_disk of_shadow.volume of_shadow.is

  pub bitmap_of : DiskOf steady is.three.bitmap_disk of_bitmap.volume
  bitmap_of = disk_of steady is.three.bitmap_spent is.three.bitmap_disk of_bitmap.volume of_bitmap.is

  pub named : (name : List ℕ) (k : ℕ) → position (bytes_eq name) store.names ≡ Some k → name_at store.names k ≡ name
  named name k sought = named_there steady store state name k holds sought

  pub is_named : (name : List ℕ) (k : ℕ) → position (bytes_eq name) store.names ≡ Some k → IsNamed store.names k
  is_named name k sought = subst (λ (n : List ℕ). position (bytes_eq n) store.names ≡ Some k) (sym (named name k sought)) sought

  -- Each of the volumes, when the bitmap's is another one.

  abbrev pub with_bitmap : VolumeState → List VolumeState
  with_bitmap w = slice_set state.p.volumes chosen.bitmap w

  abbrev pub with_all : VolumeState → List VolumeState
  with_all w = slice_set (slice_set (with_bitmap w) chosen.master (held_by_group of_master.volume)) chosen.shadow (held_by_group of_shadow.volume)

  module _ (w : VolumeState) (same_name : w.name ≡ of_bitmap.volume.name) (same_blocks : w.blocks ≡ of_bitmap.volume.blocks) where
    pub master_there : slice_get (with_bitmap w) chosen.master ≡ Some of_master.volume
    master_there = slice_get-set_other state.p.volumes chosen.bitmap chosen.master w (λ e. is.three.bitmap_differs (sym e)) ∙ of_master.there

    pub master_place : place_or_count master (with_bitmap w) ≡ chosen.master
    master_place = place-set state.p.volumes chosen.bitmap of_bitmap.volume w master of_bitmap.there same_name ∙ of_master.here

    abbrev with_two : List VolumeState
    with_two = slice_set (with_bitmap w) chosen.master (held_by_group of_master.volume)

    shadow_there : slice_get with_two chosen.shadow ≡ Some of_shadow.volume
    shadow_there =
        slice_get-set_other (with_bitmap w) chosen.master chosen.shadow (held_by_group of_master.volume) is.three.shadow_differs
        ∙ slice_get-set_other state.p.volumes chosen.bitmap chosen.shadow w (λ e. is.three.bitmap_differs_too (sym e))
        ∙ of_shadow.there

    shadow_place : place_or_count shadow with_two ≡ chosen.shadow
    shadow_place =
        place-set (with_bitmap w) chosen.master of_master.volume (held_by_group of_master.volume) shadow master_there refl
        ∙ place-set state.p.volumes chosen.bitmap of_bitmap.volume w shadow of_bitmap.there same_name
        ∙ of_shadow.here

    pub all_held : with_volume_of (with_volume_of (with_bitmap w) master held_by_group) shadow held_by_group ≡ with_all w
    all_held =
        ap (λ (vs : List VolumeState). with_volume_of vs shadow held_by_group) (with_volume_of-place (with_bitmap w) master held_by_group chosen.master of_master.volume master_place master_there)
        ∙ with_volume_of-place with_two shadow held_by_group chosen.shadow of_shadow.volume shadow_place shadow_there

    pub all_names : map (λ (v : VolumeState). v.name) (with_all w) ≡ map (λ (v : VolumeState). v.name) state.p.volumes
    all_names =
        names-set with_two chosen.shadow of_shadow.volume (held_by_group of_shadow.volume) shadow_there refl
        ∙ names-set (with_bitmap w) chosen.master of_master.volume (held_by_group of_master.volume) master_there refl
        ∙ names-set state.p.volumes chosen.bitmap of_bitmap.volume w of_bitmap.there same_name

    pub all_blocks_same : sum_by (λ (v : VolumeState). v.blocks) (with_all w) ≡ sum_by (λ (v : VolumeState). v.blocks) state.p.volumes
    all_blocks_same =
        blocks-set with_two chosen.shadow of_shadow.volume (held_by_group of_shadow.volume) shadow_there refl
        ∙ blocks-set (with_bitmap w) chosen.master of_master.volume (held_by_group of_master.volume) master_there refl
        ∙ blocks-set state.p.volumes chosen.bitmap of_bitmap.volume w of_bitmap.there same_blocks

    -- What is shown, with a disk of the bitmap whose contents are gone.
    module _ (new : Seen) (shows : gone new ≡ expected steady w) where
      bitmap_shown : slice_set (map shown store.places) chosen.bitmap (gone new) ≡ map (expected steady) (with_bitmap w)
      bitmap_shown = shows-set steady (map shown store.places) state.p.volumes chosen.bitmap (gone new) w here shows

      all_shown : slice_set (slice_set (slice_set (map shown store.places) chosen.bitmap (gone new)) chosen.master (kept is.three.master_disk)) chosen.shadow (kept is.three.shadow_disk) ≡ map (expected steady) (with_all w)
      all_shown =
          shows-set steady (slice_set (slice_set (map shown store.places) chosen.bitmap (gone new)) chosen.master (kept is.three.master_disk)) with_two chosen.shadow (kept is.three.shadow_disk) (held_by_group of_shadow.volume)
          (shows-set steady (slice_set (map shown store.places) chosen.bitmap (gone new)) (with_bitmap w) chosen.master (kept is.three.master_disk) (held_by_group of_master.volume) bitmap_shown
          (kept_is steady is.three.master_disk of_master.volume master_of))
          (kept_is steady is.three.shadow_disk of_shadow.volume shadow_of)

      lent_shown : map shown (places_lent store.places chosen) ≡ slice_set (slice_set (slice_set (map shown store.places) chosen.master (shown Lent)) chosen.shadow (shown Lent)) chosen.bitmap (shown Lent)
      lent_shown =
          map-set shown (slice_set (slice_set store.places chosen.master Lent) chosen.shadow Lent) chosen.bitmap Lent
          ∙ ap (λ (l : List Shown). slice_set l chosen.bitmap (shown Lent)) (map-set shown (slice_set store.places chosen.master Lent) chosen.shadow Lent)
          ∙ ap (λ (l : List Shown). slice_set (slice_set l chosen.shadow (shown Lent)) chosen.bitmap (shown Lent)) (map-set shown store.places chosen.master Lent)

      -- with the disks of a group at the places that are lent
      module _ (slot : ℕ) (name : List ℕ) (state_disk : Seen) where
        abbrev pub the_set : ShadowSet
        the_set = record (set_of name chosen is.three.shadow_spent) { slot = slot }

        abbrev pub the_disks : FourDisks
        the_disks = record { state = state_disk; master = is.three.master_disk; shadow = is.three.shadow_disk; bitmap = new }

        over : (a d : Shown) → slice_set (slice_set (slice_set (map shown (places_lent store.places chosen)) chosen.bitmap (gone new)) chosen.master a) chosen.shadow d
            ≡ slice_set (slice_set (slice_set (map shown store.places) chosen.bitmap (gone new)) chosen.master a) chosen.shadow d
        over a d =
            ap (λ (l : List Shown). slice_set (slice_set (slice_set l chosen.bitmap (gone new)) chosen.master a) chosen.shadow d) lent_shown
            ∙ put_over (map shown store.places) chosen.master chosen.shadow chosen.bitmap is.three.shadow_differs is.three.bitmap_differs is.three.bitmap_differs_too (shown Lent) (gone new) a d

        pub live_shown : shown_with (places_lent store.places chosen) the_set the_disks true ≡ map (expected steady) (with_all w)
        live_shown = over (kept is.three.master_disk) (kept is.three.shadow_disk) ∙ all_shown

        spent_shown : (spent : Bool) (d : Seen) → plain_or_gone spent d ≡ shown (place_of spent d)
        spent_shown true d = refl
        spent_shown false d = refl

        pub pending_shown : shown_with (places_lent store.places chosen) the_set the_disks false ≡ map (expected steady) (with_bitmap w)
        pending_shown =
            over (plain is.three.master_disk) (plain_or_gone is.three.shadow_spent is.three.shadow_disk)
            ∙ put_back_two (map shown store.places) chosen.master chosen.shadow chosen.bitmap is.three.shadow_differs is.three.bitmap_differs is.three.bitmap_differs_too (gone new) (plain is.three.master_disk)
            (plain_or_gone is.three.shadow_spent is.three.shadow_disk) (shown_there store.places chosen.master (Here is.three.master_disk) is.three.master_here)
            (shown_there store.places chosen.shadow (place_of is.three.shadow_spent is.three.shadow_disk) is.three.shadow_here ∙ ap Some (sym (spent_shown is.three.shadow_spent is.three.shadow_disk)))
            ∙ bitmap_shown

      -- with the disks given back
      pub back_shown : (name : List ℕ) → map shown (places_back (places_lent store.places chosen) (set_of name chosen is.three.shadow_spent) is.three.master_disk is.three.shadow_disk new) ≡ map (expected steady) (with_bitmap w)
      back_shown name = ap (map shown) (given_back store.places chosen is.three name new) ∙ map-set shown store.places chosen.bitmap (Spent new) ∙ bitmap_shown
