-- A volume more on a host.
use Rattle.std.proofs.Common.{◌≡◌, ℕ, ◌+◌, ◌<◌, ◌≤◌, Bool, true, false, not, ltb, Option, Some, None, List, [], ◌∷◌, ◌++◌, length, set, map, refl, sym, ◌∙◌, ap, subst, inl, inr, arith}
use Rattle.std.specs.Prelude.{◌&&◌, IsTrue, nat_lt, slice_set}
use Rattle.std.specs.Bool.{if◌then◌else◌}
use Rattle.std.specs.List.{position, position_or_len}
use Rattle.std.specs.Option.{is_some}
use Rattle.std.specs.Str.{bytes_eq}
use Rattle.std.proofs.lemmas.Bool.{cases_Bool, cond-true, cond-false, false≢true, ltb-false, not_from_true, not_from_false}
use Rattle.std.proofs.lemmas.Bool.Decides.{nat_tests}
use Rattle.std.proofs.lemmas.List.{get_or_append_left, length-append, length-map, length-replicate, length-set, map_push, set-append_left}
use Rattle.std.proofs.lemmas.List.Sums.{sum_by_push}
use Rattle.avs_seg.specs.Image.{Image, blank}
use Rattle.avs_dev.specs.Rack.{RackSeen, new_disk}
use Rattle.avs_dev.specs.Seen.{Seen}
use Rattle.avs_model.proofs.Volumes.{position_some}
use Rattle.avs_model.specs.Limits.{least_volume, largest_volume, all_volumes}
use Rattle.avs_model.specs.Refusals.{refusal}
use Rattle.avs_model.specs.Shadows.{GroupState}
use Rattle.avs_model.specs.Stages.{after_stage}
use Rattle.avs_model.specs.Stages.Stage.{Make}
use Rattle.avs_model.specs.State.{HostState, ShadowGroup, State, VolumeState, all_blocks, volume_of}
use Rattle.avs_model.specs.declared.answer.Refusal.TheVariants.{Exists, Limit, Size}
use Rattle.avs_model.specs.declared.event.Event.TheVariants.{Volume}
use Rattle.avs_model.specs.declared.event.Host.TheVariants.{P}
use Rattle.avs_ii.specs.Meaning.{meaning}
use Rattle.avs_ii.specs.Parts.{PartDisks, meaning_of_parts, parts_of}
use Rattle.avs_world.proofs.Holding.{ArePlaces, are_places, volume_named}
use Rattle.avs_world.specs.Holds.{AreGroups, Holds, HoldsBy, HoldsSet, IsNamed, IsSetOf, Shown, expected, gone, group_with, kept, is_enabled, name_at, plain, plain_or_gone, shown, shown_with, disks_made}
use Rattle.avs_world.specs.Views.{FourDisks, GroupView, NoGroup, FreeDisk, InMemory, OnDisks, StoreView}
use Rattle.avs_world.specs.declared.group.ShadowSet.{ShadowSet}
use Rattle.avs_world.specs.declared.place.Place.{Place}
use Rattle.avs_world.specs.declared.place.Place.TheVariants.{Here}

-- ---- the refusals of a new volume

module _ (s : State) (name : List ℕ) (n : ℕ) where
  pub volume_exists : s.p.up ≡ true → is_some (volume_of s.p name) ≡ true → refusal s (Volume P name n) ≡ Some Exists
  volume_exists up there = grind (arith, nat_tests)

  pub volume_small : s.p.up ≡ true → is_some (volume_of s.p name) ≡ false → n < least_volume → refusal s (Volume P name n) ≡ Some (Size least_volume n)
  volume_small up new small = grind (arith, nat_tests)

  pub volume_large : s.p.up ≡ true → is_some (volume_of s.p name) ≡ false → least_volume ≤ n → largest_volume < n → refusal s (Volume P name n) ≡ Some (Limit largest_volume)
  volume_large up new some large = grind (arith, nat_tests)

  pub volume_full : s.p.up ≡ true → is_some (volume_of s.p name) ≡ false → least_volume ≤ n → n ≤ largest_volume → all_volumes < all_blocks s + n → refusal s (Volume P name n) ≡ Some (Limit all_volumes)
  volume_full up new some fits full = grind (arith, nat_tests)

  pub volume_passes : s.p.up ≡ true → is_some (volume_of s.p name) ≡ false → least_volume ≤ n → n ≤ largest_volume → all_blocks s + n ≤ all_volumes → refusal s (Volume P name n) ≡ None
  volume_passes up new some fits room = grind (arith, nat_tests)

-- ---- whether a name is there

-- a name among the names is a volume's
pub is_there : (names : List (List ℕ)) (host : HostState) → names ≡ map (λ (v : VolumeState). v.name) host.volumes → (name : List ℕ) → is_some (position (bytes_eq name) names) ≡ true → is_some (volume_of host name) ≡ true
is_there names host same name there = of (position (bytes_eq name) names) refl there
  where
    of : (o : Option ℕ) → position (bytes_eq name) names ≡ o → is_some o ≡ true → is_some (volume_of host name) ≡ true
    of None is some = absurd (false≢true some)
    of (Some k) is some = ap is_some (volume_named names host same name k is).named

-- an option that holds nothing
pub none_there : {X : Type 0} (o : Option X) → is_some o ≡ false → o ≡ None
none_there None is = refl
none_there (Some x) is = absurd (false≢true (sym is))

-- ---- one volume more

-- a position in the front of a list
module _ {X : Type 0} (p : X → Bool) where
  place_more : (xs ys : List X) → position_or_len p xs < length xs → position_or_len p (xs ++ ys) ≡ position_or_len p xs
  place_more [] ys within = absurd (omega arith)
  place_more (x ∷ xs) ys within = elim (cases_Bool (p x)) [
    | inl is ↦ cond-false (not (p x)) (1 + position_or_len p (xs ++ ys)) 0 (not_from_true (p x) is) ∙ sym (cond-false (not (p x)) (1 + position_or_len p xs) 0 (not_from_true (p x) is))
    | inr other ↦
        let here : position_or_len p (x ∷ xs) ≡ 1 + position_or_len p xs = cond-true (not (p x)) (1 + position_or_len p xs) 0 (not_from_false (p x) other) in
        cond-true (not (p x)) (1 + position_or_len p (xs ++ ys)) 0 (not_from_false (p x) other) ∙ ap (λ n. 1 + n) (place_more xs ys (omega (arith, here, within))) ∙ sym here
  ]

  position_more : (xs ys : List X) (k : ℕ) → position p xs ≡ Some k → position p (xs ++ ys) ≡ Some k
  position_more xs ys k is =
      let some = position_some p xs k is in
      let place : position_or_len p (xs ++ ys) ≡ k = place_more xs ys (omega (arith, some.0, some.1)) ∙ some.0 in
      elim (cases_Bool (ltb (position_or_len p (xs ++ ys)) (length (xs ++ ys)))) [
        | inl within ↦ cond-true (ltb (position_or_len p (xs ++ ys)) (length (xs ++ ys))) (Some (position_or_len p (xs ++ ys))) None within ∙ ap (λ n. Some n) place
        | inr past ↦ absurd (omega (arith, ltb-false (position_or_len p (xs ++ ys)) (length (xs ++ ys)) past, place, some.1, length-append xs ys))
      ]

module _ (names : List (List ℕ)) (name : List ℕ) where
  abbrev more : List (List ℕ)
  more = names ++ name ∷ []

  named_more : (k : ℕ) → IsNamed names k → name_at more k ≡ name_at names k
  named_more k named = get_or_append_left names (name ∷ []) [] k (position_some (bytes_eq (name_at names k)) names k named).1

  is_named_more : (k : ℕ) → IsNamed names k → IsNamed more k
  is_named_more k named = ap (λ (n : List ℕ). position (bytes_eq n) more) (named_more k named) ∙ position_more (bytes_eq (name_at names k)) names (name ∷ []) k named

  module _ (set : ShadowSet) (set_of : IsSetOf names set) where
    set_more : IsSetOf more set
    set_more = record {
      first = set_of.first;
      named = set_of.named ∙ sym (named_more set.shadow set_of.shadow_there);
      master_there = is_named_more set.master set_of.master_there;
      shadow_there = is_named_more set.shadow set_of.shadow_there;
      bitmap_there = is_named_more set.bitmap set_of.bitmap_there;
      shadow_differs = set_of.shadow_differs;
      bitmap_differs = set_of.bitmap_differs;
      bitmap_differs_too = set_of.bitmap_differs_too;
    }

    group_more : (state : GroupState) (armed : Bool) → group_with names set state armed ≡ group_with more set state armed
    group_more state armed = λ i. record {
      name = set.name;
      masters = sym (named_more set.master set_of.master_there) i ∷ [];
      sets = record { slot = set.slot; shadow = sym (named_more set.shadow set_of.shadow_there) i; bitmap = sym (named_more set.bitmap set_of.bitmap_there) i } ∷ [];
      state = state;
      armed = armed;
    }

    are_more : (steady : Bool) (state : GroupState) (disk : Seen) (live : Bool) (groups : List ShadowGroup) → AreGroups steady names set state disk live groups → AreGroups steady more set state disk live groups
    are_more steady state disk true groups are = (are.0, are.1 ∙ ap (λ (g : ShadowGroup). g ∷ []) (group_more state are.0), are.2)
    are_more steady state disk false groups are = are

shown_more : (places : List (Place Seen)) (p : Place Seen) (set : ShadowSet) (disks : FourDisks) (live : Bool) → ArePlaces places set → shown_with (places ++ p ∷ []) set disks live ≡ shown_with places set disks live ++ shown p ∷ []
shown_more places p set disks live at =
    let b : Shown = gone disks.bitmap in
    let m : Shown = if live then kept disks.master else plain disks.master in
    let s : Shown = if live then kept disks.shadow else plain_or_gone set.spent disks.shadow in
    let shows = map shown places in
    let with_b = slice_set shows set.bitmap b in
    let with_m = slice_set with_b set.master m in
    let count : length shows ≡ length places = length-map places shown in
    let count_b : length with_b ≡ length places = length-set shows set.bitmap b ∙ count in
    let count_m : length with_m ≡ length places = length-set with_b set.master m ∙ count_b in
    ap (λ (l : List Shown). slice_set (slice_set (slice_set l set.bitmap b) set.master m) set.shadow s) (map_push shown places p)
    ∙ ap (λ (l : List Shown). slice_set (slice_set l set.master m) set.shadow s) (set-append_left shows (shown p ∷ []) set.bitmap b (omega (arith, at.bitmap, count)))
    ∙ ap (λ (l : List Shown). slice_set l set.shadow s) (set-append_left with_b (shown p ∷ []) set.master m (omega (arith, at.master, count_b)))
    ∙ set-append_left with_m (shown p ∷ []) set.shadow s (omega (arith, at.shadow, count_m))

module _ (steady : Bool) (names : List (List ℕ)) (places : List (Place Seen)) (host : HostState) (same : names ≡ map (λ (v : VolumeState). v.name) host.volumes)
    (p : Place Seen) (v : VolumeState) (is : shown p ≡ expected steady v) where
  shows_more : (shows : List Shown) → shows ≡ map (expected steady) host.volumes → shows ++ shown p ∷ [] ≡ map (expected steady) (host.volumes ++ v ∷ [])
  shows_more shows all = (λ i. all i ++ is i ∷ []) ∙ sym (map_push (expected steady) host.volumes v)

  here_more : map shown places ≡ map (expected steady) host.volumes → map shown (places ++ p ∷ []) ≡ map (expected steady) (host.volumes ++ v ∷ [])
  here_more all = map_push shown places p ∙ shows_more (map shown places) all

  holds_more : (set : ShadowSet) (parts : PartDisks) (state : GroupState) → HoldsSet steady names places set parts state host.volumes host.groups
      → HoldsSet steady (names ++ v.name ∷ []) (places ++ p ∷ []) set parts state (host.volumes ++ v ∷ []) host.groups
  holds_more set parts state holds =
      let live = is_enabled set parts in
      record {
        disks = holds.disks;
        is = holds.is;
        set_of = set_more names v.name set holds.set_of;
        state_disk = holds.state_disk;
        shows = shown_more places p set holds.disks live (are_places steady names host places set holds.disks live same holds.shows holds.set_of)
            ∙ shows_more (shown_with places set holds.disks live) holds.shows;
        are = are_more names v.name set holds.set_of steady state holds.disks.state live host.groups holds.are;
      }

  by_more : (group : GroupView) → HoldsBy steady names places group host.volumes host.groups → HoldsBy steady (names ++ v.name ∷ []) (places ++ p ∷ []) group (host.volumes ++ v ∷ []) host.groups
  by_more NoGroup by = (here_more by.0, by.1)
  by_more (FreeDisk disk) by = (here_more by.0, by.1)
  by_more (InMemory set held) by = (by.0, holds_more set (parts_of held) (meaning held) by.1)
  by_more (OnDisks set parts) by = (by.0, holds_more set parts (meaning_of_parts parts) by.1)

-- what a new disk shows, where the rack tells
made_shown : (rack : RackSeen) (d : Seen) (n : ℕ) (name : List ℕ) → IsTrue rack.tells → least_volume ≤ n → d ≡ new_disk rack n d.arms
    → plain d ≡ expected rack.steady (record { name = name; blocks = n; image = blank n; spent = false; armed = false })
made_shown rack d n name tells some is =
    let image : d.image ≡ blank n = ap (λ (x : Seen). x.image) is ∙ cond-true rack.tells (blank n) [] tells in
    let count : length d.image ≡ n = ap (λ (l : Image). length l) image ∙ length-replicate n _ in
    let size : d.size ≡ n = ap (λ (x : Seen). x.size) is in
    let has : nat_lt 0 d.size ≡ true = ap (nat_lt 0) size ∙ grind (arith, nat_tests) in
    (λ i. record {
      image = image i;
      spent = false;
      told = count i;
      size = size i;
      some = has i;
      steady = (is i).steady;
      armed = (is i).steady && (is i).armed;
    })

-- a store with one volume more
pub holds_made : (rack : RackSeen) (old new : StoreView) (s : State) (name : List ℕ) (d : Seen) (n : ℕ) → IsTrue rack.tells → least_volume ≤ n → d ≡ new_disk rack n d.arms → Holds rack.steady old s
    → new.names ≡ old.names ++ name ∷ [] → new.places ≡ old.places ++ Here d ∷ [] → new.blocks ≡ old.blocks + d.size → new.group ≡ old.group → Holds rack.steady new (after_stage s (Make P name n))
holds_made rack old new s name d n tells some is holds names places blocks group =
    let v : VolumeState = record { name = name; blocks = n; image = blank n; spent = false; armed = false } in
    let volumes = s.p.volumes ++ v ∷ [] in
    let by = by_more rack.steady old.names old.places s.p holds.same_names (Here d) v (made_shown rack d n name tells some is) old.group holds.by in
    record {
      same_names = names ∙ ap (λ (l : List (List ℕ)). l ++ name ∷ []) holds.same_names ∙ sym (map_push (λ (w : VolumeState). w.name) s.p.volumes v);
      same_blocks = omega (arith, blocks, holds.same_blocks, ap (λ (x : Seen). x.size) is, sum_by_push (λ (w : VolumeState). w.blocks) s.p.volumes v);
      no_other = holds.no_other;
      same_disks = ap disks_made group ∙ holds.same_disks;
      by = subst (λ (l : List (List ℕ)). HoldsBy rack.steady l new.places new.group volumes s.p.groups) (sym names)
          (subst (λ (l : List (Place Seen)). HoldsBy rack.steady (old.names ++ name ∷ []) l new.group volumes s.p.groups) (sym places)
          (subst (λ (g : GroupView). HoldsBy rack.steady (old.names ++ name ∷ []) (old.places ++ Here d ∷ []) g volumes s.p.groups) (sym group) by));
    }
