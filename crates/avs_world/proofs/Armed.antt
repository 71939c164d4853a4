-- What arming a tear makes of a store.
use Rattle.std.proofs.Common.{◌≡◌, ◌≢◌, ℕ, ◌+◌, ◌<◌, Bool, true, false, not, cond, IsTrue, Some, None, Option, List, [], ◌∷◌, length, get_or, map, refl, sym, ◌∙◌, ap, subst, inl, inr}
use Rattle.std.specs.Prelude.{◌&&◌, nat_lt, slice_set, slice_get, slice_index_or}
use Rattle.std.specs.List.{position, position_or_len}
use Rattle.std.specs.Option.{is_some, option_and_then, option_map, option_map_or}
use Rattle.std.specs.Str.{bytes_eq}
use Rattle.std.proofs.lemmas.Bool.{cases_Bool, cond-true, false≢true}
use Rattle.std.proofs.lemmas.Option.{get_or_from_slice_get, same_Some, slice_get-map}
use Rattle.std.proofs.lemmas.Slice.Eq.{bytes_eq-Decides}
use Rattle.avs_dev.specs.Seen.{Seen, Arms, with_tear}
use Rattle.avs_dev.specs.declared.disk.Tear.{Tear}
use Rattle.avs_model.specs.State.{HostState, ShadowGroup, State, VolumeState, OfVolume, disk_place, group_at, group_of, volume_of, with_armed, with_volume_of}
use Rattle.avs_model.specs.Shadows.{GroupState}
use Rattle.avs_model.specs.Refusals.{disk_causes, first_cause, refusal}
use Rattle.avs_model.specs.declared.answer.Answer.{Answer}
use Rattle.avs_model.specs.declared.answer.Answer.TheVariants.{Done, Refused}
use Rattle.avs_model.specs.declared.answer.Refusal.TheVariants.{Down, NoGroup, NoVolume, WrongState}
use Rattle.avs_world.specs.declared.group.Part.{Part}
use Rattle.avs_world.specs.declared.group.Part.TheVariants.{Bitmap, Master, Plain, Shadow}
use Rattle.avs_model.specs.declared.answer.Word.TheVariants.{Unarmed}
use Rattle.avs_model.specs.declared.event.ArmTarget.{ArmTarget}
use Rattle.avs_model.specs.declared.event.ArmTarget.TheVariants as disk
use Rattle.avs_model.specs.declared.event.Event.TheVariants.{Arm}
use Rattle.avs_model.specs.declared.event.Host.TheVariants.{P}
use Rattle.avs_model.proofs.Volumes.{with_volume_of-place}
use Rattle.avs_ii.specs.Calls.{ArmsGroup}
use Rattle.avs_ii.specs.Held.{IiDisks, is_live}
use Rattle.avs_ii.specs.Meaning.{meaning}
use Rattle.avs_ii.specs.Parts.{parts_of}
use Rattle.avs_world.specs.declared.group.ShadowSet.{ShadowSet}
use Rattle.avs_world.specs.declared.place.Place.{Place}
use Rattle.avs_world.specs.declared.place.Place.TheVariants.{Here, Lent, Spent}
use Rattle.avs_world.specs.Arming.{ArmsBy, ArmsHere, ArmsLent, ArmsTarget, ArmsView, is_group}
use Rattle.avs_world.specs.Causes.{ArmsAsDisk, number_of, open_disks, role_disk, target_disk}
use Rattle.avs_world.specs.Holds.{AreGroups, Holds, HoldsBy, HoldsSet, IsOpen, IsPhase, IsStateDisk, Shown, disks_made, expected, group_with, shown, shown_with}
use Rattle.avs_world.specs.Places.{ArmsPlace, places_with, with_disk}
use Rattle.avs_world.specs.Ranges.{disk_here, role_by, role_in}
use Rattle.avs_world.specs.Views.{FourDisks, GroupView, NoGroup, FreeDisk, InMemory, OnDisks, StoreView, one_set, place_view}
use Rattle.avs_world.proofs.Holding.{element, found_plain, holds_changed, holds_plain, not_lent, open_groups, open_shows, set_back, set_holds, three_volumes, volume_named}
use Rattle.avs_world.proofs.OneSet.{IsOneSet, one_held, at_bitmap, at_master, at_shadow}
use Rattle.avs_world.proofs.Tears.{Marks, StaysOne, bitmap_marked, enabled_same, four, four_list, master_marked, parts_one, shadow_marked, stays_one}

-- ---- the refusals of arming

module _ (s : State) (skip first count : ℕ) (up : s.p.up ≡ true) where
  pub arm_behind : (target : ArmTarget) → refusal s (Arm P target skip first count) ≡ first_cause (disk_causes s P target)
  arm_behind target = ap (λ b. cond (not b) (Some (Down P)) (first_cause (disk_causes s P target))) up

  pub arm_no_volume : (name : List ℕ) → volume_of s.p name ≡ None → refusal s (Arm P (disk.Volume name) skip first count) ≡ Some NoVolume
  arm_no_volume name none = arm_behind (disk.Volume name) ∙ ap (λ (o : Option VolumeState). cond (not (is_some o)) (Some NoVolume) None) none

  pub arm_volume_passes : (name : List ℕ) (v : VolumeState) → volume_of s.p name ≡ Some v → refusal s (Arm P (disk.Volume name) skip first count) ≡ None
  arm_volume_passes name v there = arm_behind (disk.Volume name) ∙ ap (λ (o : Option VolumeState). cond (not (is_some o)) (Some NoVolume) None) there

  pub arm_group_passes : (name : List ℕ) (k : ℕ) → group_of s.p name ≡ Some k → refusal s (Arm P (disk.StateOf name) skip first count) ≡ None
  arm_group_passes name k there = arm_behind (disk.StateOf name) ∙ ap (λ (o : Option ℕ). cond (not (is_some o)) (Some NoGroup) None) there

-- each disk that is here lets a tear be armed, where it is steady
pub record AreSure (places : List (Place Seen)) : Type 0 where
  pub sure : (k : ℕ) (d : Seen) → disk_here (slice_get places k) ≡ Some d → IsTrue d.steady → IsTrue d.arms

-- disks of any type
pub are_sure : {D : Type 0} (seen : D → Seen) → ((d : D) → IsTrue (seen d).steady → IsTrue (seen d).arms) → (items : List (Place D)) → AreSure (map (place_view seen) items)
are_sure {D} seen law items = record {
  sure = λ k d here. by (slice_get items k) d (ap disk_here (sym (slice_get-map (place_view seen) items k)) ∙ here);
}
  where
    by : (o : Option (Place D)) (d : Seen) → disk_here (option_map (place_view seen) o) ≡ Some d → IsTrue d.steady → IsTrue d.arms
    by None d is = cc
    by (Some (Here disk)) d is = subst (λ (x : Seen). IsTrue x.steady → IsTrue x.arms) (same_Some (seen disk) d is) (law disk)
    by (Some (Spent disk)) d is = subst (λ (x : Seen). IsTrue x.steady → IsTrue x.arms) (same_Some (seen disk) d is) (law disk)
    by (Some Lent) d is = cc

-- ---- a tear

module _ (tear : Tear) where
  -- ---- where none is armed all stays

  place_same : (places new : List (Place Seen)) (k : ℕ) → k < length places → ArmsPlace (disk_here (slice_get places k)) places k tear false new → new ≡ places
  place_same places new k lt arms = by (element places k lt).0 (element places k lt).1
    where
      arms_at : (p : Place Seen) → slice_get places k ≡ Some p → ArmsPlace (disk_here (Some p)) places k tear false new
      arms_at p here = subst (λ (o : Option (Place Seen)). ArmsPlace (disk_here o) places k tear false new) here arms

      same : (p : Place Seen) (d d' : Seen) → slice_get places k ≡ Some p → new ≡ places_with places k d' → d' ≡ d → with_disk p d ≡ p → new ≡ places
      same p d d' here is kept back =
          is ∙ (λ i. slice_set places k (with_disk (get_or_from_slice_get places k p Lent here i) (kept i))) ∙ ap (slice_set places k) back ∙ set_back places k p here

      by : (p : Place Seen) → slice_get places k ≡ Some p → new ≡ places
      by (Here d) here = let a = arms_at (Here d) here in same (Here d) d a.0 here a.2 (a.1.unarmed refl) refl
      by (Spent d) here = let a = arms_at (Spent d) here in same (Spent d) d a.0 here a.2 (a.1.unarmed refl) refl
      by Lent here = (arms_at Lent here).1

  view_same : (group group' : GroupView) (number : ℕ) → ArmsView group number tear false group' → group' ≡ group
  view_same NoGroup group' number arms = arms.1
  view_same (FreeDisk d) group' number arms = arms.1
  view_same (OnDisks set parts) group' number arms = arms.1
  view_same (InMemory set held) group' number arms = arms.2 ∙ ap (InMemory set) (arms.1.unarmed refl)

  here_same : (old new : StoreView) (k : ℕ) → k < length old.places → ArmsHere old k tear false new → new ≡ old
  here_same old new k lt arms = arms.is ∙ ap (λ (l : List (Place Seen)). record old { places = l }) (place_same old.places new.places k lt arms.arms)

  lent_same : (old new : StoreView) (number : ℕ) → ArmsLent old number tear false new → new ≡ old
  lent_same old new number arms = arms.is ∙ ap (λ (g : GroupView). record old { group = g }) (view_same old.group new.group number arms.arms)

  role_same : (r : Part) (old new : StoreView) (k : ℕ) → k < length old.places → ArmsBy r old k tear false new → new ≡ old
  role_same Plain old new k lt arms = here_same old new k lt arms
  role_same Master old new k lt arms = lent_same old new 1 arms
  role_same Shadow old new k lt arms = lent_same old new 2 arms
  role_same Bitmap old new k lt arms = lent_same old new 3 arms

  pub target_same : (old new : StoreView) (target : ArmTarget) → ArmsTarget old target tear false new → new ≡ old
  target_same old new (disk.Volume name) arms = role_same (role_by old.group arms.0) old new arms.0 arms.2 arms.3
  target_same old new (disk.StateOf name) arms = lent_same old new 0 arms.1

  -- ---- the group of a name

  same_either : (a b : List ℕ) → bytes_eq a b ≡ bytes_eq b a
  same_either a b = elim (cases_Bool (bytes_eq a b)) [
    | inl is ↦ is ∙ sym ((bytes_eq-Decides b a).1 (sym ((bytes_eq-Decides a b).0 is)))
    | inr not ↦ elim (cases_Bool (bytes_eq b a)) [
      | inl is ↦ absurd (false≢true (sym not ∙ (bytes_eq-Decides a b).1 (sym ((bytes_eq-Decides b a).0 is))))
      | inr other ↦ not ∙ sym other
    ]
  ]

  -- one group alone has the first place, or none
  one_place : (host : HostState) (name : List ℕ) (group : ShadowGroup) → host.groups ≡ group ∷ [] → position_or_len (λ (held : ShadowGroup). bytes_eq name held.name) host.groups ≡ cond (bytes_eq name group.name) 0 1
  one_place host name group is = ap (position_or_len (λ (held : ShadowGroup). bytes_eq name held.name)) is ∙ by (bytes_eq name group.name)
    where
      by : (b : Bool) → cond (not b) (1 + 0) 0 ≡ cond b 0 1
      by true = refl
      by false = refl

  group_there : (host : HostState) (name : List ℕ) (group : ShadowGroup) → host.groups ≡ group ∷ [] → bytes_eq name group.name ≡ true → group_of host name ≡ Some 0
  group_there host name group is same =
      ap (position (λ (held : ShadowGroup). bytes_eq name held.name)) is ∙ by (bytes_eq name group.name) same
    where
      by : (b : Bool) → b ≡ true → cond (nat_lt (cond (not b) (1 + 0) 0) 1) (Some (cond (not b) (1 + 0) 0)) None ≡ Some 0
      by true so = refl
      by false so = cc

  -- ---- one of the four disks is armed

  abbrev of_list : List Seen → Seen → FourDisks
  of_list l d = record { state = get_or l 0 d; master = get_or l 1 d; shadow = get_or l 2 d; bitmap = get_or l 3 d }

  abbrev armed : Seen → Seen
  armed d = with_tear tear d

  -- the disks of the group, of which that with a number is armed
  module _ (set : ShadowSet) (old new : IiDisks) (number : ℕ) (disks : FourDisks) (is : parts_of old ≡ one_set set.slot disks) (arms : ArmsGroup old number tear true new) where
    abbrev had : IsOneSet set disks old
    had = one_held set disks old is

    pub after : StaysOne disks set had.one.chunks.blocks new
    after = stays_one set old disks new had arms.shape

    pub parts_after : parts_of new ≡ one_set set.slot after.disks
    parts_after = parts_one set after.disks new after.one

    list : four after.disks ≡ slice_set (four disks) number (armed (slice_index_or (four disks) number disks.state))
    list =
        let before = four_list old set.slot disks is in
        sym (four_list new set.slot after.disks parts_after) ∙ arms.armed refl
        ∙ (λ i. slice_set (before i) number (armed (slice_index_or (before i) number (ap (λ p. p.state) is i))))

    pub armed_disks : after.disks ≡ of_list (slice_set (four disks) number (armed (slice_index_or (four disks) number disks.state))) disks.state
    armed_disks = ap (λ (l : List Seen). of_list l disks.state) list

    -- it is open as before
    pub still_open : after.disks.state.image ≡ disks.state.image → IsOpen set old → IsOpen set new
    still_open same opened = record {
      sound = arms.sound opened.sound;
      told = arms.told opened.told;
      in_memory = ap (λ b. is_live b.slots set.slot) arms.block ∙ opened.in_memory;
      on_disk = enabled_same set old new (ap (λ p. p.state.image) parts_after ∙ same ∙ sym (ap (λ p. p.state.image) is)) ∙ opened.on_disk;
    }

  -- the disk is marked
  marks_armed : (steady : Bool) (d : Seen) → Marks steady d (armed d) true
  marks_armed steady d = record { told = refl; size = refl; steady = refl; armed = λ _. refl }

  -- ---- a volume's disk is armed

  -- the group in memory after a disk of one of its volumes was armed, and after that of its state
  module _ (steady : Bool) (names : List (List ℕ)) (places : List (Place Seen)) (host : HostState) (same : names ≡ map (λ (v : VolumeState). v.name) host.volumes) (set : ShadowSet) (old new : IiDisks)
      (by : IsOpen set old × HoldsSet steady names places set (parts_of old) (meaning old) host.volumes host.groups) where
    abbrev disks : FourDisks
    disks = by.1.disks

    shows : shown_with places set disks true ≡ map (expected steady) host.volumes
    shows = open_shows steady names places set old host.volumes host.groups by.0 by.1

    are : AreGroups steady names set (meaning old) disks.state true host.groups
    are = open_groups steady names places set old host.volumes host.groups by.0 by.1

    held_by : (number : ℕ) → (arms : ArmsGroup old number tear true new) → (now : FourDisks) → (after set old new number disks by.1.is arms).disks ≡ now → now.state.image ≡ disks.state.image → IsStateDisk steady now.state
        → (volumes : List VolumeState) (groups : List ShadowGroup) → shown_with places set now true ≡ map (expected steady) volumes → AreGroups steady names set (meaning old) now.state true groups
        → IsOpen set new × HoldsSet steady names places set (parts_of new) (meaning new) volumes groups
    held_by number arms now is image state_disk volumes groups shows_now are_now =
        let opened = still_open set old new number disks by.1.is arms (ap (λ (d : FourDisks). d.state.image) is ∙ image) by.0 in (
          opened,
          set_holds steady names places set (parts_of new) now true (meaning new) volumes groups (parts_after set old new number disks by.1.is arms ∙ ap (one_set set.slot) is) by.1.set_of state_disk opened.on_disk shows_now
              (subst (λ (g : GroupState). AreGroups steady names set g now.state true groups) (sym arms.group) are_now),
        )

    module _ (name : List ℕ) (k : ℕ) (sought : position (bytes_eq name) names ≡ Some k) where
      abbrev marked : List VolumeState
      marked = with_volume_of host.volumes name (λ v. record v { armed = true })

      role_armed : (r : Part) → role_in set k ≡ r → r ≢ Plain → ArmsGroup old (number_of r) tear true new → IsOpen set new × HoldsSet steady names places set (parts_of new) (meaning new) marked host.groups
      role_armed Plain at differs arms = absurd (differs refl)
      role_armed Master at differs arms =
          held_by 1 arms (record disks { master = armed disks.master }) (armed_disks set old new 1 disks by.1.is arms) refl by.1.state_disk marked host.groups
          (master_marked steady names host places set disks same shows by.1.set_of true name (sought ∙ ap (λ (n : ℕ). Some n) (at_master set k at)) (armed disks.master) (marks_armed steady disks.master)) are
      role_armed Shadow at differs arms =
          held_by 2 arms (record disks { shadow = armed disks.shadow }) (armed_disks set old new 2 disks by.1.is arms) refl by.1.state_disk marked host.groups
          (shadow_marked steady names host places set disks same shows by.1.set_of true name (sought ∙ ap (λ (n : ℕ). Some n) (at_shadow set k at)) (armed disks.shadow) (marks_armed steady disks.shadow)) are
      role_armed Bitmap at differs arms =
          held_by 3 arms (record disks { bitmap = armed disks.bitmap }) (armed_disks set old new 3 disks by.1.is arms) refl by.1.state_disk marked host.groups
          (bitmap_marked steady names host places set disks same shows by.1.set_of true name (sought ∙ ap (λ (n : ℕ). Some n) (at_bitmap set k at)) (armed disks.bitmap) (marks_armed steady disks.bitmap)) are

      -- a disk that is not armed is not steady
      role_unarmed : (r : Part) → role_in set k ≡ r → r ≢ Plain → ArmsGroup old (number_of r) tear false new → steady ≡ true → ⊥
      role_unarmed Plain at differs arms is = differs refl
      role_unarmed Master at differs arms is =
          let v = (three_volumes steady names host places set disks true same shows by.1.set_of).master in
          false≢true (arms.sure disks.master (ap (λ (l : List Seen). slice_get l 1) (four_list old set.slot disks by.1.is)) (ap (λ (s : Shown). s.steady) v.is ∙ is))
      role_unarmed Shadow at differs arms is =
          let v = (three_volumes steady names host places set disks true same shows by.1.set_of).shadow in
          false≢true (arms.sure disks.shadow (ap (λ (l : List Seen). slice_get l 2) (four_list old set.slot disks by.1.is)) (ap (λ (s : Shown). s.steady) v.is ∙ is))
      role_unarmed Bitmap at differs arms is =
          let v = (three_volumes steady names host places set disks true same shows by.1.set_of).bitmap in
          false≢true (arms.sure disks.bitmap (ap (λ (l : List Seen). slice_get l 3) (four_list old set.slot disks by.1.is)) (ap (λ (s : Shown). s.steady) v.is ∙ is))

    -- the state disk
    module _ (name : List ℕ) (named : bytes_eq set.name name ≡ true) where
      abbrev number : ℕ
      number = position_or_len (λ (held : ShadowGroup). bytes_eq name held.name) host.groups

      is_first : number ≡ 0
      is_first = one_place host name (group_with names set (meaning old) are.0) are.1 ∙ cond-true (bytes_eq name set.name) 0 1 (same_either name set.name ∙ named)

      state_groups : slice_set host.groups number (record (group_at host number) { armed = true }) ≡ group_with names set (meaning old) true ∷ []
      state_groups = λ i. slice_set (are.1 i) (is_first i) (record (group_at (record host { groups = are.1 i }) (is_first i)) { armed = true })

      state_armed : ArmsGroup old 0 tear true new
          → IsOpen set new × HoldsSet steady names places set (parts_of new) (meaning new) host.volumes (slice_set host.groups number (record (group_at host number) { armed = true }))
      state_armed arms =
          held_by 0 arms (record disks { state = armed disks.state }) (armed_disks set old new 0 disks by.1.is arms) refl
          (record { told = by.1.state_disk.told; room = by.1.state_disk.room; same = by.1.state_disk.same }) host.volumes (slice_set host.groups number (record (group_at host number) { armed = true })) shows
          (true, state_groups, λ sure. refl)

    state_unarmed : ArmsGroup old 0 tear false new → steady ≡ true → ⊥
    state_unarmed arms is = false≢true (arms.sure disks.state (ap (λ (l : List Seen). slice_get l 0) (four_list old set.slot disks by.1.is)) (by.1.state_disk.same ∙ is))

  -- ---- what a store holds then

  is_false : (b : Bool) → (b ≡ true → ⊥) → b ≡ false
  is_false true not = absurd (not refl)
  is_false false not = refl

  -- there are as many state disks
  made_armed : (group group' : GroupView) (n : ℕ) (result : Bool) → ArmsView group n tear result group' → disks_made group' ≡ disks_made group
  made_armed NoGroup group' n result arms = ap disks_made arms.1
  made_armed (FreeDisk d) group' n result arms = ap disks_made arms.1
  made_armed (InMemory set held) group' n result arms = ap disks_made arms.2
  made_armed (OnDisks set parts) group' n result arms = ap disks_made arms.1

  module _ (steady : Bool) (old new : StoreView) (s : State) (holds : Holds steady old s) (phase : IsPhase true old.group) where
    module _ (name : List ℕ) (k : ℕ) (sought : position (bytes_eq name) old.names ≡ Some k) where
      abbrev next : State
      next = with_armed s P (OfVolume name) true

      -- the volume
      abbrev v : VolumeState
      v = (volume_named old.names s.p holds.same_names name k sought).volume

      there : slice_get s.p.volumes k ≡ Some v
      there = (volume_named old.names s.p holds.same_names name k sought).there

      changed : next.p.volumes ≡ slice_set s.p.volumes k (record v { armed = true })
      changed = with_volume_of-place s.p.volumes name (λ w. record w { armed = true }) k v (volume_named old.names s.p holds.same_names name k sought).here there

      -- one whose disk is here
      module _ (d : Seen) (p : Seen → Place Seen) (shows : (x : Seen) → shown (p (armed x)) ≡ record (shown (p x)) { armed = (shown (p x)).steady && true }) (here : slice_get old.places k ≡ Some (p d)) (serves : role_by old.group k ≡ Plain) where
        here_armed : (d' : Seen) → Arms d tear true d' → new.places ≡ slice_set old.places k (p d') → new ≡ record old { places = new.places } → Holds steady new next
        here_armed d' arms places is =
            let f = found_plain steady old s name k (p d) holds serves sought here in
            let now : shown (p d') ≡ expected steady (record f.volume { armed = true }) =
            ap (λ (x : Seen). shown (p x)) (arms.armed refl) ∙ shows d ∙ (λ i. record (f.is i) { armed = (f.is i).steady && true }) in
            subst (λ (store : StoreView). Holds steady store next) (sym (is ∙ ap (λ (l : List (Place Seen)). record old { places = l }) places))
            (holds_plain steady old s next k (p d') f.volume (record f.volume { armed = true }) holds serves f.there
            (with_volume_of-place s.p.volumes name (λ w. record w { armed = true }) k f.volume f.here f.there) refl refl refl refl refl now)

        here_unarmed : AreSure old.places → (d' : Seen) → Arms d tear false d' → disk_here (Some (p d)) ≡ Some d → (shown (p d)).steady ≡ d.steady → steady ≡ false
        here_unarmed are_sure d' arms own own_steady =
            let f = found_plain steady old s name k (p d) holds serves sought here in
            is_false steady (λ so. false≢true (arms.answer ∙ are_sure.sure k d (ap disk_here here ∙ own) (sym own_steady ∙ ap (λ (x : Shown). x.steady) f.is ∙ so)))

      -- the place of a volume that serves as nothing
      by_place : (result : Bool) (p : Place Seen) → slice_get old.places k ≡ Some p → ArmsHere old k tear result new → ArmsPlace (disk_here (Some p)) old.places k tear result new.places
      by_place result p here arms = subst (λ (o : Option (Place Seen)). ArmsPlace (disk_here o) old.places k tear result new.places) here arms.arms

      put_at : (p : Place Seen) (d : Seen) → slice_get old.places k ≡ Some p → new.places ≡ places_with old.places k d → new.places ≡ slice_set old.places k (with_disk p d)
      put_at p d here is = is ∙ ap (λ (q : Place Seen). slice_set old.places k (with_disk q d)) (get_or_from_slice_get old.places k p Lent here)

      plain_armed : k < length old.places → role_by old.group k ≡ Plain → ArmsHere old k tear true new → Holds steady new next
      plain_armed lt serves arms = by (element old.places k lt).0 (element old.places k lt).1
        where
          by : (p : Place Seen) → slice_get old.places k ≡ Some p → Holds steady new next
          by (Here d) here = let a = by_place true (Here d) here arms in here_armed d (λ x. Here x) (λ x. refl) here serves a.0 a.1 (put_at (Here d) a.0 here a.2) arms.is
          by (Spent d) here = let a = by_place true (Spent d) here arms in here_armed d (λ x. Spent x) (λ x. refl) here serves a.0 a.1 (put_at (Spent d) a.0 here a.2) arms.is
          by Lent here = let a = by_place true Lent here arms in absurd (false≢true (sym a.0))

      plain_unarmed : AreSure old.places → k < length old.places → role_by old.group k ≡ Plain → ArmsHere old k tear false new → steady ≡ false
      plain_unarmed sure lt serves arms = by (element old.places k lt).0 (element old.places k lt).1
        where
          by : (p : Place Seen) → slice_get old.places k ≡ Some p → steady ≡ false
          by (Here d) here = let a = by_place false (Here d) here arms in here_unarmed d (λ x. Here x) (λ x. refl) here serves sure a.0 a.1 refl refl
          by (Spent d) here = let a = by_place false (Spent d) here arms in here_unarmed d (λ x. Spent x) (λ x. refl) here serves sure a.0 a.1 refl refl
          by Lent here = let f = found_plain steady old s name k Lent holds serves sought here in absurd (not_lent steady f.volume f.is)

      -- one whose disk the group has
      lent_armed : (r : Part) (group group' : GroupView) → HoldsBy steady old.names old.places group s.p.volumes s.p.groups → ArmsView group (number_of r) tear true group' → role_by group k ≡ r → r ≢ Plain
          → HoldsBy steady old.names old.places group' next.p.volumes next.p.groups × IsPhase true group'
      lent_armed r NoGroup group' by arms serves differs = absurd (differs (sym serves))
      lent_armed r (FreeDisk d) group' by arms serves differs = absurd (differs (sym serves))
      lent_armed r (OnDisks set parts) group' by arms serves differs = absurd (false≢true (sym arms.0))
      lent_armed r (InMemory set held) group' by arms serves differs =
          subst (λ (g : GroupView). HoldsBy steady old.names old.places g next.p.volumes next.p.groups × IsPhase true g) (sym arms.2)
          (role_armed steady old.names old.places s.p holds.same_names set held arms.0 by name k sought r serves differs arms.1, refl)

      lent_unarmed : (r : Part) (group group' : GroupView) → HoldsBy steady old.names old.places group s.p.volumes s.p.groups → IsPhase true group → ArmsView group (number_of r) tear false group' → role_by group k ≡ r → r ≢ Plain → steady ≡ false
      lent_unarmed r NoGroup group' by up arms serves differs = absurd (differs (sym serves))
      lent_unarmed r (FreeDisk d) group' by up arms serves differs = absurd (differs (sym serves))
      lent_unarmed r (OnDisks set parts) group' by up arms serves differs = absurd (false≢true (sym up))
      lent_unarmed r (InMemory set held) group' by up arms serves differs =
          is_false steady (role_unarmed steady old.names old.places s.p holds.same_names set held arms.0 by name k sought r serves differs arms.1)

      lent_holds : (r : Part) → role_by old.group k ≡ r → r ≢ Plain → ArmsLent old (number_of r) tear true new → Holds steady new next × IsPhase true new.group
      lent_holds r serves differs arms =
          let by = lent_armed r old.group new.group holds.by arms.arms serves differs in (
            subst (λ (store : StoreView). Holds steady store next) (sym arms.is)
                (holds_changed s.p.volumes k v (record v { armed = true }) there steady old s next old.places new.group holds refl changed refl refl refl (made_armed old.group new.group (number_of r) true arms.arms ∙ holds.same_disks) by.0),
            by.1,
          )

      lent_none : (r : Part) → role_by old.group k ≡ r → r ≢ Plain → ArmsLent old (number_of r) tear false new → steady ≡ false
      lent_none r serves differs arms = lent_unarmed r old.group new.group holds.by phase arms.arms serves differs

      -- by what it serves as
      volume_armed : (r : Part) → role_by old.group k ≡ r → k < length old.places → ArmsBy r old k tear true new → Holds steady new next × IsPhase true new.group
      volume_armed Plain serves lt arms = (plain_armed lt serves arms, subst (λ (store : StoreView). IsPhase true store.group) (sym arms.is) phase)
      volume_armed Master serves lt arms = lent_holds Master serves (λ e. cc) arms
      volume_armed Shadow serves lt arms = lent_holds Shadow serves (λ e. cc) arms
      volume_armed Bitmap serves lt arms = lent_holds Bitmap serves (λ e. cc) arms

      volume_unarmed : AreSure old.places → (r : Part) → role_by old.group k ≡ r → k < length old.places → ArmsBy r old k tear false new → steady ≡ false
      volume_unarmed sure Plain serves lt arms = plain_unarmed sure lt serves arms
      volume_unarmed sure Master serves lt arms = lent_none Master serves (λ e. cc) arms
      volume_unarmed sure Shadow serves lt arms = lent_none Shadow serves (λ e. cc) arms
      volume_unarmed sure Bitmap serves lt arms = lent_none Bitmap serves (λ e. cc) arms

    -- the state disk of a group
    module _ (name : List ℕ) where
      abbrev then : State
      then = with_armed s P (disk_place s.p (disk.StateOf name)) true

      group_armed : (group group' : GroupView) → HoldsBy steady old.names old.places group s.p.volumes s.p.groups → is_group group name ≡ true → ArmsView group 0 tear true group'
          → HoldsBy steady old.names old.places group' then.p.volumes then.p.groups × IsPhase true group'
      group_armed NoGroup group' by named arms = absurd (false≢true named)
      group_armed (FreeDisk d) group' by named arms = absurd (false≢true named)
      group_armed (OnDisks set parts) group' by named arms = absurd (false≢true named)
      group_armed (InMemory set held) group' by named arms =
          subst (λ (g : GroupView). HoldsBy steady old.names old.places g then.p.volumes then.p.groups × IsPhase true g) (sym arms.2)
          (state_armed steady old.names old.places s.p holds.same_names set held arms.0 by name named arms.1, refl)

      group_unarmed : (group group' : GroupView) → HoldsBy steady old.names old.places group s.p.volumes s.p.groups → is_group group name ≡ true → ArmsView group 0 tear false group' → steady ≡ false
      group_unarmed NoGroup group' by named arms = absurd (false≢true named)
      group_unarmed (FreeDisk d) group' by named arms = absurd (false≢true named)
      group_unarmed (OnDisks set parts) group' by named arms = absurd (false≢true named)
      group_unarmed (InMemory set held) group' by named arms = is_false steady (state_unarmed steady old.names old.places s.p holds.same_names set held arms.0 by arms.1)

      -- it is the first
      named_there : (group : GroupView) → HoldsBy steady old.names old.places group s.p.volumes s.p.groups → is_group group name ≡ true → group_of s.p name ≡ Some 0
      named_there NoGroup by named = absurd (false≢true named)
      named_there (FreeDisk d) by named = absurd (false≢true named)
      named_there (OnDisks set parts) by named = absurd (false≢true named)
      named_there (InMemory set held) by named =
          let are = open_groups steady old.names old.places set held s.p.volumes s.p.groups by.0 by.1 in
          group_there s.p name (group_with old.names set (meaning held) are.0) are.1 (same_either name set.name ∙ named)

      state_holds : is_group old.group name ≡ true → ArmsLent old 0 tear true new → Holds steady new then × IsPhase true new.group
      state_holds named arms =
          let by = group_armed old.group new.group holds.by named arms.arms in (
            subst (λ (store : StoreView). Holds steady store then) (sym arms.is)
                (record { same_names = holds.same_names; same_blocks = holds.same_blocks; no_other = holds.no_other; same_disks = made_armed old.group new.group 0 true arms.arms ∙ holds.same_disks; by = by.0 }),
            by.1,
          )

      state_none : is_group old.group name ≡ true → ArmsLent old 0 tear false new → steady ≡ false
      state_none named arms = group_unarmed old.group new.group holds.by named arms.arms

    -- a tear was armed
    pub target_armed : (target : ArmTarget) → ArmsTarget old target tear true new → Holds steady new (with_armed s P (disk_place s.p target) true) × IsPhase true new.group
    target_armed (disk.Volume name) arms = volume_armed name arms.0 arms.1 (role_by old.group arms.0) refl arms.2 arms.3
    target_armed (disk.StateOf name) arms = state_holds name arms.0 arms.1

    -- the disk lets none be armed
    pub target_unarmed : AreSure old.places → (target : ArmTarget) → ArmsTarget old target tear false new → steady ≡ false
    target_unarmed sure (disk.Volume name) arms = volume_unarmed name arms.0 arms.1 sure (role_by old.group arms.0) refl arms.2 arms.3
    target_unarmed sure (disk.StateOf name) arms = state_none name arms.0 arms.1

    -- it is there
    pub target_passes : (result : Bool) (target : ArmTarget) → ArmsTarget old target tear result new → (skip first count : ℕ) → s.p.up ≡ true → refusal s (Arm P target skip first count) ≡ None
    target_passes result (disk.Volume name) arms skip first count up =
        let is = volume_named old.names s.p holds.same_names name arms.0 arms.1 in arm_volume_passes s skip first count up name is.volume is.named
    target_passes result (disk.StateOf name) arms skip first count up = arm_group_passes s skip first count up name 0 (named_there name old.group holds.by arms.0)

  -- ---- the answer has its cause in the disk

  abbrev pub answer_of : Bool → Answer
  answer_of true = Done
  answer_of false = Refused (WrongState Unarmed)

  as_answer : (o : Option Seen) (result : Bool) → result ≡ option_map_or (λ (d : Seen). d.arms) o false → ArmsAsDisk o (answer_of result)
  as_answer None true is = tt
  as_answer None false is = tt
  as_answer (Some d) true is = sym is
  as_answer (Some d) false is = ap not (sym is)

  view_answer : (group group' : GroupView) (n : ℕ) (result : Bool) → ArmsView group n tear result group' → result ≡ option_map_or (λ (d : Seen). d.arms) (slice_get (open_disks group) n) false
  view_answer NoGroup group' n result arms = arms.0
  view_answer (FreeDisk d) group' n result arms = arms.0
  view_answer (OnDisks set parts) group' n result arms = arms.0
  view_answer (InMemory set held) group' n result arms = arms.1.answer

  place_answer : (o : Option Seen) (old new : List (Place Seen)) (k : ℕ) (result : Bool) → ArmsPlace o old k tear result new → result ≡ option_map_or (λ (d : Seen). d.arms) o false
  place_answer None old new k result arms = arms.0
  place_answer (Some d) old new k result arms = arms.1.answer

  role_answer : (r : Part) (old new : StoreView) (k : ℕ) (result : Bool) → ArmsBy r old k tear result new → ArmsAsDisk (role_disk old k r) (answer_of result)
  role_answer Plain old new k result arms = as_answer (disk_here (slice_get old.places k)) result (place_answer (disk_here (slice_get old.places k)) old.places new.places k result arms.arms)
  role_answer Master old new k result arms = as_answer (slice_get (open_disks old.group) 1) result (view_answer old.group new.group 1 result arms.arms)
  role_answer Shadow old new k result arms = as_answer (slice_get (open_disks old.group) 2) result (view_answer old.group new.group 2 result arms.arms)
  role_answer Bitmap old new k result arms = as_answer (slice_get (open_disks old.group) 3) result (view_answer old.group new.group 3 result arms.arms)

  pub target_answer : (old new : StoreView) (target : ArmTarget) (result : Bool) → ArmsTarget old target tear result new → ArmsAsDisk (target_disk old target) (answer_of result)
  target_answer old new (disk.Volume name) result arms =
      subst (λ (o : Option ℕ). ArmsAsDisk (option_and_then (λ place. role_disk old place (role_by old.group place)) o) (answer_of result)) (sym arms.1)
      (role_answer (role_by old.group arms.0) old new arms.0 result arms.3)
  target_answer old new (disk.StateOf name) result arms = as_answer (slice_get (open_disks old.group) 0) result (view_answer old.group new.group 0 result arms.1.arms)

  -- the host is as it was
  pub next_up : (s : State) (target : ArmTarget) → s.p.up ≡ true → (with_armed s P (disk_place s.p target) true).p.up ≡ true
  next_up s (disk.Volume name) up = up
  next_up s (disk.StateOf name) up = up

  pub next_none : (s : State) (target : ArmTarget) → s.p.stopped ≡ None → (with_armed s P (disk_place s.p target) true).p.stopped ≡ None
  next_none s (disk.Volume name) none = none
  next_none s (disk.StateOf name) none = none
