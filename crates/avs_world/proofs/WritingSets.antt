-- What writing blocks of a set's master or shadow makes of a store.
use Rattle.std.proofs.Common.{◌≡◌, ◌⊎◌, ℕ, zero, suc, Bool, true, false, ◌&&◌, Option, Some, Ok, Err, List, [], ◌∷◌, map, refl, sym, ◌∙◌, ap, subst, inl, inr}
use Rattle.std.specs.Prelude.{IsTrue, Result, slice_set}
use Rattle.std.specs.List.{slice_get, position}
use Rattle.std.specs.Option.{option_map_or}
use Rattle.std.specs.Str.{bytes_eq}
use Rattle.std.proofs.lemmas.Bool.{cases_Bool, false≢true}
use Rattle.std.proofs.lemmas.Option.{same_Some}
use Rattle.avs_seg.specs.Image.{Image, blocks_of}
use Rattle.avs_dev.specs.Devices.{UsesOneTear}
use Rattle.avs_dev.specs.Seen.{Seen}
use Rattle.avs_model.specs.Shadows.{GroupState, GroupStage, blocks_at, volume_write_stages, shadow_write_stages}
use Rattle.avs_model.specs.Shadows as shadows
use Rattle.avs_model.specs.State.{State, VolumeState, HostState, ShadowGroup, Use, MasterIn, ShadowIn, OfVolume, use_from, use_of, size_of, reach_by, reach_of, with_armed, with_volume_of}
use Rattle.avs_model.specs.Stages.{Stage, write_stages, after_stages, StoppedIn}
use Rattle.avs_model.specs.Right.{IsInGroup, IsWrittenWith}
use Rattle.avs_model.specs.declared.event.Host.TheVariants.{P}
use Rattle.avs_model.specs.declared.answer.Refusal.{Refusal}
use Rattle.avs_model.specs.declared.answer.Refusal.TheVariants.{Fault}
use Rattle.avs_world.specs.declared.group.Part.{Part}
use Rattle.avs_world.specs.declared.group.Part.TheVariants.{Master, Shadow, Bitmap}
use Rattle.avs_model.proofs.Volumes.{with_volume_of-place}
use Rattle.avs_world.proofs.Within.{holding, group_in, within, after_within, stopped_within}
use Rattle.avs_ii.specs.Held.{IiDisks, disks_of, is_live, set_at}
use Rattle.avs_ii.specs.Meaning.{kept_on, meaning}
use Rattle.avs_ii.specs.Sound.{IsSound}
use Rattle.avs_ii.specs.Parts.{parts_of}
use Rattle.avs_ii.specs.Calls.{armed_of, are_steady, IsFoundAgain}
use Rattle.avs_world.specs.declared.group.ShadowSet.{ShadowSet}
use Rattle.avs_world.specs.declared.ranges.Target.{Target}
use Rattle.avs_world.specs.Views.{GroupView, InMemory, OnDisks, StoreView, FourDisks, closed, SameApart, IsSameApart}
use Rattle.avs_world.specs.Ranges.{role_in, IsReached}
use Rattle.avs_world.specs.Causes.{group_disks}
use Rattle.avs_world.specs.Holds.{Shown, kept, gone, shown, expected, shown_with, name_at, group_with, AreGroups, HoldsSet, HoldsBy, Holds, IsPhase, disks_made}
use Rattle.avs_world.specs.Calls.{IsOf, WritesMaster, WritesShadow, StopsWrite, SamePlace, IsEnabled, WritesOpen}
use Rattle.avs_world.proofs.Holding.{Found, holds_changed, open_shows, three_volumes, use_as, use_in_set}
use Rattle.avs_world.proofs.Tears.{four, StaysOne, hidden_marked, master_marked, shadow_marked, bitmap_marked}
use Rattle.avs_world.proofs.OneSet.{role_master, role_shadow, role_bitmap, found_master, found_shadow, found_bitmap}
use Rattle.avs_world.proofs.Staying.{AreFourTold, KeepsGroup, set_with, shown_unarmed, stays, same_state, old_one, blocks_same, old_told, new_told, old_disks, new_disks, marks, hidden_same}
use Rattle.avs_world.proofs.SamePlaces.{look, looks_same, size_same, same_place}
use Rattle.avs_world.proofs.Reading.{group_held, only_group, used_as, all_steady, opened_still, rose_in, set_reached, why_fault}

-- What a call that writes makes of a group: all its stages are done, or it is stopped.
pub record IsWritten (old new : IiDisks) (stages : List GroupStage) : Type 0 where
  pub keeps : KeepsGroup old new
  pub armed : armed_of new ≡ armed_of old
  pub done : IsSound old → meaning new ≡ shadows.after_stages (meaning old) stages
  pub sound : IsSound old → IsSound new

pub record IsStopped (old new : IiDisks) (stages : List GroupStage) : Type 0 where
  pub keeps : KeepsGroup old new
  pub spent : IsTrue (are_steady old) → UsesOneTear (armed_of old) (armed_of new)
  pub stopped : IsSound old → shadows.StoppedIn (meaning old) stages (meaning new)
  pub whole : IsFoundAgain old new

-- The tear that was met is one of the set's three volumes.
data TornOn (m s b m' s' b' : Bool) : Type 0 where
  on_master : m ≡ true → m' ≡ false → s' ≡ s → b' ≡ b → TornOn m s b m' s' b'
  on_shadow : s ≡ true → m' ≡ m → s' ≡ false → b' ≡ b → TornOn m s b m' s' b'
  on_bitmap : b ≡ true → m' ≡ m → s' ≡ s → b' ≡ false → TornOn m s b m' s' b'

torn_on : (device : ℕ) (t m s b t' m' s' b' : Bool) → slice_get (t ∷ m ∷ s ∷ b ∷ []) device ≡ Some true → t' ∷ m' ∷ s' ∷ b' ∷ [] ≡ slice_set (t ∷ m ∷ s ∷ b ∷ []) device false → t' ≡ t → TornOn m s b m' s' b'
torn_on zero t m s b t' m' s' b' was is same =
    let off : t' ≡ false = cc in
    absurd (false≢true (sym off ∙ same ∙ same_Some t true was))
torn_on (suc zero) t m s b t' m' s' b' was is same = on_master (same_Some m true was) (cc) (cc) (cc)
torn_on (suc (suc zero)) t m s b t' m' s' b' was is same = on_shadow (same_Some s true was) (cc) (cc) (cc)
torn_on (suc (suc (suc zero))) t m s b t' m' s' b' was is same = on_bitmap (same_Some b true was) (cc) (cc) (cc)
torn_on (suc (suc (suc (suc n)))) t m s b t' m' s' b' was is same = absurd (cc)

-- A group in memory, whose volume of a name is written.
module _ (steady : Bool) (old : StoreView) (set : ShadowSet) (held new : IiDisks) (state : State) (was : old.group ≡ InMemory set held) (holds : Holds steady old state) (at : ℕ) (blocks : Image) (name : List ℕ) (stages : List GroupStage)
    (stages_are : (host : HostState) → host.groups ≡ state.p.groups → write_stages host P name at blocks (use_of host name) ≡ map within stages) where
  abbrev by : HoldsBy steady old.names old.places (InMemory set held) state.p.volumes state.p.groups
  by = group_held steady old set held state was holds

  abbrev are : AreGroups steady old.names set (meaning held) by.1.disks.state true state.p.groups
  are = only_group steady old set held state was holds

  abbrev group : ShadowGroup
  group = group_with old.names set (meaning held) are.0

  same_made : 1 ≡ state.p.state_disks
  same_made = sym (ap disks_made was) ∙ holds.same_disks

  pub set_done : IsWritten held new stages → Holds steady (record old { group = InMemory set new }) (after_stages state (write_stages state.p P name at blocks (use_of state.p name)))
  set_done written =
      let left = holding state (group_in group (shadows.after_stages (meaning held) stages)) in
      let after : after_stages state (write_stages state.p P name at blocks (use_of state.p name)) ≡ left =
      ap (after_stages state) (stages_are state.p refl) ∙ after_within state group are.1 stages in
      let shows = shown_unarmed steady old.names old.places set held new (meaning held) state.p.volumes state.p.groups by.0 by.1 written.keeps written.armed in
      subst (λ (s : State). Holds steady (record old { group = InMemory set new }) s) (sym after)
      (record {
        same_names = holds.same_names;
        same_blocks = holds.same_blocks;
        no_other = holds.no_other;
        same_disks = same_made;
        by = (
          opened_still steady old.names old.places set held new state.p.volumes state.p.groups written.keeps by.0 (written.sound by.0.sound) by.1,
          set_with steady old.names old.places set held new (meaning held) state.p.volumes state.p.groups by.0 by.1 written.keeps are state.p.volumes (meaning new) left.p.groups shows
              (ap (λ (g : GroupState). group_with old.names set g are.0 ∷ []) (sym (written.done by.0.sound))),
        );
      })

  -- it is stopped: the tear that was met is armed no more
  module _ (stopped : IsStopped held new stages) (same : IsSameApart new) where
    abbrev closed_store : StoreView
    closed_store = record old { group = OnDisks set (parts_of new) }

    abbrev disks : FourDisks
    disks = (stays steady old.names old.places set held new (meaning held) state.p.volumes state.p.groups by.0 by.1 stopped.keeps).disks

    abbrev left_in : State → State
    left_in mid = holding mid (group_in group (meaning new))

    stops_in : (mid : State) → mid.p.groups ≡ state.p.groups → StoppedIn mid (write_stages mid.p P name at blocks (use_of mid.p name)) (left_in mid)
    stops_in mid groups =
        subst (λ (l : List Stage). StoppedIn mid l (left_in mid)) (sym (stages_are mid.p groups)) (stopped_within mid group (groups ∙ are.1) stages (meaning new) (stopped.stopped by.0.sound))

    -- the disks hold the group, with these volumes
    apart_by : (vs : List VolumeState) → shown_with old.places set disks true ≡ map (expected steady) vs → HoldsBy steady old.names old.places (OnDisks set (parts_of new)) vs (group_in group (meaning new) ∷ [])
    apart_by vs shows = (
      record { told = stopped.keeps.told by.0.told; whole = stopped.whole.after by.0.told (stopped.whole.before by.0.sound) },
      subst (λ (g : GroupState). HoldsSet steady old.names old.places set (parts_of new) g vs (group_in group (meaning new) ∷ [])) (sym same.meaning)
          (set_with steady old.names old.places set held new (meaning held) state.p.volumes state.p.groups by.0 by.1 stopped.keeps are vs (meaning new) (group_in group (meaning new) ∷ []) shows refl),
    )

    abbrev was_disks : FourDisks
    was_disks = by.1.disks

    was_told : AreFourTold was_disks
    was_told = old_told steady old.names old.places set held new (meaning held) state.p.volumes state.p.groups by.0 by.1 stopped.keeps

    is_told : AreFourTold disks
    is_told = new_told steady old.names old.places set held new (meaning held) state.p.volumes state.p.groups by.0 by.1 stopped.keeps

    abbrev stayed : StaysOne was_disks set (old_one steady old.names old.places set held new (meaning held) state.p.volumes state.p.groups by.0 by.1 stopped.keeps).one.chunks.blocks new
    stayed = stays steady old.names old.places set held new (meaning held) state.p.volumes state.p.groups by.0 by.1 stopped.keeps

    was_shown : shown_with old.places set was_disks true ≡ map (expected steady) state.p.volumes
    was_shown = open_shows steady old.names old.places set held state.p.volumes state.p.groups by.0 by.1

    shown_by : (b m s : Shown) → gone disks.bitmap ≡ b → kept disks.master ≡ m → kept disks.shadow ≡ s
        → shown_with old.places set disks true ≡ slice_set (slice_set (slice_set (map shown old.places) set.bitmap b) set.master m) set.shadow s
    shown_by b m s is_b is_m is_s = λ i. slice_set (slice_set (slice_set (map shown old.places) set.bitmap (is_b i)) set.master (is_m i)) set.shadow (is_s i)

    same_master : disks.master.armed ≡ was_disks.master.armed → kept disks.master ≡ kept was_disks.master
    same_master = hidden_same was_disks.master disks.master stayed.master was_told.master is_told.master false

    same_shadow : disks.shadow.armed ≡ was_disks.shadow.armed → kept disks.shadow ≡ kept was_disks.shadow
    same_shadow = hidden_same was_disks.shadow disks.shadow stayed.shadow was_told.shadow is_told.shadow false

    same_bitmap : disks.bitmap.armed ≡ was_disks.bitmap.armed → gone disks.bitmap ≡ gone was_disks.bitmap
    same_bitmap = hidden_same was_disks.bitmap disks.bitmap stayed.bitmap was_told.bitmap is_told.bitmap true

    -- disks that are not steady show nothing of a tear
    shown_other : steady ≡ false → shown_with old.places set disks true ≡ map (expected steady) state.p.volumes
    shown_other other =
        let three = three_volumes steady old.names state.p old.places set was_disks true holds.same_names was_shown by.1.set_of in
        let m = three.master.volume in
        let s = three.shadow.volume in
        let b = three.bitmap.volume in
        shown_by (gone was_disks.bitmap) (kept was_disks.master) (kept was_disks.shadow)
        (hidden_marked steady was_disks.bitmap disks.bitmap b.armed b (marks was_disks.bitmap disks.bitmap stayed.bitmap was_told.bitmap is_told.bitmap steady b.armed (λ is. absurd (false≢true (sym other ∙ is)))) true three.bitmap.is ∙ sym three.bitmap.is)
        (hidden_marked steady was_disks.master disks.master m.armed m (marks was_disks.master disks.master stayed.master was_told.master is_told.master steady m.armed (λ is. absurd (false≢true (sym other ∙ is)))) false three.master.is ∙ sym three.master.is)
        (hidden_marked steady was_disks.shadow disks.shadow s.armed s (marks was_disks.shadow disks.shadow stayed.shadow was_told.shadow is_told.shadow steady s.armed (λ is. absurd (false≢true (sym other ∙ is)))) false three.shadow.is ∙ sym three.shadow.is)
        ∙ was_shown

    -- as many blocks of the volume are reached
    abbrev pub Reaches : Type 0
    Reaches = (left : State) → left.p.groups ≡ group_in group (meaning new) ∷ [] → size_of left.p name ≡ size_of state.p name → reach_of left.p name ≡ reach_of state.p name

    place_in : Reaches → (mid : State) → map look mid.p.volumes ≡ map look state.p.volumes → SamePlace name state (left_in mid)
    place_in reaches mid same =
        same_place state (left_in mid) name same (ap (λ (gs : List ShadowGroup). use_from 0 gs name) (sym are.1)) (reaches (left_in mid) refl (size_same state (left_in mid) name same))

    stopped_other : Reaches → steady ≡ false → StopsWrite steady state name at blocks closed_store
    stopped_other reaches other = record {
      mid = state;
      tear = inr (other, refl);
      left = left_in state;
      stopped = stops_in state refl;
      holds = record {
        same_names = holds.same_names;
        same_blocks = holds.same_blocks;
        no_other = holds.no_other;
        same_disks = same_made;
        by = apart_by state.p.volumes (shown_other other);
      };
      place = place_in reaches state refl;
    }

    module _ (reaches : Reaches) (writes_in : (volume : List ℕ) → IsInGroup 0 (use_of state.p volume) → IsWrittenWith state.p (use_of state.p name) name volume) where
      abbrev unarm : VolumeState → VolumeState
      unarm v = record v { armed = false }

      -- a tear of a volume of the set, which was armed and shows no more
      torn_volume : (volume : List ℕ) (k : ℕ) (role : Part) (d : Shown) → position (bytes_eq volume) old.names ≡ Some k → role_in set k ≡ role → IsInGroup 0 (use_as role) → (f : Found steady state.p volume k d) → steady ≡ true → d.armed ≡ true
          → shown_with old.places set disks true ≡ map (expected steady) (with_volume_of state.p.volumes volume unarm) → StopsWrite steady state name at blocks closed_store
      torn_volume volume k role d sought role_is in_group f is_steady was_armed shows =
          let use_is : use_of state.p volume ≡ use_as role = use_in_set old.names state.p set (meaning held) are.0 are.1 volume k by.1.set_of sought ∙ ap use_as role_is in
          let v = f.volume in
          let armed_is : v.armed ≡ true = sym (λ i. is_steady i && v.armed) ∙ sym (ap (λ (s : Shown). s.armed) f.is) ∙ was_armed in
          let mid = with_armed state P (OfVolume volume) false in
          record {
            mid = mid;
            tear = inl (
              OfVolume volume,
              writes_in volume (subst (λ (u : Use). IsInGroup 0 u) (sym use_is) in_group),
              ap (λ (o : Option VolumeState). option_map_or (λ (w : VolumeState). w.armed) o false) f.named ∙ armed_is,
              refl,
            );
            left = left_in mid;
            stopped = stops_in mid refl;
            holds = holds_changed state.p.volumes k v (unarm v) f.there steady old state (left_in mid) old.places (OnDisks set (parts_of new)) holds refl
                (with_volume_of-place state.p.volumes volume unarm k v f.here f.there) refl refl refl same_made (apart_by mid.p.volumes shows);
            place = place_in reaches mid (looks_same state.p.volumes volume unarm (λ w. refl));
          }

      torn : steady ≡ true → TornOn was_disks.master.armed was_disks.shadow.armed was_disks.bitmap.armed disks.master.armed disks.shadow.armed disks.bitmap.armed → StopsWrite steady state name at blocks closed_store
      torn is_steady (on_master was off s b) =
          let volume = name_at old.names set.master in
          let sought = by.1.set_of.master_there in
          let f = found_master steady old.names state.p old.places set was_disks true holds.same_names was_shown by.1.set_of refl volume set.master sought (role_master set) in
          torn_volume volume set.master Master (kept was_disks.master) sought (role_master set) refl f is_steady (λ i. (ap (λ (d : Shown). d.steady) f.is ∙ is_steady) i && was i)
          (shown_by (gone was_disks.bitmap) (kept disks.master) (kept was_disks.shadow) (same_bitmap b) refl (same_shadow s)
          ∙ master_marked steady old.names state.p old.places set was_disks holds.same_names was_shown by.1.set_of false volume sought disks.master
          (marks was_disks.master disks.master stayed.master was_told.master is_told.master steady false (λ _. off)))
      torn is_steady (on_shadow was m off b) =
          let volume = name_at old.names set.shadow in
          let sought = by.1.set_of.shadow_there in
          let role = role_shadow set by.1.set_of.shadow_differs in
          let f = found_shadow steady old.names state.p old.places set was_disks true holds.same_names was_shown by.1.set_of refl volume set.shadow sought role in
          torn_volume volume set.shadow Shadow (kept was_disks.shadow) sought role refl f is_steady (λ i. (ap (λ (d : Shown). d.steady) f.is ∙ is_steady) i && was i)
          (shown_by (gone was_disks.bitmap) (kept was_disks.master) (kept disks.shadow) (same_bitmap b) (same_master m) refl
          ∙ shadow_marked steady old.names state.p old.places set was_disks holds.same_names was_shown by.1.set_of false volume sought disks.shadow
          (marks was_disks.shadow disks.shadow stayed.shadow was_told.shadow is_told.shadow steady false (λ _. off)))
      torn is_steady (on_bitmap was m s off) =
          let volume = name_at old.names set.bitmap in
          let sought = by.1.set_of.bitmap_there in
          let role = role_bitmap set by.1.set_of.bitmap_differs by.1.set_of.bitmap_differs_too in
          let f = found_bitmap steady old.names state.p old.places set was_disks true holds.same_names was_shown by.1.set_of refl volume set.bitmap sought role in
          torn_volume volume set.bitmap Bitmap (gone was_disks.bitmap) sought role refl f is_steady (λ i. (ap (λ (d : Shown). d.steady) f.is ∙ is_steady) i && was i)
          (shown_by (gone disks.bitmap) (kept was_disks.master) (kept was_disks.shadow) refl (same_master m) (same_shadow s)
          ∙ bitmap_marked steady old.names state.p old.places set was_disks holds.same_names was_shown by.1.set_of false volume sought disks.bitmap
          (marks was_disks.bitmap disks.bitmap stayed.bitmap was_told.bitmap is_told.bitmap steady false (λ _. off)))

      met : steady ≡ true → TornOn was_disks.master.armed was_disks.shadow.armed was_disks.bitmap.armed disks.master.armed disks.shadow.armed disks.bitmap.armed
      met is_steady =
          let used = stopped.spent (all_steady steady old set held state was holds is_steady) in
          let before : armed_of held ≡ map (λ (d : Seen). d.armed) (four was_disks) =
          ap (map (λ (d : Seen). d.armed)) (old_disks steady old.names old.places set held new (meaning held) state.p.volumes state.p.groups by.0 by.1 stopped.keeps) in
          let after : armed_of new ≡ map (λ (d : Seen). d.armed) (four disks) =
          ap (map (λ (d : Seen). d.armed)) (new_disks steady old.names old.places set held new (meaning held) state.p.volumes state.p.groups by.0 by.1 stopped.keeps) in
          torn_on used.device was_disks.state.armed was_disks.master.armed was_disks.shadow.armed was_disks.bitmap.armed disks.state.armed disks.master.armed disks.shadow.armed disks.bitmap.armed
          (ap (λ (l : List Bool). slice_get l used.device) (sym before) ∙ used.was_armed) (sym after ∙ used.is_used ∙ ap (λ (l : List Bool). slice_set l used.device false) before)
          (ap (λ (d : Seen). d.armed) (same_state steady old.names old.places set held new (meaning held) state.p.volumes state.p.groups by.0 by.1 stopped.keeps))

      pub set_stopped : StopsWrite steady state name at blocks closed_store
      set_stopped = elim (cases_Bool steady) [ inl is ↦ torn is (met is) | inr other ↦ stopped_other reaches other ]

-- The stages of a write to the master, and to the shadow.
module _ (steady : Bool) (store : StoreView) (set : ShadowSet) (held : IiDisks) (state : State) (is : store.group ≡ InMemory set held) (holds : Holds steady store state) (target : Target) (name : List ℕ) (at len : ℕ)
    (reached : IsReached store target at len) (sought : IsOf store target name) (blocks : Image) where
  use_there : (role : Part) → target.role ≡ role → (host : HostState) → host.groups ≡ state.p.groups → use_of host name ≡ use_as role
  use_there role role_is host groups =
      ap (λ (gs : List ShadowGroup). use_from 0 gs name) groups ∙ used_as steady store set held state is holds target role name at len reached role_is sought

  master_stages : target.role ≡ Master → (host : HostState) → host.groups ≡ state.p.groups → write_stages host P name at blocks (use_of host name) ≡ map within (volume_write_stages (meaning held).sets 0 at blocks)
  master_stages role host groups =
      ap (write_stages host P name at blocks) (use_there Master role host groups)
      ∙ ap (λ (gs : List ShadowGroup). write_stages (record host { groups = gs }) P name at blocks (MasterIn 0 0)) (groups ∙ (only_group steady store set held state is holds).1)

  shadow_stages : target.role ≡ Shadow → (host : HostState) → host.groups ≡ state.p.groups → write_stages host P name at blocks (use_of host name) ≡ map within (shadow_write_stages set.slot at blocks)
  shadow_stages role host groups =
      ap (write_stages host P name at blocks) (use_there Shadow role host groups)
      ∙ ap (λ (gs : List ShadowGroup). write_stages (record host { groups = gs }) P name at blocks (ShadowIn 0 0)) (groups ∙ (only_group steady store set held state is holds).1)

  -- what is reached of the volume is as it was
  module _ (left : State) (new : GroupState) (groups : left.p.groups ≡ group_in (group_with store.names set (meaning held) (only_group steady store set held state is holds).0) new ∷ []) where
    use_left : (role : Part) → target.role ≡ role → use_of left.p name ≡ use_as role
    use_left role role_is =
        ap (λ (gs : List ShadowGroup). use_from 0 gs name) groups
        ∙ sym (ap (λ (gs : List ShadowGroup). use_from 0 gs name) (only_group steady store set held state is holds).1)
        ∙ used_as steady store set held state is holds target role name at len reached role_is sought

    master_reach : target.role ≡ Master → size_of left.p name ≡ size_of state.p name → reach_of left.p name ≡ reach_of state.p name
    master_reach role size =
        ap (reach_by left.p name) (use_left Master role) ∙ size ∙ sym (ap (reach_by state.p name) (use_there Master role state.p refl))

    shadow_reach : target.role ≡ Shadow → blocks_at new.sets set.slot ≡ blocks_at (meaning held).sets set.slot → reach_of left.p name ≡ reach_of state.p name
    shadow_reach role blocks_are =
        ap (reach_by left.p name) (use_left Shadow role)
        ∙ ap (λ (gs : List ShadowGroup). reach_by (record left.p { groups = gs }) name (ShadowIn 0 0)) groups
        ∙ blocks_are
        ∙ sym (ap (reach_by state.p name) (use_there Shadow role state.p refl) ∙ ap (λ (gs : List ShadowGroup). reach_by (record state.p { groups = gs }) name (ShadowIn 0 0)) (only_group steady store set held state is holds).1)

  written_in : (role : Part) → target.role ≡ role → (use_as role ≡ MasterIn 0 0) ⊎ (use_as role ≡ ShadowIn 0 0) → (volume : List ℕ) → IsInGroup 0 (use_of state.p volume) → IsWrittenWith state.p (use_of state.p name) name volume
  written_in role role_is (inl master) volume in_group =
      subst (λ (u : Use). IsWrittenWith state.p u name volume) (sym (use_there role role_is state.p refl ∙ master)) in_group
  written_in role role_is (inr shadow) volume in_group =
      subst (λ (u : Use). IsWrittenWith state.p u name volume) (sym (use_there role role_is state.p refl ∙ shadow)) in_group

-- the set is enabled still
enabled_still : (steady : Bool) (old : StoreView) (left : GroupView) (set : ShadowSet) (held new : IiDisks) (state : State) → old.group ≡ InMemory set held → left ≡ InMemory set new → Holds steady old state → new.state ≡ held.state → IsEnabled left
enabled_still steady old left set held new state was now holds same =
    subst (λ (g : GroupView). IsEnabled g) (sym now)
    (ap (λ (d : Seen). is_live (kept_on d).slots set.slot) same ∙ (group_held steady old set held state was holds).0.on_disk)

pub writes_master : {T E : Type 0} (old : StoreView) (left : GroupView) (target : Target) (at len : ℕ) (bytes : List ℕ) (result : Result T E) → target.role ≡ Master → IsReached old target at len
    → WritesMaster old.group at bytes result left → WritesOpen old target at bytes result (record old { group = left })
writes_master {T} {E} old left target at len bytes (Ok x) role reached w = record {
  names = refl;
  phase = λ up phase. subst (IsPhase up) (sym w.now) (subst (IsPhase up) w.was phase);
  enabled = λ steady state holds phase. enabled_still steady old left w.set w.held w.held_new state w.was w.now holds w.writes.state;
  done = λ steady state name holds sought.
      subst (λ (g : GroupView). Holds steady (record old { group = g }) (after_stages state (write_stages state.p P name at (blocks_of bytes) (use_of state.p name)))) (sym w.now)
      (set_done steady old w.set w.held w.held_new state w.was holds at (blocks_of bytes) name (volume_write_stages (meaning w.held).sets 0 at (blocks_of bytes))
      (master_stages steady old w.set w.held state w.was holds target name at len reached sought (blocks_of bytes) role)
      (record {
        keeps = record { state = w.writes.state; block = w.writes.block; shape = w.writes.shape; told = w.writes.told };
        armed = w.writes.still_armed;
        done = w.writes.done;
        sound = w.writes.sound;
      }));
  stopped = λ steady state name holds sought same. tt;
  cause = tt;
}
writes_master {T} {E} old left target at len bytes (Err e) role reached w = record {
  names = refl;
  phase = λ up phase. subst (IsPhase up) (sym w.now) (subst (IsPhase up) w.was phase);
  enabled = λ steady state holds phase. enabled_still steady old left w.set w.held w.held_new state w.was w.now holds w.writes.state;
  done = λ steady state name holds sought. tt;
  stopped = λ steady state name holds sought same.
      subst (λ (g : GroupView). StopsWrite steady state name at (blocks_of bytes) (record old { group = closed g })) (sym w.now)
      (set_stopped steady old w.set w.held w.held_new state w.was holds at (blocks_of bytes) name (volume_write_stages (meaning w.held).sets 0 at (blocks_of bytes))
      (master_stages steady old w.set w.held state w.was holds target name at len reached sought (blocks_of bytes) role)
      (record {
        keeps = record { state = w.writes.state; block = w.writes.block; shape = w.writes.shape; told = w.writes.told };
        spent = w.writes.spent;
        stopped = w.writes.stopped;
        whole = w.writes.whole;
      })
      (subst (λ (g : GroupView). SameApart g) w.now same)
      (λ left_state groups size. master_reach steady old w.set w.held state w.was holds target name at len reached sought (blocks_of bytes) left_state (meaning w.held_new) groups role size)
      (written_in steady old w.set w.held state w.was holds target name at len reached sought (blocks_of bytes) Master role (inl refl)));
  cause = rose_in old (record old { group = left }) (disks_of w.held) (disks_of w.held_new) (ap group_disks w.was) (ap group_disks w.now) w.writes.failed;
}

pub writes_shadow_ok : {T T' E : Type 0} (old : StoreView) (left : GroupView) (target : Target) (at len : ℕ) (bytes : List ℕ) (x : T) (y : T') → target.role ≡ Shadow → IsReached old target at len
    → WritesShadow old.group at bytes (Ok x) left → WritesOpen {T = T'} {E = E} old target at bytes (Ok y) (record old { group = left })
writes_shadow_ok old left target at len bytes x y role reached w = record {
  names = refl;
  phase = λ up phase. subst (IsPhase up) (sym w.now) (subst (IsPhase up) w.was phase);
  enabled = λ steady state holds phase. enabled_still steady old left w.set w.held w.held_new state w.was w.now holds w.writes.state;
  done = λ steady state name holds sought.
      subst (λ (g : GroupView). Holds steady (record old { group = g }) (after_stages state (write_stages state.p P name at (blocks_of bytes) (use_of state.p name)))) (sym w.now)
      (set_done steady old w.set w.held w.held_new state w.was holds at (blocks_of bytes) name (shadow_write_stages w.set.slot at (blocks_of bytes))
      (shadow_stages steady old w.set w.held state w.was holds target name at len reached sought (blocks_of bytes) role)
      (record {
        keeps = record { state = w.writes.state; block = w.writes.block; shape = w.writes.shape; told = w.writes.told };
        armed = w.writes.still_armed;
        done = w.writes.done;
        sound = w.writes.sound;
      }));
  stopped = λ steady state name holds sought same. tt;
  cause = tt;
}

pub writes_shadow_err : {T T' E : Type 0} (old : StoreView) (left : GroupView) (target : Target) (at len : ℕ) (bytes : List ℕ) (why : Refusal) (e : E) → target.role ≡ Shadow → IsReached old target at len
    → WritesShadow {T = T} old.group at bytes (Err why) left → WritesOpen {T = T'} {E = E} old target at bytes (Err e) (record old { group = left })
writes_shadow_err {T} {T'} {E} old left target at len bytes why e role reached w =
    let fault : ◌≡◌ {A = Result T Refusal} (Err why) (Err Fault) =
    ap (λ (r : Refusal). Err r) (why_fault {T = T} (set_at w.held w.set.slot) why w.writes.names (set_reached old w.set w.held target at len w.was role reached)) in
    record {
      names = refl;
      phase = λ up phase. subst (IsPhase up) (sym w.now) (subst (IsPhase up) w.was phase);
      enabled = λ steady state holds phase. enabled_still steady old left w.set w.held w.held_new state w.was w.now holds w.writes.state;
      done = λ steady state name holds sought. tt;
      stopped = λ steady state name holds sought same.
          subst (λ (g : GroupView). StopsWrite steady state name at (blocks_of bytes) (record old { group = closed g })) (sym w.now)
          (set_stopped steady old w.set w.held w.held_new state w.was holds at (blocks_of bytes) name (shadow_write_stages w.set.slot at (blocks_of bytes))
          (shadow_stages steady old w.set w.held state w.was holds target name at len reached sought (blocks_of bytes) role)
          (record {
            keeps = record { state = w.writes.state; block = w.writes.block; shape = w.writes.shape; told = w.writes.told };
            spent = λ is. w.writes.spent is fault;
            stopped = λ sound. w.writes.stopped sound fault;
            whole = w.writes.whole;
          })
          (subst (λ (g : GroupView). SameApart g) w.now same)
          (λ left_state groups size.
          let by = group_held steady old w.set w.held state w.was holds in
          shadow_reach steady old w.set w.held state w.was holds target name at len reached sought (blocks_of bytes) left_state (meaning w.held_new) groups role
          (blocks_same steady old.names old.places w.set w.held w.held_new (meaning w.held) state.p.volumes state.p.groups by.0 by.1
          (record { state = w.writes.state; block = w.writes.block; shape = w.writes.shape; told = w.writes.told })))
          (written_in steady old w.set w.held state w.was holds target name at len reached sought (blocks_of bytes) Shadow role (inr refl)));
      cause = rose_in old (record old { group = left }) (disks_of w.held) (disks_of w.held_new) (ap group_disks w.was) (ap group_disks w.now) (w.writes.fault fault);
    }
