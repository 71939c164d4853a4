-- How the enabling of a set ends: it is done, or a fault stops it before its commit, or in the midst of that.
use Rattle.std.proofs.Common.{◌≡◌, ◌⊎◌, ℕ, ◌+◌, Bool, true, false, not, Option, Some, None, List, [], ◌∷◌, ◌++◌, map, refl, sym, ◌∙◌, ap, inl, inr}
use Rattle.std.specs.Prelude.{IsTrue, ◌&&◌, Result, Ok, Err, slice_set}
use Rattle.std.specs.List.{sum_by, slice_get, position}
use Rattle.std.specs.Option.{option_map_or}
use Rattle.std.proofs.lemmas.Bool.{false≢true, cases_Bool}
use Rattle.std.proofs.lemmas.Result.{IfOk-at_ok, IfErr-at_err}
use Rattle.std.specs.Str.{bytes_eq}
use Rattle.avs_seg.specs.Image.{Image}
use Rattle.avs_dev.specs.Seen.{Seen, IsTold, UsesTear}
use Rattle.avs_chunk.specs.Disks.{IsSameDisk}
use Rattle.avs_model.specs.Shadows.{GroupState, bare_group, after_enabling}
use Rattle.avs_model.specs.State.{State, VolumeState, ShadowGroup, OfVolume, image_of, image_by, is_armed, with_volume_of, with_armed, blocks_on}
use Rattle.avs_model.specs.Stages.{StoppedIn, command_stages, after_stage, after_stages, held_by_group, new_group}
use Rattle.avs_model.specs.Stages.Stage.{Spend}
use Rattle.avs_model.specs.Refusals.{refusal}
use Rattle.avs_model.specs.Right.{MeetsTear}
use Rattle.avs_model.specs.Next.{with_disk_asked, brought_down, TearUsed}
use Rattle.avs_model.specs.Good.{Step}
use Rattle.avs_model.specs.declared.event.Host.TheVariants.{P}
use Rattle.avs_model.specs.declared.event.IiCommand.{IiCommand}
use Rattle.avs_model.specs.declared.event.IiCommand.TheVariants.{Enable}
use Rattle.avs_model.specs.declared.event.Event.{Event}
use Rattle.avs_model.specs.declared.event.Event.TheVariants.{Ii}
use Rattle.avs_model.specs.declared.answer.Refusal.{Refusal}
use Rattle.avs_model.specs.declared.answer.Answer.TheVariants.{Faulted}
use Rattle.avs_model.specs.declared.shadow.Kind.TheVariants.{Dep}
use Rattle.avs_model.proofs.Volumes.{place_or_count, volume_of-place, with_volume_of-place, changed_twice}
use Rattle.avs_ii.specs.Held.{IiDisks}
use Rattle.avs_ii.specs.Meaning.{meaning}
use Rattle.avs_ii.specs.Parts.{parts_of, meaning_of_parts}
use Rattle.avs_ii.specs.Sound.{IsSound, IsFresh}
use Rattle.avs_ii.specs.Making.{AreTold, Opens}
use Rattle.avs_ii.specs.Calls.{Adds, Enables, Confirms, block_with}
use Rattle.avs_world.specs.declared.enabling.Chosen.{Chosen}
use Rattle.avs_world.specs.declared.group.ShadowSet.{ShadowSet}
use Rattle.avs_world.specs.Views.{GroupView, FreeDisk, InMemory, OnDisks, StoreView, FourDisks, one_set, IsSameApart}
use Rattle.avs_world.specs.Holds.{Shown, gone, expected, shown_with, Holds, HoldsBy, HoldsSet, AreGroups, IsStateDisk, IsSetOf, IsOpen, IsApart, is_enabled, group_with, name_at, disks_made}
use Rattle.avs_world.specs.Enabling.{IsChosen, places_lent, places_back, set_of}
use Rattle.avs_world.proofs.Choosing.{one_disk}
use Rattle.avs_world.proofs.Holding.{use_alone, holds_changed}
use Rattle.avs_world.proofs.NewGroups.{new_state, one, sound, fresh, live, new_disks, new_parts, new_told, new_whole, new_state_disk, new_meaning, new_in_memory, is_live_by, first_slot, writes, old_armed, old_steady}
use Rattle.avs_world.proofs.Holding.{set_holds}
use Rattle.avs_world.proofs.Enabled.{DiskOf, spend, unarm, none_before, here, of_master, of_bitmap, master_of, shadow_of, bitmap_of, named, is_named, with_bitmap, with_all, master_there, master_place, all_held, all_names, all_blocks_same, live_shown, pending_shown, back_shown, disk_told, gone_is}

-- all of a command is done
abbrev pub after_command : State → IiCommand → State
after_command state command = after_stages (with_disk_asked state (Ii P command)) (command_stages P command)

-- a fault stopped the command: what its disks hold, and the state then
pub record Falls (steady : Bool) (state : State) (command : IiCommand) (store : StoreView) : Type 0 where
  pub next : State
  pub step : Step steady state (Ii P command) (Faulted P) next
  pub left : State
  pub stopped_in : StoppedIn next (command_stages P command) left
  pub holds : Holds steady store left
  pub down : next.p.up ≡ false
  pub stopped : next.p.stopped ≡ Some (Ii P command)
  pub none : next.p.groups ≡ []

-- the host is down, with that command
abbrev stopped_at : State → IiCommand → State
stopped_at mid command = brought_down (with_disk_asked mid (Ii P command)) P (Ii P command)

-- by whether a tear was met
may_fail : (steady : Bool) (state : State) (event : Event) (mid : State) → TearUsed steady state event P mid → (steady ≡ false) ⊎ MeetsTear state event P
may_fail steady state event mid (inl met) = inr met.0
may_fail steady state event mid (inr unsteady) = inl unsteady.0

falls : (steady : Bool) (state : State) (command : IiCommand) (store : StoreView) (mid left : State) → refusal state (Ii P command) ≡ None → TearUsed steady state (Ii P command) P mid → mid.p.groups ≡ []
    → StoppedIn (stopped_at mid command) (command_stages P command) left → Holds steady store left → Falls steady state command store
falls steady state command store mid left passes tear none stopped holds = record {
  next = stopped_at mid command;
  step = record {
    right = record { passes = passes; uses = refl; may_fail = may_fail steady state (Ii P command) mid tear };
    next = record { left = mid; tear = tear; down = refl };
  };
  left = left;
  stopped_in = stopped;
  holds = holds;
  down = refl;
  stopped = refl;
  none = none;
}

no_and : (b : Bool) → (b && false) ≡ false
no_and true = refl
no_and false = refl

module _ (steady : Bool) (store : StoreView) (state : State) (master shadow bitmap : List ℕ) (chosen : Chosen) (is : IsChosen store master shadow bitmap chosen) (holds : Holds steady store state)
    (passes : refusal state (Ii P (Enable true master shadow bitmap)) ≡ None) where
  abbrev command : IiCommand
  command = Enable true master shadow bitmap

  none : state.p.groups ≡ []
  none = none_before steady store state master shadow bitmap chosen is holds

  one_made : 1 ≡ (with_disk_asked state (Ii P command)).p.state_disks
  one_made = one_disk store.group state.p is.free holds.same_disks none

  abbrev vb : VolumeState
  vb = (of_bitmap steady store state master shadow bitmap chosen is holds).volume

  -- no group was made on the state disk
  pub start_falls : (left : Seen) → steady ≡ false → IsStateDisk steady left → Falls steady state command (record store { group = FreeDisk left })
  start_falls left unsteady disk =
      falls steady state command (record store { group = FreeDisk left }) state (stopped_at state command) passes (inr (unsteady, refl)) none (inl refl)
      (record {
        same_names = holds.same_names;
        same_blocks = holds.same_blocks;
        no_other = holds.no_other;
        same_disks = one_made;
        by = (here steady store state master shadow bitmap chosen is holds, (none, (disk, λ e. absurd (false≢true (sym unsteady ∙ e)))));
      })

  -- the bitmap was not formatted, and all disks were given back
  module _ (new disk : Seen) (name : List ℕ) (same : IsSameDisk is.three.bitmap_disk new) (state_disk : IsStateDisk steady disk) (unarmed : steady ≡ true → disk.armed ≡ false) where
    abbrev back : StoreView
    back = record store { places = places_back (places_lent store.places chosen) (set_of name chosen is.three.shadow_spent) is.three.master_disk is.three.shadow_disk new; group = FreeDisk disk }

    back_holds : (w : VolumeState) (left : State) → w.name ≡ vb.name → w.blocks ≡ vb.blocks → gone new ≡ expected steady w → left.p.volumes ≡ slice_set state.p.volumes chosen.bitmap w → left.p.groups ≡ state.p.groups
        → 1 ≡ left.p.state_disks → left.s ≡ state.s → Holds steady back left
    back_holds w left name_same blocks shows volumes groups disks other =
        holds_changed state.p.volumes chosen.bitmap vb w (of_bitmap steady store state master shadow bitmap chosen is holds).there steady store state left back.places back.group holds refl volumes other name_same blocks disks
        (back_shown steady store state master shadow bitmap chosen is holds w name_same blocks new shows name ∙ ap (map (expected steady)) (sym volumes), (groups ∙ none, (state_disk, unarmed)))

    of_disk : DiskOf steady is.three.bitmap_disk vb
    of_disk = bitmap_of steady store state master shadow bitmap chosen is holds

    steady_falls : steady ≡ true → UsesTear is.three.bitmap_disk new → Falls steady state command back
    steady_falls steadily uses =
        let found = of_bitmap steady store state master shadow bitmap chosen is holds in
        let mid = with_armed state P (OfVolume bitmap) false in
        let w = spend (unarm vb) in
        let armed : is_armed state.p (OfVolume bitmap) ≡ true =
        ap (λ (o : Option VolumeState). option_map_or (λ (v : VolumeState). v.armed) o false) found.named
        ∙ sym (ap (λ b. b && vb.armed) steadily)
        ∙ sym of_disk.armed
        ∙ (λ i. (of_disk.same ∙ steadily) i && uses.was_armed i) in
        let quiet : (new.steady && new.armed) ≡ (steady && false) = ap (λ b. new.steady && b) (not_true new.armed uses.is_used) ∙ no_and new.steady ∙ sym (no_and steady) in
        let volumes : with_volume_of (with_volume_of state.p.volumes bitmap unarm) bitmap spend ≡ slice_set state.p.volumes chosen.bitmap w =
        changed_twice bitmap unarm (λ v. refl) state.p.volumes spend ∙ with_volume_of-place state.p.volumes bitmap (λ v. spend (unarm v)) chosen.bitmap vb found.here found.there in
        falls steady state command back mid (after_stage (stopped_at mid command) (Spend P bitmap)) passes (inl (record { disk = OfVolume bitmap; writes = (refl, refl); armed = armed }, refl)) none
        (inr (inr (inl refl)))
        (back_holds w (after_stage (stopped_at mid command) (Spend P bitmap)) refl refl (gone_is steady is.three.bitmap_disk vb of_disk new w same refl refl refl quiet) volumes refl one_made refl)
      where
        not_true : (b : Bool) → not b ≡ true → b ≡ false
        not_true true e = absurd (false≢true e)
        not_true false e = refl

    unsteady_falls : steady ≡ false → Falls steady state command back
    unsteady_falls unsteady =
        let found = of_bitmap steady store state master shadow bitmap chosen is holds in
        let w = spend vb in
        let quiet : (new.steady && new.armed) ≡ (steady && vb.armed) = ap (λ b. b && new.armed) (same.steady ∙ of_disk.same ∙ unsteady) ∙ ap (λ b. b && vb.armed) (sym unsteady) in
        falls steady state command back state (after_stage (stopped_at state command) (Spend P bitmap)) passes (inr (unsteady, refl)) none (inr (inr (inl refl)))
        (back_holds w (after_stage (stopped_at state command) (Spend P bitmap)) refl refl (gone_is steady is.three.bitmap_disk vb of_disk new w same refl refl refl quiet)
        (with_volume_of-place state.p.volumes bitmap spend chosen.bitmap vb found.here found.there) refl one_made refl)

    pub back_falls : (IsTrue is.three.bitmap_disk.steady → UsesTear is.three.bitmap_disk new) → Falls steady state command back
    back_falls used = elim (cases_Bool steady) [
      | inl steadily ↦ steady_falls steadily (used (of_disk.same ∙ steadily))
      | inr unsteady ↦ unsteady_falls unsteady
    ]

  -- A group was made, with the set; the commit was tried.
  module _ (disk : Seen) (held mid next : IiDisks) (slot : ℕ) (opens : Opens disk held) (adds : Adds held is.three.master_disk mid) (enables : Enables mid Dep 0 is.three.shadow_disk is.three.bitmap_disk slot next)
      (state_disk : IsStateDisk steady disk) (unarmed : steady ≡ true → disk.armed ≡ false) {T : Type 0} (result : Result T Refusal) (new : IiDisks) (confirms : Confirms next slot result new) where
    told_master : IsTold is.three.master_disk
    told_master = disk_told steady is.three.master_disk _ (master_of steady store state master shadow bitmap chosen is holds)

    told_shadow : IsTold is.three.shadow_disk
    told_shadow = disk_told steady is.three.shadow_disk _ (shadow_of steady store state master shadow bitmap chosen is holds)

    told_bitmap : IsTold is.three.bitmap_disk
    told_bitmap = disk_told steady is.three.bitmap_disk _ (bitmap_of steady store state master shadow bitmap chosen is holds)

    abbrev set : ShadowSet
    set = record (set_of shadow chosen is.three.shadow_spent) { slot = slot }

    abbrev disks : FourDisks
    disks = new_disks disk held mid next is.three.master_disk is.three.shadow_disk is.three.bitmap_disk slot opens adds enables result new confirms

    parts : parts_of new ≡ one_set slot disks
    parts = new_parts disk held mid next is.three.master_disk is.three.shadow_disk is.three.bitmap_disk slot opens adds enables result new confirms

    is_first : slot ≡ 0
    is_first = first_slot disk held mid next is.three.master_disk is.three.shadow_disk is.three.bitmap_disk slot opens adds enables

    abbrev on_disk : Bool
    on_disk = live disk held mid next is.three.master_disk is.three.shadow_disk is.three.bitmap_disk slot opens adds enables result new confirms

    named_at : (name : List ℕ) (k : ℕ) → position (bytes_eq name) store.names ≡ Some k → name_at store.names k ≡ name
    named_at name k sought = named steady store state master shadow bitmap chosen is holds name k sought

    of_names : IsSetOf store.names set
    of_names = record {
      first = is_first;
      named = sym (named_at shadow chosen.shadow is.at_shadow);
      master_there = is_named steady store state master shadow bitmap chosen is holds master chosen.master is.at_master;
      shadow_there = is_named steady store state master shadow bitmap chosen is holds shadow chosen.shadow is.at_shadow;
      bitmap_there = is_named steady store state master shadow bitmap chosen is holds bitmap chosen.bitmap is.at_bitmap;
      shadow_differs = is.three.shadow_differs;
      bitmap_differs = is.three.bitmap_differs;
      bitmap_differs_too = is.three.bitmap_differs_too;
    }

    -- the bitmap's disk was formatted
    bitmap_shown : gone disks.bitmap ≡ expected steady (spend vb)
    bitmap_shown =
        let of_disk = bitmap_of steady store state master shadow bitmap chosen is holds in
        gone_is steady is.three.bitmap_disk vb of_disk disks.bitmap (spend vb) enables.makes.disk refl refl refl ((λ i. enables.makes.disk.steady i && enables.makes.armed i) ∙ of_disk.armed)

    -- the host with a disk for the state, up or down, behind the stages
    abbrev base : Bool → Option Event → State
    base up stopped = let with_disk = with_disk_asked state (Ii P command) in record with_disk { p = record with_disk.p { up = up; stopped = stopped } }

    abbrev spent : Bool → Option Event → State
    spent up stopped = after_stage (base up stopped) (Spend P bitmap)

    abbrev done : Bool → Option Event → State
    done up stopped = after_stages (base up stopped) (command_stages P command)

    abbrev gone_volumes : List VolumeState
    gone_volumes = with_volume_of state.p.volumes bitmap spend

    gone_are : gone_volumes ≡ with_bitmap steady store state master shadow bitmap chosen is holds (spend vb)
    gone_are =
        let found = of_bitmap steady store state master shadow bitmap chosen is holds in
        with_volume_of-place state.p.volumes bitmap spend chosen.bitmap vb found.here found.there

    abbrev done_volumes : List VolumeState
    done_volumes = with_volume_of (with_volume_of gone_volumes master held_by_group) shadow held_by_group

    done_are : done_volumes ≡ with_all steady store state master shadow bitmap chosen is holds (spend vb)
    done_are =
        ap (λ (vs : List VolumeState). with_volume_of (with_volume_of vs master held_by_group) shadow held_by_group) gone_are
        ∙ all_held steady store state master shadow bitmap chosen is holds (spend vb) refl refl

    -- the image of the master, before the group has it
    master_image : (up : Bool) (stopped : Option Event) → image_of (spent up stopped).p master ≡ is.three.master_disk.image
    master_image up stopped =
        let host = (spent up stopped).p in
        let found = of_master steady store state master shadow bitmap chosen is holds in
        let place : place_or_count master gone_volumes ≡ chosen.master = ap (place_or_count master) gone_are ∙ master_place steady store state master shadow bitmap chosen is holds (spend vb) refl refl in
        let there : slice_get gone_volumes chosen.master ≡ Some found.volume =
        ap (λ (vs : List VolumeState). slice_get vs chosen.master) gone_are ∙ master_there steady store state master shadow bitmap chosen is holds (spend vb) refl refl in
        ap (image_by host master) (use_alone host master none)
        ∙ ap (λ (o : Option VolumeState). option_map_or (λ (v : VolumeState). v.image) o []) (volume_of-place host master chosen.master place ∙ there)
        ∙ sym (ap (λ (t : Shown). t.image) found.is)

    -- the group is that of the state
    group_is : (up : Bool) (stopped : Option Event) (group : GroupState) → group ≡ new_state is.three.master_disk → (done up stopped).p.groups ≡ group_with store.names set group false ∷ []
    group_is up stopped group meant =
        let held = (spent up stopped).p in
        let same : new_group held true master shadow bitmap ≡ group_with store.names set group false =
        (λ i. record {
          name = shadow;
          masters = sym (named_at master chosen.master is.at_master) i ∷ [];
          sets = record { slot = sym is_first i; shadow = sym (named_at shadow chosen.shadow is.at_shadow) i; bitmap = sym (named_at bitmap chosen.bitmap is.at_bitmap) i } ∷ [];
          state = (ap (λ (img : Image). after_enabling (bare_group (img ∷ [])) 0 Dep 0) (master_image up stopped) ∙ sym meant) i;
          armed = false;
        }) in
        ap (λ (gs : List ShadowGroup). gs ++ new_group held true master shadow bitmap ∷ []) none ∙ ap (λ (g : ShadowGroup). g ∷ []) same

    new_disk : IsStateDisk steady new.state
    new_disk = new_state_disk disk held mid next is.three.master_disk is.three.shadow_disk is.three.bitmap_disk slot opens adds enables result new confirms state_disk.told told_master told_shadow told_bitmap steady state_disk

    -- the disks hold the set, whether it is enabled or not
    set_held : (b : Bool) (group : GroupState) (volumes : List VolumeState) (groups : List ShadowGroup) → is_enabled set (parts_of new) ≡ b
        → shown_with (places_lent store.places chosen) set disks b ≡ map (expected steady) volumes → AreGroups steady store.names set group new.state b groups
        → HoldsSet steady store.names (places_lent store.places chosen) set (parts_of new) group volumes groups
    set_held b group volumes groups by shows are = set_holds steady store.names (places_lent store.places chosen) set (parts_of new) disks b group volumes groups parts of_names new_disk by shows are

    enabled_held : (up : Bool) (stopped : Option Event) (group : GroupState) → is_enabled set (parts_of new) ≡ true → group ≡ new_state is.three.master_disk → (steady ≡ true → new.state.armed ≡ false)
        → HoldsSet steady store.names (places_lent store.places chosen) set (parts_of new) group (done up stopped).p.volumes (done up stopped).p.groups
    enabled_held up stopped group enabled meant quiet =
        set_held true group (done up stopped).p.volumes (done up stopped).p.groups enabled
        (live_shown steady store state master shadow bitmap chosen is holds (spend vb) refl refl disks.bitmap bitmap_shown slot shadow new.state ∙ ap (map (expected steady)) (sym done_are))
        (false, group_is up stopped group meant, quiet)

    pending_held : (up : Bool) (stopped : Option Event) (group : GroupState) → is_enabled set (parts_of new) ≡ false → steady ≡ false
        → HoldsSet steady store.names (places_lent store.places chosen) set (parts_of new) group (spent up stopped).p.volumes (spent up stopped).p.groups
    pending_held up stopped group waits unsteady =
        set_held false group (spent up stopped).p.volumes (spent up stopped).p.groups waits
        (pending_shown steady store state master shadow bitmap chosen is holds (spend vb) refl refl disks.bitmap bitmap_shown slot shadow new.state ∙ ap (map (expected steady)) (sym gone_are))
        (none, λ e. absurd (false≢true (sym unsteady ∙ e)))

    -- the store with the places lent and that group
    abbrev with_group : GroupView → StoreView
    with_group group = record store { places = places_lent store.places chosen; group = group }

    done_holds : (up : Bool) (stopped : Option Event) (group : GroupView) → disks_made group ≡ 1 → HoldsBy steady store.names (places_lent store.places chosen) group (done up stopped).p.volumes (done up stopped).p.groups
        → Holds steady (with_group group) (done up stopped)
    done_holds up stopped group disks by = record {
      same_names = holds.same_names ∙ sym (all_names steady store state master shadow bitmap chosen is holds (spend vb) refl refl) ∙ ap (map (λ (v : VolumeState). v.name)) (sym done_are);
      same_blocks = holds.same_blocks
          ∙ (λ i. (sym (all_blocks_same steady store state master shadow bitmap chosen is holds (spend vb) refl refl) ∙ ap (sum_by (λ (v : VolumeState). v.blocks)) (sym done_are)) i + blocks_on state.s);
      no_other = holds.no_other;
      same_disks = disks ∙ one_made;
      by = by;
    }

    spent_holds : (up : Bool) (stopped : Option Event) (group : GroupView) → disks_made group ≡ 1 → HoldsBy steady store.names (places_lent store.places chosen) group (spent up stopped).p.volumes (spent up stopped).p.groups
        → Holds steady (with_group group) (spent up stopped)
    spent_holds up stopped group disks by =
        holds_changed state.p.volumes chosen.bitmap vb (spend vb) (of_bitmap steady store state master shadow bitmap chosen is holds).there steady store state (spent up stopped) (places_lent store.places chosen) group holds refl gone_are refl
        refl refl (disks ∙ one_made) by

    sound_before : IsSound next
    sound_before = sound disk held mid next is.three.master_disk is.three.shadow_disk is.three.bitmap_disk slot opens adds enables state_disk.told told_master told_shadow told_bitmap

    fresh_before : IsFresh (one disk held mid next is.three.master_disk is.three.shadow_disk is.three.bitmap_disk slot opens adds enables)
    fresh_before = fresh disk held mid next is.three.master_disk is.three.shadow_disk is.three.bitmap_disk slot opens adds enables state_disk.told told_master told_shadow told_bitmap

    told_after : AreTold (parts_of new)
    told_after = new_told disk held mid next is.three.master_disk is.three.shadow_disk is.three.bitmap_disk slot opens adds enables result new confirms state_disk.told told_master told_shadow told_bitmap

    meant_after : on_disk ≡ true → (meaning new ≡ meaning next) ⊎ (meaning new ≡ after_enabling (meaning next) slot enables.chunks.kind 0) → meaning new ≡ new_state is.three.master_disk
    meant_after = new_meaning disk held mid next is.three.master_disk is.three.shadow_disk is.three.bitmap_disk slot opens adds enables result new confirms state_disk.told told_master told_shadow told_bitmap

    -- it was done
    module _ (value : T) (was : result ≡ Ok value) where
      meant_done : meaning new ≡ after_enabling (meaning next) slot enables.chunks.kind 0
      meant_done = IfOk-at_ok (λ _. meaning new ≡ after_enabling (meaning next) slot enables.chunks.kind 0) was (confirms.done _ enables.pending sound_before fresh_before)

      enabled_on_disk : on_disk ≡ true
      enabled_on_disk =
          is_live_by disk held mid next is.three.master_disk is.three.shadow_disk is.three.bitmap_disk slot opens adds enables result new confirms state_disk.told told_master told_shadow told_bitmap meant_done

      still_quiet : steady ≡ true → new.state.armed ≡ false
      still_quiet steadily =
          IfOk-at_ok (λ _. new.state.armed ≡ next.state.armed) was (writes disk held mid next is.three.master_disk is.three.shadow_disk is.three.bitmap_disk slot opens adds enables result new confirms).still_armed
          ∙ old_armed disk held mid next is.three.master_disk is.three.shadow_disk is.three.bitmap_disk slot opens adds enables result new confirms
          ∙ unarmed steadily

      is_open : IsOpen set new
      is_open = record {
        sound = IfOk-at_ok (λ _. IsSound new) was (confirms.sound _ enables.pending sound_before fresh_before);
        told = told_after;
        in_memory = new_in_memory disk held mid next is.three.master_disk is.three.shadow_disk is.three.bitmap_disk slot opens adds enables result new confirms
            (IfOk-at_ok (λ _. new.block ≡ block_with next.block (one disk held mid next is.three.master_disk is.three.shadow_disk is.three.bitmap_disk slot opens adds enables)) was (confirms.block _ enables.pending));
        on_disk = enabled_on_disk;
      }

      pub enabled : Holds steady (with_group (InMemory set new)) (done state.p.up state.p.stopped)
      enabled =
          done_holds state.p.up state.p.stopped (InMemory set new) refl
          (is_open, enabled_held state.p.up state.p.stopped (meaning new) enabled_on_disk (meant_after enabled_on_disk (inr meant_done)) still_quiet)

    -- the state disk failed, which over steady disks it does not
    module _ (why : Refusal) (was : result ≡ Err why) (apart : IsSameApart new) where
      unsteady : steady ≡ false
      unsteady = elim (cases_Bool steady) [
        | inl steadily ↦
            let before = old_steady disk held mid next is.three.master_disk is.three.shadow_disk is.three.bitmap_disk slot opens adds enables result new confirms ∙ state_disk.same ∙ steadily in
            let uses : UsesTear next.state new.state =
            IfErr-at_err (λ _. UsesTear next.state new.state) was
            ((writes disk held mid next is.three.master_disk is.three.shadow_disk is.three.bitmap_disk slot opens adds enables result new confirms).spent before) in
            absurd (false≢true (sym (old_armed disk held mid next is.three.master_disk is.three.shadow_disk is.three.bitmap_disk slot opens adds enables result new confirms ∙ unarmed steadily) ∙ uses.was_armed))
        | inr is_not ↦ is_not
      ]

      is_apart : IsApart (parts_of new)
      is_apart = record {
        told = told_after;
        whole = new_whole disk held mid next is.three.master_disk is.three.shadow_disk is.three.bitmap_disk slot opens adds enables result new confirms state_disk.told told_master told_shadow told_bitmap;
      }

      meant_stopped : (meaning new ≡ meaning next) ⊎ (meaning new ≡ after_enabling (meaning next) slot enables.chunks.kind 0)
      meant_stopped =
          IfErr-at_err (λ _. (meaning new ≡ meaning next) ⊎ (meaning new ≡ after_enabling (meaning next) slot enables.chunks.kind 0)) was (confirms.stopped _ enables.pending sound_before fresh_before)

      pub commit_falls : Falls steady state command (with_group (OnDisks set (parts_of new)))
      commit_falls = elim (cases_Bool on_disk) [
        | inl stands ↦
            falls steady state command (with_group (OnDisks set (parts_of new))) state (done false (Some (Ii P command))) passes (inr (unsteady, refl)) none (inr (inr (inr (inr refl))))
            (
            done_holds false (Some (Ii P command)) (OnDisks set (parts_of new)) refl
            (is_apart, enabled_held false (Some (Ii P command)) (meaning_of_parts (parts_of new)) stands (apart.meaning ∙ meant_after stands meant_stopped) (λ e. absurd (false≢true (sym unsteady ∙ e))))
            )
        | inr waits ↦
            falls steady state command (with_group (OnDisks set (parts_of new))) state (spent false (Some (Ii P command))) passes (inr (unsteady, refl)) none (inr (inr (inl refl)))
            (
            spent_holds false (Some (Ii P command)) (OnDisks set (parts_of new)) refl
            (is_apart, pending_held false (Some (Ii P command)) (meaning_of_parts (parts_of new)) waits unsteady)
            )
      ]
