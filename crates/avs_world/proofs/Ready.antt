-- How many blocks of a volume can be read and written, by the store and by the state.
use Rattle.std.proofs.Common.{◌≡◌, ℕ, ◌<◌, Bool, true, false, Option, Some, List, [], length, map, sym, ◌∙◌, ap}
use Rattle.std.specs.Prelude.{slice_index_or}
use Rattle.std.specs.List.{slice_get, position}
use Rattle.std.specs.Option.{is_some, option_map_or}
use Rattle.std.specs.Str.{bytes_eq}
use Rattle.std.proofs.lemmas.Bool.{false≢true}
use Rattle.avs_dev.specs.Seen.{Seen}
use Rattle.avs_model.specs.State.{State, HostState, VolumeState, ShadowGroup, Use, volume_of, use_of, size_of, is_spent, reach_of, slot_of}
use Rattle.avs_model.specs.State as state
use Rattle.avs_model.specs.Shadows.{bare_group, blocks_at}
use Rattle.avs_model.specs.Refusals.{is_bitmap}
use Rattle.avs_world.specs.declared.group.Part.{Part}
use Rattle.avs_world.specs.declared.group.Part.TheVariants.{Master, Shadow, Bitmap, Plain}
use Rattle.avs_ii.specs.Held.{HeldSet}
use Rattle.avs_ii.specs.Parts.{parts_of}
use Rattle.avs_world.specs.declared.place.Place.{Place}
use Rattle.avs_world.specs.Views.{GroupView, NoGroup, FreeDisk, InMemory, OnDisks, StoreView}
use Rattle.avs_world.specs.Ranges.{role_by, is_gone, group_size, reach_by}
use Rattle.avs_world.specs.Holds.{HoldsBy, Holds, IsPhase, is_enabled}
use Rattle.avs_world.proofs.Holding.{element, volume_named, use_as, use_by_place, found_plain, open_groups, size_at, gone_at}
use Rattle.avs_world.proofs.OneSet.{one_held, set_there, blocks_meant, found_master, found_shadow}
use Rattle.avs_world.proofs.Ranging.{IsReady}

-- only contents of a volume that serves as nothing are gone
abbrev pub gone_as : Part → Bool → Bool
gone_as Plain gone = gone
gone_as Master gone = false
gone_as Shadow gone = false
gone_as Bitmap gone = false

module _ (steady : Bool) (names : List (List ℕ)) (places : List (Place Seen)) (host : HostState) (name : List ℕ) (k : ℕ) (same : names ≡ map (λ (v : VolumeState). v.name) host.volumes)
    (sought : position (bytes_eq name) names ≡ Some k) where
  -- the master of a group in memory has the blocks of its volume, and its contents
  pub master_size : (group : GroupView) → HoldsBy steady names places group host.volumes host.groups → IsPhase true group → role_by group k ≡ Master
      → (size_of host name ≡ group_size group Master) × (is_spent host name ≡ false)
  master_size NoGroup by phase role = absurd (cc)
  master_size (FreeDisk disk) by phase role = absurd (cc)
  master_size (InMemory set held) by phase role =
      let one = one_held set by.1.disks held by.1.is in
      let f = found_master steady names host places set by.1.disks (is_enabled set (parts_of held)) same by.1.shows by.1.set_of by.0.on_disk name k sought role in
      (sym f.size ∙ sym (ap (λ (vs : List Seen). option_map_or (λ (d : Seen). d.size) (slice_get vs 0) 0) one.volumes), sym f.spent)
  master_size (OnDisks set parts) by phase role = let e : true ≡ false = phase in absurd (false≢true (sym e))

  shadow_size : (group : GroupView) → HoldsBy steady names places group host.volumes host.groups → IsPhase true group → role_by group k ≡ Shadow
      → (state.reach_by host name (use_as Shadow) ≡ group_size group Shadow) × (is_spent host name ≡ false)
  shadow_size NoGroup by phase role = absurd (cc)
  shadow_size (FreeDisk disk) by phase role = absurd (cc)
  shadow_size (InMemory set held) by phase role =
      let one = one_held set by.1.disks held by.1.is in
      let f = found_shadow steady names host places set by.1.disks (is_enabled set (parts_of held)) same by.1.shows by.1.set_of by.0.on_disk name k sought role in
      let are = open_groups steady names places set held host.volumes host.groups by.0 by.1 in
      let reach : List ShadowGroup → ℕ =
      λ groups. let g = slice_index_or groups 0 (record { name = []; masters = []; sets = []; state = bare_group []; armed = false }) in blocks_at g.state.sets (slot_of g 0) in (
        ap reach are.1
            ∙ blocks_meant set by.1.disks held one by.0.on_disk
            ∙ sym (ap (λ (o : Option HeldSet). option_map_or (λ (s : HeldSet). s.chunks.blocks) o 0) (set_there set by.1.disks held one by.0.in_memory)),
        sym f.spent,
      )
  shadow_size (OnDisks set parts) by phase role = let e : true ≡ false = phase in absurd (false≢true (sym e))

module _ (steady : Bool) (store : StoreView) (s : State) (name : List ℕ) (k : ℕ) (holds : Holds steady store s) (phase : IsPhase true store.group) (sought : position (bytes_eq name) store.names ≡ Some k) where
  pub volume_is : is_some (volume_of s.p name) ≡ true
  volume_is = ap is_some (volume_named store.names s.p holds.same_names name k sought).named

  used_as : (role : Part) → role_by store.group k ≡ role → use_of s.p name ≡ use_as role
  used_as role is = use_by_place steady store s name k holds phase sought ∙ ap use_as is

  pub is_busy : role_by store.group k ≡ Bitmap → is_bitmap (use_of s.p name) ≡ true
  is_busy is = ap is_bitmap (used_as Bitmap is)

  pub ready_as : (role : Part) → role_by store.group k ≡ role → is_bitmap (use_as role) ≡ false → k < length store.places
      → IsReady s.p name (reach_by store k role) (gone_as role (is_gone (slice_get store.places k)))
  ready_as Plain is other within =
      let at = element store.places k within in
      let f = found_plain steady store s name k at.0 holds is sought at.1 in
      record {
        there = volume_is;
        other = ap is_bitmap (used_as Plain is);
        reached = ap (state.reach_by s.p name) (used_as Plain is) ∙ sym f.size ∙ sym (size_at store.places k at.0 at.1);
        gone = sym f.spent ∙ sym (gone_at store.places k at.0 at.1);
      }
  ready_as Master is other within =
      let m = master_size steady store.names store.places s.p name k holds.same_names sought store.group holds.by phase is in
      record {
        there = volume_is;
        other = ap is_bitmap (used_as Master is);
        reached = ap (state.reach_by s.p name) (used_as Master is) ∙ m.0;
        gone = m.1;
      }
  ready_as Shadow is other within =
      let m = shadow_size steady store.names store.places s.p name k holds.same_names sought store.group holds.by phase is in
      record {
        there = volume_is;
        other = ap is_bitmap (used_as Shadow is);
        reached = ap (state.reach_by s.p name) (used_as Shadow is) ∙ m.0;
        gone = m.1;
      }
  ready_as Bitmap is other within = absurd (false≢true (sym other))
