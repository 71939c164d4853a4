-- A group that is found on its disks, and a set that is given up.
use Rattle.std.proofs.Common.{inl, inr, Err, ◌≡◌, ℕ, ◌≤◌, Bool, true, false, not, cond, None, Some, List, [], ◌∷◌, length, map, refl, sym, ◌∙◌, ap, subst, arith}
use Rattle.std.specs.Prelude.{slice_set, if◌then◌else◌, find, ◌==◌, ◌||◌, is_some}
use Rattle.std.specs.List.{list_all, slice_get}
use Rattle.std.specs.Option.{option_map_or}
use Rattle.std.proofs.lemmas.Bool.{false≢true, cases_Bool, cases_lt}
use Rattle.std.proofs.lemmas.Option.{slice_get_past}
use Rattle.std.proofs.lemmas.List.{length-map, map-set}
use Rattle.avs_dev.specs.Devices.{NoneFell}
use Rattle.avs_dev.specs.Seen.{Seen}
use Rattle.avs_code.specs.declared.group_blocks.GroupBlock.{GroupBlock}
use Rattle.avs_model.specs.Shadows.{GroupState}
use Rattle.avs_model.specs.State.{VolumeState, ShadowGroup}
use Rattle.avs_model.specs.declared.shadow.Kind.TheVariants.{Dep}
use Rattle.avs_ii.specs.SetDisks.{SetDisks}
use Rattle.avs_ii.specs.Held.{HeldSet, IiDisks, disks_of, is_live, pending_in}
use Rattle.avs_ii.specs.Meaning.{meaning}
use Rattle.avs_ii.specs.Parts.{PartDisks, parts_of, meaning_of_parts}
use Rattle.avs_ii.specs.Making.{AreTold, AreWhole, no_faults, set_no_faults, parts_no_faults, disks_in, Loads, LoadRefused}
use Rattle.avs_ii.specs.Calls.{GivesUp}
use Rattle.avs_world.specs.declared.place.Place.{Place}
use Rattle.avs_world.specs.declared.place.Place.TheVariants.{Here, Spent}
use Rattle.avs_world.specs.declared.group.ShadowSet.{ShadowSet}
use Rattle.avs_world.specs.Views.{GroupView, FreeDisk, InMemory, OnDisks, StoreView, FourDisks, one_set}
use Rattle.avs_world.specs.Holds.{Shown, gone, kept, plain, plain_or_gone, shown, shown_with, is_enabled, AreGroups, IsStateDisk, HoldsSet, HoldsBy, IsPhase, disks_made}
use Rattle.avs_world.specs.Places.{place_of}
use Rattle.avs_world.specs.Enabling.{places_back}
use Rattle.avs_world.specs.Causes.{DiskName, AtPlace, InGroup, faults_of, was_there}
use Rattle.avs_dev.specs.declared.back.Why.{Why}
use Rattle.avs_dev.specs.declared.back.Why.TheVariants.{Size, BadRecord, NoMemory, Fault}
use Rattle.avs_world.specs.Recovering.{FoundBy, IsFound, Finds, Settles, second_by}
use Rattle.avs_model.specs.declared.recovered.Second.TheVariants.{Kept, Done}
use Rattle.avs_world.proofs.OneSet.{one_element, one_there, IsOneSet, one_held}
use Rattle.avs_world.proofs.Staying.{count_at, four_steady}
use Rattle.avs_world.proofs.Reading.{rose_in, there_in}

-- Disks that differ in their counts of faults alone.

pub record SameDisks (slot : ℕ) (disks : FourDisks) (parts : PartDisks) : Type 0 where
  pub others : FourDisks
  pub is : parts ≡ one_set slot others
  pub state : no_faults others.state ≡ no_faults disks.state
  pub master : no_faults others.master ≡ no_faults disks.master
  pub shadow : no_faults others.shadow ≡ no_faults disks.shadow
  pub bitmap : no_faults others.bitmap ≡ no_faults disks.bitmap

none_of : {X Y : Type 0} (f : X → Y) (xs : List X) → map f xs ≡ [] → xs ≡ []
none_of f [] e = refl
none_of f (x ∷ xs) e = absurd (cc)

pub same_disks : (slot : ℕ) (disks : FourDisks) (parts : PartDisks) → parts_no_faults parts ≡ parts_no_faults (one_set slot disks) → SameDisks slot disks parts
same_disks slot disks parts same =
    let volumes = one_element no_faults parts.volumes (no_faults disks.master) (ap (λ (p : PartDisks). p.volumes) same) in
    let sets = one_element set_no_faults parts.sets _ (ap (λ (p : PartDisks). p.sets) same) in
    let s = sets.0 in
    let shadow = one_there no_faults s.shadow (no_faults disks.shadow) (ap (λ (t : SetDisks). t.shadow) sets.1.1) in
    let set : s ≡ record { slot = slot; kind = Dep; master = 0; shadow = Some shadow.0; bitmap = s.bitmap; over = None } =
    λ i. record {
      slot = ap (λ (t : SetDisks). t.slot) sets.1.1 i;
      kind = ap (λ (t : SetDisks). t.kind) sets.1.1 i;
      master = ap (λ (t : SetDisks). t.master) sets.1.1 i;
      shadow = shadow.1 i;
      bitmap = s.bitmap;
      over = ap (λ (t : SetDisks). t.over) sets.1.1 i;
    } in
    let overs = none_of no_faults parts.overs (ap (λ (p : PartDisks). p.overs) same) in
    record {
      others = record { state = parts.state; master = volumes.0; shadow = shadow.0; bitmap = s.bitmap };
      is = λ i. record { state = parts.state; volumes = volumes.1.0 i; sets = (sets.1.0 ∙ ap (λ (t : SetDisks). t ∷ []) set) i; overs = overs i };
      state = ap (λ (p : PartDisks). p.state) same;
      master = volumes.1.1;
      shadow = shadow.2;
      bitmap = ap (λ (t : SetDisks). t.bitmap) sets.1.1;
    }

-- by the armed disk
are_same : (steady : Bool) (names : List (List ℕ)) (set : ShadowSet) (group : GroupState) (d e : Seen) (live : Bool) (groups : List ShadowGroup) → e.armed ≡ d.armed
    → AreGroups steady names set group d live groups → AreGroups steady names set group e live groups
are_same steady names set group d e true groups armed are = (are.0, are.1, λ is. armed ∙ are.2 is)
are_same steady names set group d e false groups armed are = (are.0, λ is. armed ∙ are.1 is)

module _ (steady : Bool) (names : List (List ℕ)) (places : List (Place Seen)) (set : ShadowSet) (parts others : PartDisks) (group : GroupState) (volumes : List VolumeState) (groups : List ShadowGroup)
    (same : parts_no_faults others ≡ parts_no_faults parts) where
  pub same_enabled : is_enabled set others ≡ is_enabled set parts
  same_enabled = ap (λ (p : PartDisks). is_enabled set p) same

  -- the set holds the same
  pub same_set : HoldsSet steady names places set parts group volumes groups → HoldsSet steady names places set others group volumes groups
  same_set holds =
      let d = same_disks set.slot holds.disks others (same ∙ ap parts_no_faults holds.is) in
      let live = is_enabled set parts in
      let shows : shown_with places set d.others live ≡ shown_with places set holds.disks live =
      λ i. slice_set (slice_set (slice_set (map shown places) set.bitmap (gone (d.bitmap i))) set.master (if live then kept (d.master i) else plain (d.master i)))
      set.shadow (if live then kept (d.shadow i) else plain_or_gone set.spent (d.shadow i)) in
      record {
        disks = d.others;
        is = d.is;
        set_of = holds.set_of;
        state_disk = record {
          told = subst (λ (x : Seen). length x.image ≡ x.size) (sym d.state) holds.state_disk.told;
          room = subst (λ (n : ℕ). 64 ≤ n) (sym (ap (λ (x : Seen). x.size) d.state)) holds.state_disk.room;
          same = ap (λ (x : Seen). x.steady) d.state ∙ holds.state_disk.same;
        };
        shows = ap (shown_with places set d.others) same_enabled ∙ shows ∙ holds.shows;
        are = subst (λ (b : Bool). AreGroups steady names set group d.others.state b groups) (sym same_enabled)
            (are_same steady names set group holds.disks.state d.others.state live groups (ap (λ (x : Seen). x.armed) d.state) holds.are);
      }

-- The group is found.

module _ (steady : Bool) (names : List (List ℕ)) (places : List (Place Seen)) (set : ShadowSet) (parts : PartDisks) (held : IiDisks) (volumes : List VolumeState) (groups : List ShadowGroup)
    (loads : Loads parts held) where
  pub found_by : HoldsBy steady names places (OnDisks set parts) volumes groups → FoundBy steady names places (InMemory set held) volumes groups
  found_by by =
      let told = by.0.told in (
        record {
          sound = loads.sound told;
          told = loads.told told;
          in_step = ap (λ (b : GroupBlock). is_live b.slots set.slot) (loads.block told.state) ∙ sym (same_enabled steady names places set parts (parts_of held) (meaning_of_parts parts) volumes groups loads.disks);
        },
        subst (λ (g : GroupState). HoldsSet steady names places set (parts_of held) g volumes groups) (sym loads.group)
            (same_set steady names places set parts (parts_of held) (meaning_of_parts parts) volumes groups loads.disks by.1),
      )

  pub open_by : is_enabled set parts ≡ true → HoldsBy steady names places (OnDisks set parts) volumes groups → HoldsBy steady names places (InMemory set held) volumes groups
  open_by settled by =
      let found = found_by by in
      let on = same_enabled steady names places set parts (parts_of held) (meaning_of_parts parts) volumes groups loads.disks ∙ settled in
      (record { sound = found.0.sound; told = found.0.told; in_memory = found.0.in_step ∙ on; on_disk = on }, found.1)

-- counts of faults that have not fallen, disk by disk
pub none_fell : (old new : List Seen) (k : ℕ) → NoneFell (map (λ (d : Seen). d.faults) old) (map (λ (d : Seen). d.faults) new)
    → option_map_or (λ (d : Seen). d.faults) (slice_get old k) 0 ≤ option_map_or (λ (d : Seen). d.faults) (slice_get new k) 0
none_fell old new k none = omega (arith, none.each k, count_at (λ (d : Seen). d.faults) old k, count_at (λ (d : Seen). d.faults) new k)

-- lists as long as each other have disks at the same places
same_there : (xs ys : List Seen) (k : ℕ) → length xs ≡ length ys → is_some (slice_get xs k) ≡ is_some (slice_get ys k)
same_there xs ys k same = elim (cases_lt k (length xs)) [
  | inl within ↦ there_in xs k within ∙ sym (there_in ys k (omega (arith, same, within)))
  | inr past ↦ ap is_some (slice_get_past xs k past) ∙ sym (ap is_some (slice_get_past ys k (omega (arith, same, past))))
]

found_later : (store : StoreView) (set : ShadowSet) (parts : PartDisks) (held : IiDisks) → Loads parts held → (name : DiskName)
    → faults_of (record store { group = OnDisks set parts }) name ≤ faults_of (record store { group = InMemory set held }) name
found_later store set parts held loads (AtPlace place) = omega arith
found_later store set parts held loads (InGroup number) = none_fell (disks_in parts) (disks_of held) number loads.later

found_there : (store : StoreView) (set : ShadowSet) (parts : PartDisks) (held : IiDisks) → Loads parts held → (name : DiskName)
    → was_there (record store { group = InMemory set held }) name ≡ true → was_there (record store { group = OnDisks set parts }) name ≡ true
found_there store set parts held loads (AtPlace place) there = there
found_there store set parts held loads (InGroup number) there = ap (λ (b : Bool). number == 0 || b) same ∙ there
  where
    count : length (disks_of held) ≡ length (disks_in parts)
    count = sym (length-map (disks_of held) (λ (d : Seen). d.faults)) ∙ loads.later.same_length ∙ length-map (disks_in parts) (λ (d : Seen). d.faults)

    same : is_some (slice_get (disks_in parts) number) ≡ is_some (slice_get (disks_of held) number)
    same = same_there (disks_in parts) (disks_of held) number (sym count)

pub is_found : (store : StoreView) (set : ShadowSet) (parts : PartDisks) (held : IiDisks) → Loads parts held → IsFound (record store { group = OnDisks set parts }) (record store { group = InMemory set held })
is_found store set parts held loads = record {
  holds = λ steady state holds phase. record {
    same_names = holds.same_names;
    same_blocks = holds.same_blocks;
    no_other = holds.no_other;
    same_disks = holds.same_disks;
    by = found_by steady store.names store.places set parts held state.p.volumes state.p.groups loads holds.by;
  };
  enabled = λ steady state holds phase settled. record {
    same_names = holds.same_names;
    same_blocks = holds.same_blocks;
    no_other = holds.no_other;
    same_disks = holds.same_disks;
    by = open_by steady store.names store.places set parts held state.p.volumes state.p.groups loads settled holds.by;
  };
  phase = refl;
  there = found_there store set parts held loads;
  later = found_later store set parts held loads;
}

-- It is not found.

module _ (steady : Bool) (names : List (List ℕ)) (places : List (Place Seen)) (set : ShadowSet) (parts others : PartDisks) (volumes : List VolumeState) (groups : List ShadowGroup) where
  unfound_by : parts_no_faults others ≡ parts_no_faults parts → (AreTold parts → AreTold others) → (AreWhole parts → AreWhole others) → meaning_of_parts others ≡ meaning_of_parts parts
      → HoldsBy steady names places (OnDisks set parts) volumes groups → HoldsBy steady names places (OnDisks set others) volumes groups
  unfound_by same told whole group by = (
    record { told = told by.0.told; whole = whole by.0.whole },
    subst (λ (g : GroupState). HoldsSet steady names places set others g volumes groups) (sym group) (same_set steady names places set parts others (meaning_of_parts parts) volumes groups same by.1),
  )

pub is_refused : (store : StoreView) (set : ShadowSet) (parts others : PartDisks) (why : Why) → LoadRefused parts why others
    → Finds {T = Unit {0}} (record store { group = OnDisks set parts }) (Err why) (record store { group = OnDisks set others })
is_refused store set parts others (Size need have) refused = refused.cause
is_refused store set parts others (BadRecord field) refused = λ steady state holds. (refused.cause holds.by.0.told).1 holds.by.0.whole
is_refused store set parts others NoMemory refused = tt
is_refused store set parts others Fault refused =
    record {
      holds = λ steady state holds. record {
        same_names = holds.same_names;
        same_blocks = holds.same_blocks;
        no_other = holds.no_other;
        same_disks = holds.same_disks;
        by = unfound_by steady store.names store.places set parts others state.p.volumes state.p.groups refused.parts refused.told refused.whole refused.group holds.by;
      };
      set = set;
      parts = parts;
      others = others;
      was = refl;
      is = refl;
      enabled = ap (λ (p : PartDisks). is_enabled set p) refused.parts;
      unsteady = λ steady state holds. elim (cases_Bool steady) [
        | inl is ↦ absurd (false≢true (sym refused.cause.1 ∙ ap (λ (p : PartDisks). list_all (λ (d : Seen). d.steady) (disks_in p)) holds.by.1.is
            ∙ four_steady steady store.names state.p store.places set parts (meaning_of_parts parts) holds.same_names holds.by.1 is))
        | inr is ↦ is
      ];
      cause = rose_in (record store { group = OnDisks set parts }) (record store { group = OnDisks set others }) (disks_in parts) (disks_in others) refl refl refused.cause.0;
    }

-- A set that is given up.

-- the set of the group, which is pending
module _ (steady : Bool) (names : List (List ℕ)) (places : List (Place Seen)) (set : ShadowSet) (held : IiDisks) (volumes : List VolumeState) (groups : List ShadowGroup)
    (found : FoundBy steady names places (InMemory set held) volumes groups) where
  only : IsOneSet set found.1.disks held
  only = one_held set found.1.disks held found.1.is

  -- none waits: it is enabled
  pub still_open : pending_in held.block.slots held.sets ≡ [] → HoldsBy steady names places (InMemory set held) volumes groups
  still_open none =
      let in_memory = waits_not (is_live held.block.slots set.slot) refl in
      (record { sound = found.0.sound; told = found.0.told; in_memory = in_memory; on_disk = sym found.0.in_step ∙ in_memory }, found.1)
    where
      waits_not : (live : Bool) → is_live held.block.slots set.slot ≡ live → live ≡ true
      waits_not true is = refl
      waits_not false is =
          let out : is_live held.block.slots only.one.slot ≡ false = ap (is_live held.block.slots) only.slot ∙ is in
          let waits : pending_in held.block.slots held.sets ≡ only.one ∷ [] =
          ap (pending_in held.block.slots) only.sets ∙ ap (λ (b : Bool). cond (not b) (only.one ∷ []) []) out in
          let e : [] ≡ only.one ∷ [] = sym none ∙ waits in absurd (cc)

  -- it waits, and is given up: the volumes show what they did
  pub given_back : (s : HeldSet) (shadow bitmap : Seen) (left : IiDisks) → GivesUp held s shadow bitmap left
      → (master : Seen) × ((left.volumes ≡ master ∷ []) × HoldsBy steady names (places_back places set master shadow bitmap) (FreeDisk left.state) volumes groups)
  given_back s shadow bitmap left gives = (
    found.1.disks.master,
    (volumes_left, back),
  )
    where
      disks : FourDisks
      disks = found.1.disks

      out_of : (live : Bool) → is_live held.block.slots only.one.slot ≡ live → (live ≡ false) × (only.one ≡ s)
      out_of live is =
          let waits : pending_in held.block.slots held.sets ≡ cond (not live) (only.one ∷ []) [] =
          ap (pending_in held.block.slots) only.sets ∙ ap (λ (b : Bool). cond (not b) (only.one ∷ []) []) is in
          by live (sym (ap (find (λ (t : HeldSet). t.slot == s.slot)) waits) ∙ gives.pending)
        where
          at : (same : Bool) → cond same (Some only.one) None ≡ Some s → only.one ≡ s
          at true e = cc
          at false e = absurd (cc)

          by : (b : Bool) → find (λ (t : HeldSet). t.slot == s.slot) (cond (not b) (only.one ∷ []) []) ≡ Some s → (b ≡ false) × (only.one ≡ s)
          by true e = absurd (cc)
          by false e = (refl, at (only.one.slot == s.slot) e)

      which : (is_live held.block.slots only.one.slot ≡ false) × (only.one ≡ s)
      which = out_of (is_live held.block.slots only.one.slot) refl

      out : is_enabled set (parts_of held) ≡ false
      out = sym found.0.in_step ∙ ap (is_live held.block.slots) (sym only.slot) ∙ which.0

      same_shadow : shadow ≡ disks.shadow
      same_shadow = let e : Some shadow ≡ Some disks.shadow = sym gives.shadow_back ∙ ap (λ (t : HeldSet). t.chunks.shadow) (sym which.1) ∙ only.shadow in cc

      same_bitmap : bitmap ≡ disks.bitmap
      same_bitmap = gives.bitmap_back ∙ ap (λ (t : HeldSet). t.chunks.areas.disk) (sym which.1) ∙ only.bitmap

      same_state : left.state ≡ disks.state
      same_state = ap (λ (h : IiDisks). h.state) gives.is ∙ only.state

      volumes_left : left.volumes ≡ disks.master ∷ []
      volumes_left = ap (λ (h : IiDisks). h.volumes) gives.is ∙ only.volumes

      shown_back : (spent : Bool) (d : Seen) → shown (place_of spent d) ≡ plain_or_gone spent d
      shown_back true d = refl
      shown_back false d = refl

      none : (groups ≡ []) × (steady ≡ true → disks.state.armed ≡ false)
      none = subst (λ (b : Bool). AreGroups steady names set (meaning held) disks.state b groups) out found.1.are

      shows : map shown (places_back places set disks.master shadow bitmap) ≡ shown_with places set disks false
      shows =
          map-set shown _ set.shadow (place_of set.spent shadow)
          ∙ ap (λ (l : List Shown). slice_set l set.shadow (shown (place_of set.spent shadow)))
          (map-set shown _ set.master (Here disks.master) ∙ ap (λ (l : List Shown). slice_set l set.master (plain disks.master)) (map-set shown places set.bitmap (Spent bitmap)))
          ∙ (λ i. slice_set (slice_set (slice_set (map shown places) set.bitmap (gone (same_bitmap i))) set.master (plain disks.master)) set.shadow ((shown_back set.spent shadow ∙ ap (plain_or_gone set.spent) same_shadow) i))

      back : HoldsBy steady names (places_back places set disks.master shadow bitmap) (FreeDisk left.state) volumes groups
      back = (
        shows ∙ ap (shown_with places set disks) (sym out) ∙ found.1.shows,
        (none.0, (subst (λ (d : Seen). IsStateDisk steady d) (sym same_state) found.1.state_disk, λ is. ap (λ (d : Seen). d.armed) same_state ∙ none.1 is)),
      )

-- where none waits the store holds the state
pub settled_open : (store : StoreView) (set : ShadowSet) (held : IiDisks) → pending_in held.block.slots held.sets ≡ [] → Settles (record store { group = InMemory set held }) Done (record store { group = InMemory set held })
settled_open store set held none = record {
  holds = λ steady state found. record {
    same_names = found.same_names;
    same_blocks = found.same_blocks;
    no_other = found.no_other;
    same_disks = found.same_disks;
    by = still_open steady store.names store.places set held state.p.volumes state.p.groups found.by none;
  };
  phase = λ phase. phase;
  told = refl;
}

-- and where it is given up
pub settled_back : (store new : StoreView) (set : ShadowSet) (held left : IiDisks) (s : HeldSet) (shadow bitmap : Seen) → GivesUp held s shadow bitmap left → new.group ≡ FreeDisk left.state → new.names ≡ store.names → new.blocks ≡ store.blocks
    → ((master : Seen) → left.volumes ≡ master ∷ [] → new.places ≡ places_back store.places set master shadow bitmap) → Settles (record store { group = InMemory set held }) Kept new
settled_back store new set held left s shadow bitmap gives group names blocks places = record {
  holds = λ steady state found.
      let back = given_back steady store.names store.places set held state.p.volumes state.p.groups found.by s shadow bitmap left gives in
      record {
        same_names = names ∙ found.same_names;
        same_blocks = blocks ∙ found.same_blocks;
        no_other = found.no_other;
        same_disks = ap disks_made group ∙ found.same_disks;
        by = subst (λ (g : GroupView). HoldsBy steady new.names new.places g state.p.volumes state.p.groups) (sym group)
            (subst (λ (n : List (List ℕ)). HoldsBy steady n new.places (FreeDisk left.state) state.p.volumes state.p.groups) (sym names)
            (subst (λ (p : List (Place Seen)). HoldsBy steady store.names p (FreeDisk left.state) state.p.volumes state.p.groups) (sym (places back.0 back.1.0)) back.1.1));
      };
  phase = λ phase. subst (IsPhase true) (sym group) tt;
  told = ap second_by (sym group);
}
