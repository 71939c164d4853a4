-- What reading blocks of a volume makes of a store.
use Rattle.std.proofs.Common.{◌≡◌, ◌⊎◌, ℕ, zero, suc, ◌+◌, ◌/◌, ◌<◌, ◌≤◌, Bool, true, false, Option, None, Some, Ok, Err, List, [], ◌∷◌, length, map, slice_index, refl, sym, ◌∙◌, ap, subst, inl, inr, arith}
use Rattle.std.specs.Prelude.{IsTrue, Result, OnErr, IsOk, slice_set, is_some, ◌||◌, ◌==◌}
use Rattle.std.specs.List.{slice_get, position, list_all}
use Rattle.std.specs.Option.{option_map_or}
use Rattle.std.specs.Str.{bytes_eq}
use Rattle.std.proofs.lemmas.Bool.{false≢true}
use Rattle.std.proofs.lemmas.List.{length-map}
use Rattle.std.proofs.lemmas.Option.{get_or_from_slice_get, slice_get_within}
use Rattle.std.proofs.lemmas.Result.{on_ok_weaker, on_err_weaker}
use Rattle.avs_seg.specs.Causes.{Rose}
use Rattle.avs_seg.specs.Image.{Image, blocks_of, range}
use Rattle.avs_dev.specs.Devices.{OneRose}
use Rattle.avs_dev.specs.Seen.{Seen, IsTold, Reads}
use Rattle.avs_model.specs.Shadows.{GroupState, image_at, volume_image}
use Rattle.avs_model.specs.State.{State, VolumeState, HostState, ShadowGroup, Alone, MasterIn, ShadowIn, use_of, image_by, image_of}
use Rattle.avs_world.specs.declared.group.Part.{Part}
use Rattle.avs_world.specs.declared.group.Part.TheVariants.{Master, Shadow, Plain}
use Rattle.avs_model.specs.declared.answer.Refusal.{Refusal}
use Rattle.avs_model.specs.declared.answer.Refusal.TheVariants.{Fault}
use Rattle.avs_ii.specs.Held.{HeldSet, IiDisks, disks_of, set_at}
use Rattle.avs_ii.specs.Meaning.{meaning}
use Rattle.avs_ii.specs.Sound.{IsSound}
use Rattle.avs_ii.specs.Parts.{parts_of, meaning_of_parts}
use Rattle.avs_ii.specs.Calls.{NamesSet, ReadsSet, ReadsVolume, armed_of, are_steady}
use Rattle.avs_world.specs.declared.place.Place.{Place}
use Rattle.avs_world.specs.declared.place.Place.TheVariants.{Here, Spent, Lent}
use Rattle.avs_world.specs.declared.group.ShadowSet.{ShadowSet}
use Rattle.avs_world.specs.declared.ranges.Target.{Target}
use Rattle.avs_world.specs.Views.{GroupView, NoGroup, FreeDisk, InMemory, OnDisks, StoreView}
use Rattle.avs_world.specs.Ranges.{role_in, role_by, disk_here, is_gone, group_size_of, group_size, reach, IsReached}
use Rattle.avs_world.specs.Causes.{AtPlace, InGroup, group_disks, faults_of, DiskRose, DisksLast}
use Rattle.avs_world.specs.Places.{HasRange, ReadsPlace, places_with, with_disk}
use Rattle.avs_world.specs.Holds.{Shown, plain, gone, shown, group_with, is_enabled, IsSetOf, AreGroups, HoldsSet, IsOpen, HoldsBy, Holds, IsPhase, disks_made}
use Rattle.avs_world.specs.Calls.{IsOf, ReadsMaster, ReadsShadow, ReadsAt}
use Rattle.avs_world.proofs.Holding.{Found, found_plain, plain_shown, volume_shown, slice_get-set, shown_same, holds_same_shown, open_groups, use_in_set, use_alone, use_as}
use Rattle.avs_world.proofs.Reached.{plain_lasts, plain_reached, group_lasts, group_reached}
use Rattle.avs_world.proofs.Tears.{four_list}
use Rattle.avs_world.proofs.Staying.{KeepsGroup, set_with, shown_unarmed, still_live, still_enabled, four_steady, count_at}

-- Places.

-- a place where a disk is
pub place_here : (o : Option (Place Seen)) (d : Seen) → disk_here o ≡ Some d → (o ≡ Some (Here d)) ⊎ (o ≡ Some (Spent d))
place_here None d is = absurd (cc)
place_here (Some (Here x)) d is = inl (ap (λ (y : Seen). Some (Here y)) (cc))
place_here (Some (Spent x)) d is = inr (ap (λ (y : Seen). Some (Spent y)) (cc))
place_here (Some Lent) d is = absurd (cc)

-- and the volume has contents
pub place_filled : (o : Option (Place Seen)) (d : Seen) → disk_here o ≡ Some d → is_gone o ≡ false → o ≡ Some (Here d)
place_filled o d is filled = elim (place_here o d is) [
  | inl here ↦ here
  | inr spent ↦ absurd (false≢true (sym filled ∙ ap is_gone spent))
]

-- a disk is there that has as many blocks
there : (o : Option Seen) (n : ℕ) → n ≤ option_map_or (λ (d : Seen). d.size) o 0 → 0 < n → (d : Seen) × (o ≡ Some d) × (n ≤ d.size)
there None n le some = absurd (omega arith)
there (Some d) n le some = (d, refl, le)

-- the range that is reached
module _ (store : StoreView) (target : Target) (at len : ℕ) (reached : IsReached store target at len) where
  pub reached_some : 0 < at + len / 512
  reached_some = omega (arith, reached.some, reached.whole)

  pub reached_as : (role : Part) → target.role ≡ role → at + len / 512 ≤ reach store (record target { role = role })
  reached_as role is = subst (λ (r : Part). at + len / 512 ≤ reach store (record target { role = r })) is reached.inside

  pub plain_range : target.role ≡ Plain → HasRange store.places target.place at len
  plain_range is =
      let disk = there (disk_here (slice_get store.places target.place)) (at + len / 512) (reached_as Plain is) reached_some in
      record { disk = disk.0; here = disk.1; range = record { some = reached.some; whole = reached.whole; inside = disk.2 } }

-- Results.

-- a call that is sure over steady disks fails over others alone
pub unsteady : {T E : Type 0} (result : Result T E) (steady : Bool) → (steady ≡ true → IsOk result) → OnErr result (steady ≡ false)
unsteady (Ok x) steady sure = tt
unsteady (Err e) true sure = absurd (false≢true (sure refl))
unsteady (Err e) false sure = refl

-- The disk of a volume that serves as nothing.

-- the faults of a disk at a place
pub rose_at : {T E : Type 0} (old new : StoreView) (k : ℕ) (d d' : Seen) (result : Result T E) → disk_here (slice_get old.places k) ≡ Some d → disk_here (slice_get new.places k) ≡ Some d'
    → OnErr result (Rose d.faults d'.faults) → OnErr result (DiskRose old new)
rose_at old new k d d' result was is rose =
    on_err_weaker result
    (λ r. (
      AtPlace k,
      ap is_some was,
      subst (λ (n : ℕ). Rose n (faults_of new (AtPlace k))) (sym (ap (λ (o : Option Seen). option_map_or (λ (x : Seen). x.faults) o 0) was))
          (subst (λ (n : ℕ). Rose d.faults n) (sym (ap (λ (o : Option Seen). option_map_or (λ (x : Seen). x.faults) o 0) is)) r),
    )) rose

-- the place that a call on its disk leaves
pub changed_place : (places : List (Place Seen)) (k : ℕ) (d d' : Seen) → slice_get places k ≡ Some (Here d) → places_with places k d' ≡ slice_set places k (Here d')
changed_place places k d d' is = ap (λ (p : Place Seen). slice_set places k (with_disk p d')) (get_or_from_slice_get places k (Here d) Lent is)

-- the same, of a disk whose volume may have no contents
pub here_still : (places : List (Place Seen)) (k : ℕ) (d d' : Seen) → disk_here (slice_get places k) ≡ Some d → disk_here (slice_get (places_with places k d') k) ≡ Some d'
here_still places k d d' is = elim (place_here (slice_get places k) d is) [
  | inl here ↦
      ap (λ (p : Place Seen). disk_here (slice_get (slice_set places k (with_disk p d')) k)) (get_or_from_slice_get places k (Here d) Lent here)
      ∙ ap disk_here (slice_get-set places k (Here d') (slice_get_within places k (Here d) here))
  | inr spent ↦
      ap (λ (p : Place Seen). disk_here (slice_get (slice_set places k (with_disk p d')) k)) (get_or_from_slice_get places k (Spent d) Lent spent)
      ∙ ap disk_here (slice_get-set places k (Spent d') (slice_get_within places k (Spent d) spent))
]

-- the use of a volume that serves as nothing, whatever the group is
module _ (steady : Bool) (names : List (List ℕ)) (host : HostState) (name : List ℕ) (k : ℕ) (sought : position (bytes_eq name) names ≡ Some k) where
  use_beside : (set : ShadowSet) (state : GroupState) (disk : Seen) (live : Bool) → IsSetOf names set → AreGroups steady names set state disk live host.groups → role_in set k ≡ Plain → use_of host name ≡ Alone
  use_beside set state disk true set_of are is = use_in_set names host set state are.0 are.1 name k set_of sought ∙ ap use_as is
  use_beside set state disk false set_of are is = use_alone host name are.0

  use_by_role : (places : List (Place Seen)) (group : GroupView) → HoldsBy steady names places group host.volumes host.groups → role_by group k ≡ Plain → use_of host name ≡ Alone
  use_by_role places NoGroup by is = use_alone host name by.1
  use_by_role places (FreeDisk disk) by is = use_alone host name by.1.0
  use_by_role places (InMemory set held) by is = use_beside set (meaning held) by.1.disks.state (is_enabled set (parts_of held)) by.1.set_of by.1.are is
  use_by_role places (OnDisks set parts) by is = use_beside set (meaning_of_parts parts) by.1.disks.state (is_enabled set parts) by.1.set_of by.1.are is

-- a volume that serves as nothing, whose disk is here
pub record FoundPlain (steady : Bool) (state : State) (name : List ℕ) (k : ℕ) (d : Seen) : Type 0 where
  pub found : Found steady state.p name k (plain d)
  pub alone : use_of state.p name ≡ Alone
  pub told : IsTold d
  pub steady_is : d.steady ≡ steady
  pub image : d.image ≡ image_of state.p name

pub plain_volume : (steady : Bool) (store : StoreView) (state : State) (target : Target) (name : List ℕ) (at len : ℕ) (d : Seen) → target.role ≡ Plain → IsReached store target at len → Holds steady store state → IsOf store target name
    → disk_here (slice_get store.places target.place) ≡ Some d → FoundPlain steady state name target.place d
plain_volume steady store state target name at len d role reached holds sought disk =
    let here = place_filled (slice_get store.places target.place) d disk (reached.filled role) in
    let by_role : role_by store.group target.place ≡ Plain = sym reached.is ∙ role in
    let f = found_plain steady store state name target.place (Here d) holds by_role sought here in
    let alone = use_by_role steady store.names state.p name target.place sought store.places store.group holds.by by_role in
    record {
      found = f;
      alone = alone;
      told = ap (λ (s : Shown). s.told) f.is ∙ sym (ap (λ (s : Shown). s.size) f.is);
      steady_is = ap (λ (s : Shown). s.steady) f.is;
      image = f.image ∙ ap (image_by state.p name) (sym alone);
    }

-- its disk is as steady as all are
pub plain_steady : (steady : Bool) (store : StoreView) (state : State) (target : Target) (at len : ℕ) (d : Seen) → target.role ≡ Plain → IsReached store target at len → Holds steady store state
    → disk_here (slice_get store.places target.place) ≡ Some d → d.steady ≡ steady
plain_steady steady store state target at len d role reached holds disk =
    let here = place_filled (slice_get store.places target.place) d disk (reached.filled role) in
    let shows = plain_shown steady store.names store.places store.group state.p.volumes state.p.groups target.place (Here d) holds.by (sym reached.is ∙ role) here in
    ap (λ (s : Shown). s.steady) (volume_shown steady state.p.volumes shows.0 shows.1.0 target.place (plain d) shows.1.1).is

-- What a read leaves.

-- the place shows the same
read_shows : {T E : Type 0} (at : ℕ) (out : List ℕ) (result : Result T E) (d d' : Seen) → Reads d at out result d' → plain d' ≡ plain d
read_shows at out result d d' reads = ap plain reads.rest

read_gone : {T E : Type 0} (at : ℕ) (out : List ℕ) (result : Result T E) (d d' : Seen) → Reads d at out result d' → gone d' ≡ gone d
read_gone at out result d d' reads = ap gone reads.rest

places_show : {T E : Type 0} (places : List (Place Seen)) (k at : ℕ) (out : List ℕ) (result : Result T E) (d d' : Seen) → disk_here (slice_get places k) ≡ Some d → Reads d at out result d'
    → map shown (places_with places k d') ≡ map shown places
places_show places k at out result d d' is reads = elim (place_here (slice_get places k) d is) [
  | inl here ↦
      ap (λ (p : Place Seen). map shown (slice_set places k (with_disk p d'))) (get_or_from_slice_get places k (Here d) Lent here)
      ∙ shown_same places k (Here d) (Here d') here (read_shows at out result d d' reads)
  | inr spent ↦
      ap (λ (p : Place Seen). map shown (slice_set places k (with_disk p d'))) (get_or_from_slice_get places k (Spent d) Lent spent)
      ∙ shown_same places k (Spent d) (Spent d') spent (read_gone at out result d d' reads)
]

pub reads_plain : {T E : Type 0} (old : StoreView) (places : List (Place Seen)) (target : Target) (at len : ℕ) (out : List ℕ) (result : Result T E) → target.role ≡ Plain → IsReached old target at len
    → ReadsPlace old.places target.place at out result places → ReadsAt old target at out result (record old { places = places })
reads_plain old places target at len out result role reached reads =
    let k = target.place in
    let same : map shown places ≡ map shown old.places = ap (map shown) reads.is ∙ places_show old.places k at out result reads.disk reads.disk_new reads.here reads.reads in
    let size = ap (λ (d : Seen). d.size) reads.reads.rest in
    record {
      names = refl;
      holds = λ steady state holds. holds_same_shown steady old state places same holds;
      phase = λ up phase. phase;
      shows = λ steady state name holds sought.
          let f = plain_volume steady old state target name at len reads.disk role reached holds sought reads.here in
          on_ok_weaker result (λ (e : blocks_of out ≡ range reads.disk.image at (length out / 512)). e ∙ ap (λ (image : Image). range image at (length out / 512)) f.image) (reads.reads.shows f.told);
      sure = λ steady state holds. unsteady result steady (λ is. reads.reads.sure (plain_steady steady old state target at len reads.disk role reached holds reads.here ∙ is));
      cause = rose_at old (record old { places = places }) k reads.disk reads.disk_new result reads.here
          (ap (λ (ps : List (Place Seen)). disk_here (slice_get ps k)) reads.is ∙ here_still old.places k reads.disk reads.disk_new reads.here) reads.reads.cause.failed;
      disks = subst (λ (ps : List (Place Seen)). DisksLast old (record old { places = ps })) (sym reads.is) (plain_lasts old k reads.disk reads.disk_new reads.here size reads.reads.cause.later);
      reached = λ from more before.
          subst (λ (ps : List (Place Seen)). IsReached (record old { places = ps }) target from more) (sym reads.is)
          (plain_reached old k reads.disk reads.disk_new reads.here size reads.reads.cause.later target from more role refl before);
    }

-- A group.

-- what a read keeps of a group
pub record IsRead (old new : IiDisks) : Type 0 where
  pub keeps : KeepsGroup old new
  pub armed : armed_of new ≡ armed_of old
  pub group : meaning new ≡ meaning old
  pub sound : IsSound old → IsSound new

volume_read : {T E : Type 0} (old new : IiDisks) (at : ℕ) (out : List ℕ) (result : Result T E) → ReadsVolume old 0 out at result new → IsRead old new
volume_read old new at out result reads = record {
  keeps = record { state = reads.state; block = reads.block; shape = reads.shape; told = reads.told };
  armed = reads.armed;
  group = reads.group;
  sound = reads.sound;
}

set_read : {T : Type 0} (old new : IiDisks) (slot at : ℕ) (out : List ℕ) (result : Result T Refusal) → ReadsSet old slot out at result new → IsRead old new
set_read old new slot at out result reads = record {
  keeps = record { state = reads.state; block = reads.block; shape = reads.shape; told = reads.told };
  armed = reads.armed;
  group = reads.group;
  sound = reads.sound;
}

module _ (steady : Bool) (names : List (List ℕ)) (places : List (Place Seen)) (set : ShadowSet) (old new : IiDisks) (volumes : List VolumeState) (groups : List ShadowGroup) (keeps : KeepsGroup old new) where
  -- the group in memory goes on as it was
  pub opened_still : IsOpen set old → IsSound new → HoldsSet steady names places set (parts_of old) (meaning old) volumes groups → IsOpen set new
  opened_still opened sound holds = record {
    sound = sound;
    told = keeps.told opened.told;
    in_memory = still_live steady names places set old new (meaning old) volumes groups opened holds keeps;
    on_disk = still_enabled steady names places set old new (meaning old) volumes groups opened holds keeps;
  }

by_read : (steady : Bool) (names : List (List ℕ)) (places : List (Place Seen)) (set : ShadowSet) (old new : IiDisks) (volumes : List VolumeState) (groups : List ShadowGroup) → IsRead old new
    → HoldsBy steady names places (InMemory set old) volumes groups → HoldsBy steady names places (InMemory set new) volumes groups
by_read steady names places set old new volumes groups is by =
    let shows = shown_unarmed steady names places set old new (meaning old) volumes groups by.0 by.1 is.keeps is.armed in
    let group = open_groups steady names places set old volumes groups by.0 by.1 in (
      opened_still steady names places set old new volumes groups is.keeps by.0 (is.sound by.0.sound) by.1,
      set_with steady names places set old new (meaning old) volumes groups by.0 by.1 is.keeps group volumes (meaning new) groups shows (group.1 ∙ ap (λ (g : GroupState). group_with names set g group.0 ∷ []) (sym is.group)),
    )

-- the store goes on holding the state
group_reads : (steady : Bool) (old : StoreView) (set : ShadowSet) (held new : IiDisks) (state : State) → old.group ≡ InMemory set held → IsRead held new → Holds steady old state → Holds steady (record old { group = InMemory set new }) state
group_reads steady old set held new state was is holds = record {
  same_names = holds.same_names;
  same_blocks = holds.same_blocks;
  no_other = holds.no_other;
  same_disks = sym (ap disks_made was) ∙ holds.same_disks;
  by = by_read steady old.names old.places set held new state.p.volumes state.p.groups is
      (subst (λ (g : GroupView). HoldsBy steady old.names old.places g state.p.volumes state.p.groups) was holds.by);
}

-- a disk of a list is there
pub there_in : (disks : List Seen) (k : ℕ) → k < length disks → is_some (slice_get disks k) ≡ true
there_in [] k within = absurd (omega arith)
there_in (d ∷ disks) zero within = refl
there_in (d ∷ disks) (suc k) within = there_in disks k (omega arith)

or_there : (a b : Bool) → b ≡ true → (a || b) ≡ true
or_there a b is = grind arith

-- one of its disks failed
pub rose_in : (old new : StoreView) (before after : List Seen) → group_disks old.group ≡ before → group_disks new.group ≡ after → OneRose (map (λ (d : Seen). d.faults) before) (map (λ (d : Seen). d.faults) after) → DiskRose old new
rose_in old new before after was is rose = (
  InGroup rose.device,
  or_there (rose.device == 0) (is_some (slice_get (group_disks old.group) rose.device))
      (ap (λ (l : List Seen). is_some (slice_get l rose.device)) was ∙ there_in before rose.device (omega (arith, rose.there, length-map before (λ (d : Seen). d.faults)))),
  subst (λ (n : ℕ). Rose n (faults_of new (InGroup rose.device)))
      (count_at (λ (d : Seen). d.faults) before rose.device ∙ ap (λ (l : List Seen). option_map_or (λ (d : Seen). d.faults) (slice_get l rose.device) 0) (sym was))
      (subst (λ (n : ℕ). Rose (slice_index (map (λ (d : Seen). d.faults) before) rose.device) n)
      (count_at (λ (d : Seen). d.faults) after rose.device ∙ ap (λ (l : List Seen). option_map_or (λ (d : Seen). d.faults) (slice_get l rose.device) 0) (sym is)) rose.rose),
)

-- the group in memory, which a state holds
pub group_held : (steady : Bool) (store : StoreView) (set : ShadowSet) (held : IiDisks) (state : State) → store.group ≡ InMemory set held → Holds steady store state
    → HoldsBy steady store.names store.places (InMemory set held) state.p.volumes state.p.groups
group_held steady store set held state is holds = subst (λ (g : GroupView). HoldsBy steady store.names store.places g state.p.volumes state.p.groups) is holds.by

pub all_steady : (steady : Bool) (store : StoreView) (set : ShadowSet) (held : IiDisks) (state : State) → store.group ≡ InMemory set held → Holds steady store state → steady ≡ true → IsTrue (are_steady held)
all_steady steady store set held state is holds is_steady =
    let by = group_held steady store set held state is holds in
    ap (list_all (λ (d : Seen). d.steady)) (four_list held set.slot by.1.disks by.1.is) ∙ four_steady steady store.names state.p store.places set (parts_of held) (meaning held) holds.same_names by.1 is_steady

-- the state's group, and the use of its volumes
module _ (steady : Bool) (store : StoreView) (set : ShadowSet) (held : IiDisks) (state : State) (is : store.group ≡ InMemory set held) (holds : Holds steady store state) where
  abbrev pub group_by : HoldsBy steady store.names store.places (InMemory set held) state.p.volumes state.p.groups
  group_by = group_held steady store set held state is holds

  pub only_group : AreGroups steady store.names set (meaning held) group_by.1.disks.state true state.p.groups
  only_group = open_groups steady store.names store.places set held state.p.volumes state.p.groups group_by.0 group_by.1

  pub used_as : (target : Target) (role : Part) (name : List ℕ) (at len : ℕ) → IsReached store target at len → target.role ≡ role → IsOf store target name → use_of state.p name ≡ use_as role
  used_as target role name at len reached role_is sought =
      use_in_set store.names state.p set (meaning held) only_group.0 only_group.1 name target.place group_by.1.set_of sought
      ∙ ap use_as (ap (λ (g : GroupView). role_by g target.place) (sym is) ∙ sym reached.is ∙ role_is)

  pub master_image : (target : Target) (name : List ℕ) (at len : ℕ) → IsReached store target at len → target.role ≡ Master → IsOf store target name → image_of state.p name ≡ volume_image (meaning held) 0
  master_image target name at len reached role_is sought =
      ap (image_by state.p name) (used_as target Master name at len reached role_is sought)
      ∙ ap (λ (gs : List ShadowGroup). image_by (record state.p { groups = gs }) name (MasterIn 0 0)) only_group.1

  pub shadow_image : (target : Target) (name : List ℕ) (at len : ℕ) → IsReached store target at len → target.role ≡ Shadow → IsOf store target name → image_of state.p name ≡ image_at (meaning held).sets set.slot
  shadow_image target name at len reached role_is sought =
      ap (image_by state.p name) (used_as target Shadow name at len reached role_is sought)
      ∙ ap (λ (gs : List ShadowGroup). image_by (record state.p { groups = gs }) name (ShadowIn 0 0)) only_group.1

pub reads_master : {T E : Type 0} (old : StoreView) (group : GroupView) (target : Target) (at len : ℕ) (out : List ℕ) (result : Result T E) → target.role ≡ Master → IsReached old target at len
    → ReadsMaster old.group at out result group → ReadsAt old target at out result (record old { group = group })
reads_master old group target at len out result role reached reads =
    let read = volume_read reads.held reads.held_new at out result reads.reads in record {
      names = refl;
      holds = λ steady state holds.
          subst (λ (g : GroupView). Holds steady (record old { group = g }) state) (sym reads.now) (group_reads steady old reads.set reads.held reads.held_new state reads.was read holds);
      phase = λ up phase. subst (IsPhase up) (sym reads.now) (subst (IsPhase up) reads.was phase);
      shows = λ steady state name holds sought.
          let by = group_held steady old reads.set reads.held state reads.was holds in
          on_ok_weaker result
          (λ (e : blocks_of out ≡ range (volume_image (meaning reads.held) 0) at (length out / 512)).
          e ∙ ap (λ (image : Image). range image at (length out / 512)) (sym (master_image steady old reads.set reads.held state reads.was holds target name at len reached role sought)))
          (reads.reads.shows by.0.sound);
      sure = λ steady state holds. unsteady result steady (λ is. reads.reads.steady (all_steady steady old reads.set reads.held state reads.was holds is));
      cause = on_err_weaker result (rose_in old (record old { group = group }) (disks_of reads.held) (disks_of reads.held_new) (ap group_disks reads.was) (ap group_disks reads.now)) reads.reads.failed;
      disks = group_lasts reads.set reads.held reads.held_new old group reads.was reads.now reads.reads.later;
      reached = group_reached reads.set reads.held reads.held_new reads.reads.shape reads.reads.block old group reads.was reads.now target;
    }

-- the set of a shadow whose range is reached is there
pub set_reached : (old : StoreView) (set : ShadowSet) (held : IiDisks) (target : Target) (at len : ℕ) → old.group ≡ InMemory set held → target.role ≡ Shadow → IsReached old target at len → set_at held set.slot ≡ None → ⊥
set_reached old set held target at len was role reached none =
    let inside : at + len / 512 ≤ group_size_of set held Shadow = subst (λ (g : GroupView). at + len / 512 ≤ group_size g Shadow) was (reached_as old target at len reached Shadow role) in
    let nothing : group_size_of set held Shadow ≡ 0 = ap (λ (o : Option HeldSet). option_map_or (λ (s : HeldSet). s.chunks.blocks) o 0) none in
    omega (arith, inside, nothing, reached_some old target at len reached)

-- so a call on it fails by a disk alone
pub why_fault : {T : Type 0} (found : Option HeldSet) (why : Refusal) → NamesSet {T = T} found (Err why) → (found ≡ None → ⊥) → why ≡ Fault
why_fault {T} found why names there = elim names.others [
  | inl none ↦ absurd (there (names.no_set (ap (λ (w : Refusal). Err w) none)))
  | inr fault ↦ fault
]

pub reads_shadow_ok : {T T' E : Type 0} (old : StoreView) (group : GroupView) (target : Target) (at len : ℕ) (out : List ℕ) (x : T) (y : T') → target.role ≡ Shadow → IsReached old target at len
    → ReadsShadow old.group at out (Ok x) group → ReadsAt {T = T'} {E = E} old target at out (Ok y) (record old { group = group })
reads_shadow_ok old group target at len out x y role reached reads =
    let read = set_read reads.held reads.held_new reads.set.slot at out (Ok x) reads.reads in record {
      names = refl;
      holds = λ steady state holds.
          subst (λ (g : GroupView). Holds steady (record old { group = g }) state) (sym reads.now) (group_reads steady old reads.set reads.held reads.held_new state reads.was read holds);
      phase = λ up phase. subst (IsPhase up) (sym reads.now) (subst (IsPhase up) reads.was phase);
      shows = λ steady state name holds sought.
          let by = group_held steady old reads.set reads.held state reads.was holds in
          reads.reads.shows by.0.sound
          ∙ ap (λ (image : Image). range image at (length out / 512)) (sym (shadow_image steady old reads.set reads.held state reads.was holds target name at len reached role sought));
      sure = λ steady state holds. tt;
      cause = tt;
      disks = group_lasts reads.set reads.held reads.held_new old group reads.was reads.now reads.reads.later;
      reached = group_reached reads.set reads.held reads.held_new reads.reads.shape reads.reads.block old group reads.was reads.now target;
    }

pub reads_shadow_err : {T T' E : Type 0} (old : StoreView) (group : GroupView) (target : Target) (at len : ℕ) (out : List ℕ) (why : Refusal) (e : E) → target.role ≡ Shadow → IsReached old target at len
    → ReadsShadow {T = T} old.group at out (Err why) group → ReadsAt {T = T'} {E = E} old target at out (Err e) (record old { group = group })
reads_shadow_err {T} {T'} {E} old group target at len out why e role reached reads =
    let read = set_read {T = T} reads.held reads.held_new reads.set.slot at out (Err why) reads.reads in
    let fault : ◌≡◌ {A = Result T Refusal} (Err why) (Err Fault) = ap (λ (w : Refusal). Err w) (why_fault {T = T} (set_at reads.held reads.set.slot) why reads.reads.names (set_reached old reads.set reads.held target at len reads.was role reached)) in
    record {
      names = refl;
      holds = λ steady state holds.
          subst (λ (g : GroupView). Holds steady (record old { group = g }) state) (sym reads.now) (group_reads steady old reads.set reads.held reads.held_new state reads.was read holds);
      phase = λ up phase. subst (IsPhase up) (sym reads.now) (subst (IsPhase up) reads.was phase);
      shows = λ steady state name holds sought. tt;
      sure = λ steady state holds. unsteady {T = T'} (Err e) steady (λ is. absurd (reads.reads.steady (all_steady steady old reads.set reads.held state reads.was holds is) fault));
      cause = rose_in old (record old { group = group }) (disks_of reads.held) (disks_of reads.held_new) (ap group_disks reads.was) (ap group_disks reads.now) (reads.reads.fault fault);
      disks = group_lasts reads.set reads.held reads.held_new old group reads.was reads.now reads.reads.later;
      reached = group_reached reads.set reads.held reads.held_new reads.reads.shape reads.reads.block old group reads.was reads.now target;
    }
