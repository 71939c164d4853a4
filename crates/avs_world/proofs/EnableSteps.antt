-- The step of enabling a set, by what its calls leave.
use Rattle.std.proofs.Common.{◌≡◌, ◌≢◌, ◌⊎◌, ℕ, ◌≤◌, Bool, true, false, not, cond, ◌==◌, Option, Some, None, List, [], length, refl, sym, ◌∙◌, ap, subst, inl, inr, arith}
use Rattle.std.specs.Prelude.{if◌then◌else◌, IsTrue, Ok, Err, is_some}
use Rattle.std.specs.List.{slice_get, list_all}
use Rattle.std.specs.Option.{option_map_or}
use Rattle.std.proofs.lemmas.Bool.{false≢true, cases_Bool, cond-true}
use Rattle.std.proofs.lemmas.List.{length-replicate}
use Rattle.std.proofs.lemmas.Option.{same_Some, slice_get_within}
use Rattle.avs_seg.specs.Image.{Image, zero_block, blank}
use Rattle.avs_seg.specs.Causes.{Rose}
use Rattle.avs_dev.specs.Seen.{Seen}
use Rattle.avs_dev.specs.Rack.{RackSeen}
use Rattle.avs_chunk.specs.Making.{FailsFormat, IsSmall}
use Rattle.avs_model.specs.Limits.{bitmap_blocks}
use Rattle.avs_model.specs.Shadows.{slot_count}
use Rattle.avs_model.specs.State.{State, HostState, VolumeState, ShadowGroup}
use Rattle.avs_model.specs.Stages.{StoppedIn, stages}
use Rattle.avs_model.specs.Recovery.{is_command}
use Rattle.avs_model.specs.Refusals.{refusal, enable_causes, first_cause}
use Rattle.avs_model.specs.Good.{Step}
use Rattle.avs_model.specs.Promise.{AsksForDisk}
use Rattle.avs_model.specs.declared.event.Event.{Event}
use Rattle.avs_model.specs.declared.event.IiCommand.{IiCommand}
use Rattle.avs_model.specs.declared.answer.Answer.{Answer}
use Rattle.avs_model.specs.declared.answer.Answer.TheVariants.{Done, Faulted}
use Rattle.avs_model.specs.declared.event.Host.TheVariants.{P}
use Rattle.avs_model.specs.declared.event.IiCommand.TheVariants.{Enable}
use Rattle.avs_model.specs.declared.event.Event.TheVariants.{Ii}
use Rattle.avs_model.specs.declared.answer.Refusal.{Refusal}
use Rattle.avs_model.specs.declared.answer.Refusal.TheVariants.{Down, Size, Limit, NoMemory, Fault}
use Rattle.avs_model.specs.declared.shadow.Kind.TheVariants.{Dep}
use Rattle.avs_ii.specs.Held.{IiDisks, has_flag, live}
use Rattle.avs_ii.specs.Parts.{parts_of}
use Rattle.avs_ii.specs.Making.{Opens, FailsOpening, empty_block}
use Rattle.avs_ii.specs.Calls.{Adds, EnableRefused, limit_at, blocks_at}
use Rattle.avs_world.specs.declared.place.Place.{Place}
use Rattle.avs_world.specs.declared.place.Place.TheVariants.{Spent}
use Rattle.avs_world.specs.declared.enabling.Chosen.{Chosen}
use Rattle.avs_world.specs.declared.place.Shelf.{Shelf}
use Rattle.avs_world.specs.declared.stopped.Stopped.{Stopped}
use Rattle.avs_world.specs.declared.stopped.Stopped.TheVariants as stopped
use Rattle.avs_world.specs.declared.world.World.{World}
use Rattle.avs_world.specs.Views.{GroupView, NoGroup, FreeDisk, InMemory, OnDisks, StoreView, names_of, places_of, view_of, closed, SameApart}
use Rattle.avs_world.specs.World.{Keeps, IsThere, IsExplained, Stands}
use Rattle.avs_world.specs.Holds.{Holds, HoldsBy, IsPhase, IsStateDisk}
use Rattle.avs_world.specs.Ranges.{disk_here}
use Rattle.avs_world.specs.Places.{place_of}
use Rattle.avs_world.specs.Causes.{AtPlace, InGroup, group_disks, faults_of, DiskRose}
use Rattle.avs_world.specs.Enabling.{IsFree, HasNoFree, IsChosen, HasThree, TakesState, LendsTo, Fills, FillsNone, places_lent, places_back, set_of}
use Rattle.avs_world.proofs.Choosing.{no_groups, no_disk}
use Rattle.avs_world.proofs.Holding.{slice_get-set}
use Rattle.avs_world.proofs.Standing.{up_none, up_kept, up_holds, up_phase, stands_up, stands_down}
use Rattle.avs_world.proofs.Lending.{one_added, added_blocks, disk_of_place}
use Rattle.avs_world.proofs.NewGroups.{writes, faults_later}
use Rattle.avs_world.proofs.Enabled.{given_back}
use Rattle.avs_world.proofs.Outcomes.{after_command, Falls, start_falls, back_falls, enabled, commit_falls}

-- The state disk that is taken.
module _ (rack : RackSeen) (disk : Seen) (tells : IsTrue rack.tells) where
  pub taken : (names : List (List ℕ)) (places : List (Place Seen)) (group new : GroupView) (volumes : List VolumeState) (groups : List ShadowGroup) → IsFree group → TakesState group rack disk new
      → HoldsBy rack.steady names places group volumes groups → IsStateDisk rack.steady disk × (rack.steady ≡ true → disk.armed ≡ false)
  taken names places NoGroup new volumes groups free takes by =
      let made = takes.0 in
      let image : disk.image ≡ blank 64 = ap (λ (d : Seen). d.image) made ∙ cond-true rack.tells (blank 64) [] tells in
      let size : disk.size ≡ 64 = ap (λ (d : Seen). d.size) made in (
        record {
          told = ap (λ (l : Image). length l) image ∙ length-replicate 64 zero_block ∙ sym size;
          room = omega (arith, size);
          same = ap (λ (d : Seen). d.steady) made;
        },
        λ _. ap (λ (d : Seen). d.armed) made,
      )
  taken names places (FreeDisk one) new volumes groups free takes by =
      subst (λ (d : Seen). IsStateDisk rack.steady d × (rack.steady ≡ true → d.armed ≡ false)) (sym takes.0) by.1.1
  taken names places (InMemory set held) new volumes groups free takes by = absurd free
  taken names places (OnDisks set parts) new volumes groups free takes by = absurd free

-- it has failed as often as the group's disk before, where there was one
taken_faults : (rack : RackSeen) (disk : Seen) (group new : GroupView) → IsFree group → TakesState group rack disk new → option_map_or (λ (d : Seen). d.faults) (slice_get (group_disks group) 0) 0 ≤ disk.faults
taken_faults rack disk NoGroup new free takes = omega arith
taken_faults rack disk (FreeDisk one) new free takes = omega (arith, ap (λ (d : Seen). d.faults) takes.0)
taken_faults rack disk (InMemory set held) new free takes = absurd free
taken_faults rack disk (OnDisks set parts) new free takes = absurd free

rose_before : (a b c : ℕ) → a ≤ b → Rose b c → Rose a c
rose_before a b c less rose = omega arith

-- The causes of a fault.
module _ (store : StoreView) (rack : RackSeen) (disk : Seen) (left : GroupView) (free : IsFree store.group) (takes : TakesState store.group rack disk left) where
  pub start_cause : (places : List (Place Seen)) (new : Seen) → FailsOpening disk new → DiskRose store (record store { places = places; group = FreeDisk new })
  start_cause places new fails = (InGroup 0, refl, rose_before (faults_of store (InGroup 0)) disk.faults new.faults (taken_faults rack disk store.group left free takes) fails.rose)

-- why a set does not wait in a new group: the bitmap's disk failed
only_fault : (held : IiDisks) (shadow bitmap shadow_new bitmap_new : Seen) (why : Refusal) → EnableRefused held Dep 0 shadow bitmap why shadow_new bitmap_new → why ≢ NoMemory → limit_at held Dep ≡ None
    → blocks_at held 0 ≤ shadow.size → bitmap_blocks (blocks_at held 0) ≤ bitmap.size → (shadow_new ≡ shadow) × FailsFormat bitmap (blocks_at held 0) bitmap_new
only_fault held shadow bitmap shadow_new bitmap_new (Size need have) refused memory limit room bitmap_room = absurd (small refused.0)
  where
    small : IsSmall (Some shadow) bitmap (blocks_at held 0) need have → ⊥
    small (inl s) = omega (arith, s.needs, s.has, s.less, room, ap (λ (d : Seen). d.size) (same_Some shadow s.disk s.there))
    small (inr b) = omega (arith, b.needs, b.has, b.less, bitmap_room)
only_fault held shadow bitmap shadow_new bitmap_new (Limit n) refused memory limit room bitmap_room = let e : None ≡ Some n = sym limit ∙ refused.1.0 in absurd (cc)
only_fault held shadow bitmap shadow_new bitmap_new NoMemory refused memory limit room bitmap_room = absurd (memory refl)
only_fault held shadow bitmap shadow_new bitmap_new Fault refused memory limit room bitmap_room = refused.1.1
only_fault held shadow bitmap shadow_new bitmap_new why refused memory limit room bitmap_room = absurd refused

-- a new group is inside the limits
within_limits : (disk master : Seen) (held mid : IiDisks) → Opens disk held → Adds held master mid → limit_at mid Dep ≡ None
within_limits disk master held mid opens adds =
    let sets : mid.sets ≡ [] = ap (λ (g : IiDisks). g.sets) adds.is ∙ ap (λ (g : IiDisks). g.sets) opens.is in
    let block : mid.block ≡ empty_block = ap (λ (g : IiDisks). g.block) adds.is ∙ ap (λ (g : IiDisks). g.block) opens.is in
    (λ i. if not (length (sets i) == 0) then Some 1 else if list_all (has_flag live) (block i).slots then Some slot_count else None)

-- Three disks were lent to a new group.
module _ (disk : Seen) (held : IiDisks) (opens : Opens disk held) (places : List (Place Seen)) (chosen : Chosen) (name : List ℕ) (places_new : List (Place Seen)) (new : GroupView) where
  -- the set does not wait there: the bitmap's disk failed
  record IsBack (lends : LendsTo places chosen name held false places_new new) : Type 0 where
    bitmap_new : Seen
    fails : FailsFormat lends.three.bitmap_disk (blocks_at lends.held_mid 0) bitmap_new
    places_are : places_new ≡ places_back (places_lent places chosen) (set_of name chosen lends.three.shadow_spent) lends.three.master_disk lends.three.shadow_disk bitmap_new
    group_is : new ≡ FreeDisk held.state

  is_back : (lends : LendsTo places chosen name held false places_new new)
      → FillsNone (places_lent places chosen) (set_of name chosen lends.three.shadow_spent) lends.held_mid lends.three.shadow_disk lends.three.bitmap_disk false places_new new → IsBack lends
  is_back lends fills =
      let none = ap (λ (g : IiDisks). g.volumes) opens.is in
      let blocks = added_blocks held lends.held_mid lends.three.master_disk none lends.adds in
      let bitmap_room : bitmap_blocks (blocks_at lends.held_mid 0) ≤ lends.three.bitmap_disk.size = subst (λ n. bitmap_blocks n ≤ lends.three.bitmap_disk.size) (sym blocks) lends.three.bitmap_room in
      let failed = only_fault lends.held_mid lends.three.shadow_disk lends.three.bitmap_disk fills.shadow_new fills.bitmap_new fills.why fills.refused fills.memory
      (within_limits disk lends.three.master_disk held lends.held_mid opens lends.adds) (omega (arith, blocks, lends.three.shadow_room)) bitmap_room in
      record {
        bitmap_new = fills.bitmap_new;
        fails = failed.1;
        places_are = fills.back lends.three.master_disk (one_added held lends.held_mid lends.three.master_disk none lends.adds)
            ∙ ap (λ (d : Seen). places_back (places_lent places chosen) (set_of name chosen lends.three.shadow_spent) lends.three.master_disk d fills.bitmap_new) failed.0;
        group_is = fills.is ∙ ap (λ (g : IiDisks). FreeDisk g.state) lends.adds.is;
      }

-- A fault then has its cause.
module _ (store : StoreView) (rack : RackSeen) (disk : Seen) (left : GroupView) (free : IsFree store.group) (takes : TakesState store.group rack disk left) (held : IiDisks) (opens : Opens disk held) (chosen : Chosen) (name : List ℕ)
    (places_new : List (Place Seen)) (new : GroupView) where
  pub lend_cause : LendsTo store.places chosen name held false places_new new → DiskRose store (record store { places = places_new; group = new })
  lend_cause lends = by lends.fills
    where
      three : HasThree store.places chosen
      three = lends.three

      by : Fills (places_lent store.places chosen) (set_of name chosen lends.three.shadow_spent) lends.held_mid lends.three.shadow_disk lends.three.bitmap_disk false places_new new
          → DiskRose store (record store { places = places_new; group = new })
      by (inl fills) =
          let commits = fills.commits in
          let failed = writes disk held lends.held_mid fills.held_mid lends.three.master_disk lends.three.shadow_disk lends.three.bitmap_disk fills.slot opens lends.adds fills.enables (Err commits.why) commits.held_new commits.confirms in
          let later = faults_later disk held lends.held_mid fills.held_mid lends.three.master_disk lends.three.shadow_disk lends.three.bitmap_disk fills.slot opens lends.adds fills.enables (Err commits.why) commits.held_new commits.confirms in
          let before = taken_faults rack disk store.group left free takes in
          let less : faults_of store (InGroup 0) ≤ fills.held_mid.state.faults = omega (arith, later, before) in
          subst (λ (g : GroupView). DiskRose store (record store { places = places_new; group = g })) (sym commits.is)
          (InGroup 0, refl, rose_before (faults_of store (InGroup 0)) fills.held_mid.state.faults commits.held_new.state.faults less failed.cause.failed)
      by (inr fills) =
          let back = is_back disk held opens store.places chosen name places_new new lends fills in
          let bitmap = lends.three.bitmap_disk in
          let there = place_of lends.three.bitmap_spent bitmap in
          let old : disk_here (slice_get store.places chosen.bitmap) ≡ Some bitmap = ap disk_here lends.three.bitmap_here ∙ disk_of_place lends.three.bitmap_spent bitmap in
          let now : disk_here (slice_get places_new chosen.bitmap) ≡ Some back.bitmap_new =
          ap (λ (l : List (Place Seen)). disk_here (slice_get l chosen.bitmap)) (back.places_are ∙ given_back store.places chosen lends.three name back.bitmap_new)
          ∙ ap disk_here (slice_get-set store.places chosen.bitmap (Spent back.bitmap_new) (slice_get_within store.places chosen.bitmap there lends.three.bitmap_here)) in
          let faults : Option Seen → ℕ = λ o. option_map_or (λ d. d.faults) o 0 in
          (AtPlace chosen.bitmap, ap is_some old, subst (λ n. Rose n (faults (disk_here (slice_get places_new chosen.bitmap)))) (sym (ap faults old)) (subst (λ n. Rose bitmap.faults n) (sym (ap faults now)) back.fails.rose))

-- The state then.
module _ (steady : Bool) (store : StoreView) (state : State) (master shadow bitmap : List ℕ) (chosen : Chosen) (is : IsChosen store master shadow bitmap chosen) (holds : Holds steady store state)
    (passes : refusal state (Ii P (Enable true master shadow bitmap)) ≡ None) (disk : Seen) (state_disk : IsStateDisk steady disk) (unarmed : steady ≡ true → disk.armed ≡ false) where
  -- no group was made
  pub start_stops : (left : Seen) → FailsOpening disk left → Falls steady state (Enable true master shadow bitmap) (record store { group = FreeDisk left })
  start_stops left fails =
      start_falls steady store state master shadow bitmap chosen is holds passes left (by (cases_Bool steady))
      (record { told = fails.disk.told state_disk.told; room = omega (arith, fails.disk.size, state_disk.room); same = fails.disk.steady ∙ state_disk.same })
    where
      by : (steady ≡ true) ⊎ (steady ≡ false) → steady ≡ false
      by (inl steadily) = absurd (false≢true (sym (unarmed steadily) ∙ (fails.used (state_disk.same ∙ steadily)).was_armed))
      by (inr unsteady) = unsteady

  module _ (held : IiDisks) (opens : Opens disk held) (places_new : List (Place Seen)) (new : GroupView) where
    pub lend_stops : LendsTo store.places chosen shadow held false places_new new → Falls steady state (Enable true master shadow bitmap) (record store { places = places_new; group = new })
    lend_stops lends = by lends.fills
      where
        chosen_is : IsChosen store master shadow bitmap chosen
        chosen_is = record is { three = lends.three }

        by : Fills (places_lent store.places chosen) (set_of shadow chosen lends.three.shadow_spent) lends.held_mid lends.three.shadow_disk lends.three.bitmap_disk false places_new new
            → Falls steady state (Enable true master shadow bitmap) (record store { places = places_new; group = new })
        by (inl fills) =
            let commits = fills.commits in
            let falls = commit_falls steady store state master shadow bitmap chosen chosen_is holds passes disk held lends.held_mid fills.held_mid fills.slot opens lends.adds fills.enables state_disk unarmed
            (Err commits.why) commits.held_new commits.confirms commits.why refl commits.same in
            subst (λ (g : GroupView). Falls steady state (Enable true master shadow bitmap) (record store { places = places_new; group = g })) (sym commits.is)
            (
            subst (λ (l : List (Place Seen)). Falls steady state (Enable true master shadow bitmap) (record store { places = l; group = OnDisks (record (set_of shadow chosen lends.three.shadow_spent) { slot = fills.slot }) (parts_of commits.held_new) }))
            (sym fills.places_same) falls
            )
        by (inr fills) =
            let back = is_back disk held opens store.places chosen shadow places_new new lends fills in
            let opened : IsStateDisk steady held.state = record {
              told = (opens.told state_disk.told).state;
              room = omega (arith, opens.disk.size, state_disk.room);
              same = opens.disk.steady ∙ state_disk.same;
            } in
            let falls = back_falls steady store state master shadow bitmap chosen chosen_is holds passes back.bitmap_new held.state shadow back.fails.disk opened (λ steadily. opens.armed ∙ unarmed steadily) back.fails.used in
            subst (λ (g : GroupView). Falls steady state (Enable true master shadow bitmap) (record store { places = places_new; group = g })) (sym back.group_is)
            (subst (λ (l : List (Place Seen)). Falls steady state (Enable true master shadow bitmap) (record store { places = l; group = FreeDisk held.state })) (sym back.places_are) falls)

    -- it was done
    pub lend_done : LendsTo store.places chosen shadow held true places_new new
        → Holds steady (record store { places = places_new; group = new }) (after_command state (Enable true master shadow bitmap)) × IsPhase true new
    lend_done lends = by lends.fills
      where
        chosen_is : IsChosen store master shadow bitmap chosen
        chosen_is = record is { three = lends.three }

        by : Fills (places_lent store.places chosen) (set_of shadow chosen lends.three.shadow_spent) lends.held_mid lends.three.shadow_disk lends.three.bitmap_disk true places_new new
            → Holds steady (record store { places = places_new; group = new }) (after_command state (Enable true master shadow bitmap)) × IsPhase true new
        by (inl fills) =
            let commits = fills.commits in
            let held_by = enabled steady store state master shadow bitmap chosen chosen_is holds passes disk held lends.held_mid fills.held_mid fills.slot opens lends.adds fills.enables state_disk unarmed
            (Ok commits.value) commits.held_new commits.confirms commits.value refl in (
              subst (λ (g : GroupView). Holds steady (record store { places = places_new; group = g }) (after_command state (Enable true master shadow bitmap))) (sym commits.is)
                  (
                  subst
                  (λ (l : List (Place Seen)). Holds steady (record store { places = l; group = InMemory (record (set_of shadow chosen lends.three.shadow_spent) { slot = fills.slot }) commits.held_new })
                  (after_command state (Enable true master shadow bitmap))) (sym fills.places_same) held_by
                  ),
              subst (λ (g : GroupView). IsPhase true g) (sym commits.is) refl,
            )
        by (inr fills) = absurd (false≢true (sym fills.not_done))

-- The world then.

-- a group that is taken apart lies on disks that have failed as often
pub rose_closed : (old store : StoreView) (group : GroupView) → SameApart group → DiskRose old (record store { group = group }) → DiskRose old (record store { group = closed group })
rose_closed old store NoGroup same rose = rose
rose_closed old store (FreeDisk disk) same rose = rose
rose_closed old store (InMemory set held) same (AtPlace place, there, rose) = (AtPlace place, there, rose)
rose_closed old store (InMemory set held) same (InGroup number, there, rose) = (
  InGroup number,
  there,
  subst (λ (l : List Seen). Rose (faults_of old (InGroup number)) (option_map_or (λ (d : Seen). d.faults) (slice_get l number) 0)) (sym same.disks) rose,
)
rose_closed old store (OnDisks set parts) same rose = rose

-- a command was stopped
command_explained : (group : GroupView) (held : HostState) (command : IiCommand) → held.stopped ≡ Some (Ii P command) → IsExplained group held
command_explained NoGroup held command stopped = tt
command_explained (FreeDisk disk) held command stopped = tt
command_explained (InMemory set group) held command stopped = tt
command_explained (OnDisks set parts) held command stopped = λ waits. ap is_command stopped

module _ {D : Type 0} (seen : D → Seen) (steady : Bool) (new : World D) (state : State) (command : IiCommand) (store : StoreView) (group : GroupView) where
  pub stop_steps : (answer : Answer) → answer ≡ Faulted P → SameApart group → new.up ≡ false → new.stopped ≡ Some stopped.Command → view_of seen new ≡ record store { group = closed group }
      → Falls steady state command (record store { group = group }) → (next : State) × Step steady state (Ii P command) answer next × Stands seen steady new next
  stop_steps answer told same down kept view falls = (
    falls.next,
    subst (λ (a : Answer). Step steady state (Ii P command) a falls.next) (sym told) falls.step,
    stands_down seen steady new falls.next (record store { group = group }) falls.left down falls.down view same
        (subst (λ (o : Option Stopped). Keeps o falls.next.p) (sym kept) (record { command = command; is = falls.stopped; none = falls.none }))
        (subst (λ (o : Option Event). StoppedIn falls.next (option_map_or (stages falls.next) o []) falls.left) (sym falls.stopped) falls.stopped_in)
        (subst (λ (o : Option Stopped). IsThere o falls.left) (sym kept) tt) falls.holds (command_explained (closed group) falls.next.p command falls.stopped),
  )

module _ {D : Type 0} (seen : D → Seen) (steady : Bool) (old new : World D) (state : State) (command : IiCommand) (store : StoreView) (stands : Stands seen steady old state) (up : old.up ≡ true) where
  pub done_steps : new.up ≡ old.up → new.stopped ≡ old.stopped → refusal state (Ii P command) ≡ None → view_of seen new ≡ store
      → Holds steady store (after_command state command) × IsPhase true store.group → (next : State) × Step steady state (Ii P command) Done next × Stands seen steady new next
  done_steps same_up same_stopped passes view held =
      let next = after_command state command in (
        next,
        record { right = (passes, refl); next = refl },
        stands_up seen steady new next (same_up ∙ up) (is_up command) (none_stopped command) (same_stopped ∙ up_kept seen steady old state stands up) (subst (λ (v : StoreView). Holds steady v next) (sym view) held.0)
            (subst (λ (v : StoreView). IsPhase true v.group) (sym view) held.1),
      )
    where
      is_up : (c : IiCommand) → (after_command state c).p.up ≡ true
      is_up (Enable dependent master shadow bitmap) = sym stands.up ∙ up

      none_stopped : (c : IiCommand) → (after_command state c).p.stopped ≡ None
      none_stopped (Enable dependent master shadow bitmap) = up_none seen steady old state stands up

-- nothing refuses a command on a host that is up where none of its own causes holds
pub command_passes : (state : State) (dependent : Bool) (master shadow bitmap : List ℕ) → state.p.up ≡ true → first_cause (enable_causes state.p master shadow bitmap) ≡ None
    → refusal state (Ii P (Enable dependent master shadow bitmap)) ≡ None
command_passes state dependent master shadow bitmap up passes = ap (λ b. cond (not b) (Some (Down P)) (first_cause (enable_causes state.p master shadow bitmap))) up ∙ passes

-- the volumes under the same names
pub chosen_as : (store : StoreView) (chosen : Chosen) (m s b master shadow bitmap : List ℕ) → m ≡ master → s ≡ shadow → b ≡ bitmap → IsChosen store m s b chosen → IsChosen store master shadow bitmap chosen
chosen_as store chosen m s b master shadow bitmap at_m at_s at_b is =
    subst (λ n. IsChosen store n shadow bitmap chosen) at_m (subst (λ n. IsChosen store m n bitmap chosen) at_s (subst (λ n. IsChosen store m s n chosen) at_b is))

-- nothing refuses the command, and the state disk is there
pub record IsReady (steady : Bool) (store : StoreView) (state : State) (master shadow bitmap : List ℕ) (disk : Seen) : Type 0 where
  pub holds : Holds steady store state
  pub passes : refusal state (Ii P (Enable true master shadow bitmap)) ≡ None
  pub state_disk : IsStateDisk steady disk
  pub unarmed : steady ≡ true → disk.armed ≡ false

pub ready : {D : Type 0} (seen : D → Seen) (rack : RackSeen) (old : World D) (state : State) (m s b master shadow bitmap : List ℕ) (disk : Seen) (left : GroupView) → IsTrue rack.tells → Stands seen rack.steady old state → old.up ≡ true
    → m ≡ master → s ≡ shadow → b ≡ bitmap
    → ((steady : Bool) (t : State) → Holds steady (view_of seen old) t → IsPhase true (view_of seen old).group → first_cause (enable_causes t.p m s b) ≡ None)
    → IsFree (view_of seen old).group → TakesState (view_of seen old).group rack disk left → IsReady rack.steady (view_of seen old) state master shadow bitmap disk
ready seen rack old state m s b master shadow bitmap disk left tells stands up at_m at_s at_b passes free takes =
    let holds = up_holds seen rack.steady old state stands up in
    let none = passes rack.steady state holds (up_phase seen rack.steady old state stands up) in
    let store = view_of seen old in
    let got = taken rack disk tells store.names store.places store.group left state.p.volumes state.p.groups free takes holds.by in
    record {
      holds = holds;
      passes = command_passes state true master shadow bitmap (sym stands.up ∙ up) (sym (λ i. first_cause (enable_causes state.p (at_m i) (at_s i) (at_b i))) ∙ none);
      state_disk = got.0;
      unarmed = got.1;
    }

-- where no disk is free none was made, and the command asks for one
pub asks : {D : Type 0} (seen : D → Seen) (steady : Bool) (old : World D) (state : State) (m s b master shadow bitmap : List ℕ) → Stands seen steady old state → old.up ≡ true → m ≡ master → s ≡ shadow → b ≡ bitmap
    → ((steady : Bool) (t : State) → Holds steady (view_of seen old) t → IsPhase true (view_of seen old).group → first_cause (enable_causes t.p m s b) ≡ None)
    → IsFree (view_of seen old).group → HasNoFree (view_of seen old).group → AsksForDisk state (Ii P (Enable true master shadow bitmap))
asks seen steady old state m s b master shadow bitmap stands up at_m at_s at_b passes free needed =
    let holds = up_holds seen steady old state stands up in
    let none = passes steady state holds (up_phase seen steady old state stands up) in
    let store = view_of seen old in (
      command_passes state true master shadow bitmap (sym stands.up ∙ up) (sym (λ i. first_cause (enable_causes state.p (at_m i) (at_s i) (at_b i))) ∙ none),
      no_disk store.group state.p free needed holds.same_disks (no_groups steady store.names store.places store.group state.p.volumes state.p.groups free holds.by),
    )

-- what is seen of a shelf, with that group
abbrev pub store_with : {D : Type 0} → (D → Seen) → Shelf D → GroupView → StoreView
store_with seen shelf group = record { names = names_of shelf; places = places_of seen shelf; blocks = shelf.blocks; group = group }

-- the same of equal places, names and answers
pub lends_as : (places others : List (Place Seen)) (chosen : Chosen) (name other : List ℕ) (held : IiDisks) (done answer : Bool) (places_new : List (Place Seen)) (new : GroupView) → places ≡ others → name ≡ other → done ≡ answer
    → LendsTo places chosen name held done places_new new → LendsTo others chosen other held answer places_new new
lends_as places others chosen name other held done answer places_new new same_places same_name same_answer lends =
    subst (λ l. LendsTo l chosen other held answer places_new new) same_places
    (subst (λ n. LendsTo places chosen n held answer places_new new) same_name (subst (λ b. LendsTo places chosen name held b places_new new) same_answer lends))
