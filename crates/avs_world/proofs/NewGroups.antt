-- A group with one set, from its making to the commit by which the set is enabled.
use Rattle.std.proofs.Common.{◌≡◌, ◌⊎◌, ℕ, ◌≤◌, Bool, true, false, cond, ◌==◌, Some, None, List, [], ◌∷◌, ◌++◌, length, map, refl, ◌∙◌, ap, inl, inr, arith}
use Rattle.std.specs.Prelude.{if◌then◌else◌, Result, slice_set}
use Rattle.std.specs.List.{list_any}
use Rattle.std.proofs.lemmas.Bool.{cases_Bool, cases_eq}
use Rattle.std.proofs.lemmas.List.{length-map}
use Rattle.avs_dev.specs.Seen.{Seen, IsTold, Writes}
use Rattle.avs_code.specs.GroupBlock.{group_block}
use Rattle.avs_code.specs.declared.group_blocks.GroupBlock.{GroupBlock}
use Rattle.avs_model.specs.Shadows.{GroupState, bare_group, after_enabling}
use Rattle.avs_model.specs.declared.shadow.Kind.TheVariants.{Dep}
use Rattle.avs_model.specs.declared.answer.Refusal.{Refusal}
use Rattle.avs_ii.specs.SetDisks.{SetDisks}
use Rattle.avs_ii.specs.Held.{HeldSet, IiDisks, is_live, enabled_in}
use Rattle.avs_ii.specs.Meaning.{meaning, kept_on, shadow_by}
use Rattle.avs_ii.specs.Parts.{parts_of, set_parts}
use Rattle.avs_ii.specs.Sound.{IsSound, IsFresh}
use Rattle.avs_ii.specs.Making.{AreTold, AreWhole, Opens, empty_block}
use Rattle.avs_ii.specs.Calls.{Adds, Enables, Confirms, block_with, live_slot}
use Rattle.avs_world.specs.Views.{FourDisks, one_set}
use Rattle.avs_world.specs.Holds.{IsStateDisk}
use Rattle.avs_world.proofs.Lending.{one_added}

-- the state of a new group with one set
abbrev pub new_state : Seen → GroupState
new_state master = after_enabling (bare_group (master.image ∷ [])) 0 Dep 0

-- a set that waits in a new group
module _ (disk : Seen) (held mid next : IiDisks) (master shadow bitmap : Seen) (slot : ℕ) (opens : Opens disk held) (adds : Adds held master mid) (enables : Enables mid Dep 0 shadow bitmap slot next) where
  abbrev pub one : HeldSet
  one = record { slot = slot; master = 0; chunks = enables.chunks }

  mid_sets : mid.sets ≡ []
  mid_sets = ap (λ (g : IiDisks). g.sets) adds.is ∙ ap (λ (g : IiDisks). g.sets) opens.is

  mid_block : mid.block ≡ empty_block
  mid_block = ap (λ (g : IiDisks). g.block) adds.is ∙ ap (λ (g : IiDisks). g.block) opens.is

  block_is : next.block ≡ empty_block
  block_is = ap (λ (g : IiDisks). g.block) enables.is ∙ mid_block

  state_is : next.state ≡ held.state
  state_is = ap (λ (g : IiDisks). g.state) enables.is ∙ ap (λ (g : IiDisks). g.state) adds.is

  volumes_are : next.volumes ≡ master ∷ []
  volumes_are = ap (λ (g : IiDisks). g.volumes) enables.is ∙ one_added held mid master (ap (λ (g : IiDisks). g.volumes) opens.is) adds

  sets_are : next.sets ≡ one ∷ []
  sets_are = ap (λ (g : IiDisks). g.sets) enables.is ∙ ap (λ (l : List HeldSet). l ++ one ∷ []) mid_sets

  -- it has the first slot
  pub first_slot : slot ≡ 0
  first_slot = elim (cases_eq slot 0) [
    | inl zero ↦ zero
    | inr other ↦ absurd (
        enables.least 0 (omega arith)
        (record {
          there = omega arith;
          not_live = ap (λ (b : GroupBlock). is_live b.slots 0) mid_block;
          not_held = ap (λ (l : List HeldSet). list_any (λ s. s.slot == 0) l) mid_sets;
        }))
  ]

  module _ (told : IsTold disk) (told_master : IsTold master) (told_shadow : IsTold shadow) (told_bitmap : IsTold bitmap) where
    sound_mid : IsSound mid
    sound_mid = adds.sound (opens.sound told) told_master

    pub sound : IsSound next
    sound = enables.sound sound_mid

    pub are_told : AreTold (parts_of next)
    are_told = enables.told (adds.told (opens.told told) told_master) told_shadow told_bitmap

    pub fresh : IsFresh one
    fresh = enables.fresh told_shadow told_bitmap

    meant : meaning next ≡ bare_group (master.image ∷ [])
    meant = enables.group sound_mid ∙ adds.group ∙ ap (λ (g : GroupState). record g { volumes = g.volumes ++ master.image ∷ [] }) (opens.group told)

  -- and it was tried to enable it
  module _ {T : Type 0} (result : Result T Refusal) (new : IiDisks) (confirms : Confirms next slot result new) where
    new_volumes : new.volumes ≡ master ∷ []
    new_volumes = ap (λ (g : IiDisks). g.volumes) confirms.rest ∙ volumes_are

    new_sets : new.sets ≡ one ∷ []
    new_sets = ap (λ (g : IiDisks). g.sets) confirms.rest ∙ sets_are

    abbrev pub new_disks : FourDisks
    new_disks = record { state = new.state; master = master; shadow = shadow; bitmap = enables.chunks.areas.disk }

    pub new_parts : parts_of new ≡ one_set slot new_disks
    new_parts =
        let overs : List Seen = [] in
        let same : parts_of new ≡ record { state = new.state; volumes = master ∷ []; sets = set_parts one ∷ []; overs = overs } =
        (λ i. record { state = new.state; volumes = new_volumes i; sets = map set_parts (new_sets i); overs = overs }) in
        let kept : set_parts one ≡ record { slot = slot; kind = Dep; master = 0; shadow = Some shadow; bitmap = enables.chunks.areas.disk; over = None } =
        (λ i. record { slot = slot; kind = enables.makes.kind_is i; master = 0; shadow = enables.makes.shadow_same i; bitmap = enables.chunks.areas.disk; over = None }) in
        same ∙ ap (λ (s : SetDisks). record { state = new.state; volumes = master ∷ []; sets = s ∷ []; overs = overs }) kept

    pub writes : Writes next.state 1 (group_block (block_with next.block one)) result new.state
    writes = confirms.writes one enables.pending

    -- its state disk is that which it was made on
    pub new_size : new.state.size ≡ disk.size
    new_size = writes.size ∙ ap (λ (d : Seen). d.size) state_is ∙ opens.disk.size

    pub new_steady : new.state.steady ≡ disk.steady
    new_steady = writes.steady ∙ ap (λ (d : Seen). d.steady) state_is ∙ opens.disk.steady

    pub old_armed : next.state.armed ≡ disk.armed
    old_armed = ap (λ (d : Seen). d.armed) state_is ∙ opens.armed

    pub old_steady : next.state.steady ≡ disk.steady
    old_steady = ap (λ (d : Seen). d.steady) state_is ∙ opens.disk.steady

    pub faults_later : disk.faults ≤ next.state.faults
    faults_later = omega (arith, opens.disk.later, ap (λ (d : Seen). d.faults) state_is)

    -- the disk says that it is enabled where the group's state has it
    abbrev pub live : Bool
    live = is_live (kept_on new.state).slots slot

    count_sets : length (meaning new).sets ≡ (if live then 1 else 0)
    count_sets =
        let slots = (kept_on new.state).slots in
        length-map (enabled_in slots new.sets) (λ (s : HeldSet). shadow_by slots new.volumes s)
        ∙ ap (λ (l : List HeldSet). length (enabled_in slots l)) new_sets
        ∙ one_or_none (is_live slots slot)
      where
        one_or_none : (b : Bool) → length (cond b (one ∷ []) []) ≡ (if b then 1 else 0)
        one_or_none true = refl
        one_or_none false = refl

    module _ (told : IsTold disk) (told_master : IsTold master) (told_shadow : IsTold shadow) (told_bitmap : IsTold bitmap) where
      pub new_told : AreTold (parts_of new)
      new_told = confirms.told (are_told told told_master told_shadow told_bitmap)

      pub new_whole : AreWhole (parts_of new)
      new_whole =
          let again = confirms.whole one enables.pending (fresh told told_master told_shadow told_bitmap) in
          again.after (are_told told told_master told_shadow told_bitmap) (again.before (sound told told_master told_shadow told_bitmap))

      pub new_state_disk : (steady : Bool) → IsStateDisk steady disk → IsStateDisk steady new.state
      new_state_disk steady was = record { told = new_told.state; room = omega (arith, was.room, new_size); same = new_steady ∙ was.same }

      enabling : GroupState
      enabling = after_enabling (meaning next) slot enables.chunks.kind 0

      enabling_is : after_enabling (meaning next) slot enables.chunks.kind 0 ≡ new_state master
      enabling_is = (λ i. after_enabling (meant told told_master told_shadow told_bitmap i) (first_slot i) (enables.makes.kind_is i) 0)

      -- the state of the group, where the set is enabled on the disk
      pub new_meaning : live ≡ true → (meaning new ≡ meaning next) ⊎ (meaning new ≡ after_enabling (meaning next) slot enables.chunks.kind 0) → meaning new ≡ new_state master
      new_meaning is (inl same) =
          absurd (omega (arith, count_sets, ap {B = ℕ} (λ b. if b then 1 else 0) is, ap (λ (g : GroupState). length g.sets) (same ∙ meant told told_master told_shadow told_bitmap)))
      new_meaning is (inr all) = all ∙ enabling_is

      pub is_live_by : meaning new ≡ after_enabling (meaning next) slot enables.chunks.kind 0 → live ≡ true
      is_live_by all = elim (cases_Bool live) [
        | inl is ↦ is
        | inr not_live ↦ absurd (omega (arith, count_sets, ap {B = ℕ} (λ b. if b then 1 else 0) not_live, ap (λ (g : GroupState). length g.sets) (all ∙ enabling_is)))
      ]

    -- the block in memory says so
    pub new_in_memory : new.block ≡ block_with next.block one → is_live new.block.slots slot ≡ true
    new_in_memory is =
        let slots : new.block.slots ≡ slice_set empty_block.slots 0 (live_slot Dep) =
        ap (λ (b : GroupBlock). b.slots) is ∙ (λ i. slice_set (block_is i).slots (first_slot i) (live_slot (enables.makes.kind_is i))) in
        (λ i. is_live (slots i) (first_slot i))
