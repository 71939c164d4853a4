-- What stays of a group of one set, whose shape a call on its contents keeps.
use Rattle.std.proofs.Common.{◌≡◌, ℕ, zero, suc, Bool, true, false, ◌&&◌, List, [], ◌∷◌, length, map, None, Some, slice_index, refl, sym, ◌∙◌, ap, subst, arith}
use Rattle.std.specs.Prelude.{if◌then◌else◌, nat_lt, slice_set}
use Rattle.std.specs.List.{list_all, slice_get}
use Rattle.std.specs.Option.{option_map_or}
use Rattle.avs_dev.specs.Seen.{Seen, IsTold}
use Rattle.avs_code.specs.declared.group_blocks.GroupBlock.{GroupBlock}
use Rattle.avs_model.specs.Shadows.{GroupState, blocks_at}
use Rattle.avs_model.specs.State.{VolumeState, HostState, ShadowGroup}
use Rattle.avs_model.specs.declared.shadow.Kind.TheVariants.{Dep}
use Rattle.avs_ii.specs.Held.{IiDisks, disks_of, is_live}
use Rattle.avs_ii.specs.Meaning.{kept_on, meaning}
use Rattle.avs_ii.specs.Shape.{DiskShape, disk_shape, shape_of}
use Rattle.avs_ii.specs.Parts.{PartDisks, parts_of}
use Rattle.avs_ii.specs.Making.{AreTold}
use Rattle.avs_ii.specs.Calls.{armed_of}
use Rattle.avs_world.specs.declared.place.Place.{Place}
use Rattle.avs_world.specs.declared.group.ShadowSet.{ShadowSet}
use Rattle.avs_world.specs.Views.{FourDisks, one_set}
use Rattle.avs_world.specs.Holds.{Shown, kept, shown, expected, shown_with, group_with, is_enabled, AreGroups, IsStateDisk, HoldsSet, IsOpen, plain, plain_or_gone}
use Rattle.avs_world.proofs.Holding.{three_volumes, set_holds, open_shows}
use Rattle.avs_world.proofs.OneSet.{IsOneSet, one_held, blocks_meant}
use Rattle.avs_world.proofs.Tears.{Marks, hidden, four, four_list, parts_one, StaysOne, stays_one}

-- all four disks tell their blocks
pub record AreFourTold (disks : FourDisks) : Type 0 where
  pub state : IsTold disks.state
  pub master : IsTold disks.master
  pub shadow : IsTold disks.shadow
  pub bitmap : IsTold disks.bitmap

pub four_told : (parts : PartDisks) (slot : ℕ) (disks : FourDisks) → parts ≡ one_set slot disks → AreTold parts → AreFourTold disks
four_told parts slot disks is told =
    let t = subst (λ (p : PartDisks). AreTold p) is told in
    let set = t.sets 0 (record { slot = slot; kind = Dep; master = 0; shadow = Some disks.shadow; bitmap = disks.bitmap; over = None }) (omega arith) in
    record { state = t.state; master = t.volumes 0 disks.master (omega arith); shadow = set.shadow; bitmap = set.bitmap }

-- a disk of the same shape whose blocks are told shows the same, but for its tear
module _ (old new : Seen) (shape : disk_shape new ≡ disk_shape old) (old_told : IsTold old) (new_told : IsTold new) where
  same_size : new.size ≡ old.size
  same_size = ap (λ (s : DiskShape). s.size) shape

  same_told : length new.image ≡ length old.image
  same_told = new_told ∙ same_size ∙ sym old_told

  -- or so marked
  pub marks : (sure flag : Bool) → (sure ≡ true → new.armed ≡ flag) → Marks sure old new flag
  marks sure flag armed = record { told = same_told; size = same_size; steady = ap (λ (s : DiskShape). s.steady) shape; armed = armed }

  same_armed : new.armed ≡ old.armed → (new.steady && new.armed) ≡ (old.steady && old.armed)
  same_armed is = λ i. (ap (λ (s : DiskShape). s.steady) shape) i && is i

  pub hidden_same : (spent : Bool) → new.armed ≡ old.armed → hidden spent new ≡ hidden spent old
  hidden_same spent is = λ i. record { image = []; spent = spent; told = same_told i; size = same_size i; some = nat_lt 0 (same_size i); steady = (ap (λ (s : DiskShape). s.steady) shape) i; armed = same_armed is i }

-- counts by number
pub count_at : (f : Seen → ℕ) (disks : List Seen) (k : ℕ) → slice_index (map f disks) k ≡ option_map_or f (slice_get disks k) 0
count_at f [] k = refl
count_at f (d ∷ disks) zero = refl
count_at f (d ∷ disks) (suc k) = count_at f disks k

-- what a call on the contents of a group keeps of it
pub record KeepsGroup (old new : IiDisks) : Type 0 where
  pub state : new.state ≡ old.state
  pub block : new.block ≡ old.block
  pub shape : shape_of new ≡ shape_of old
  pub told : AreTold (parts_of old) → AreTold (parts_of new)

module _ (steady : Bool) (names : List (List ℕ)) (places : List (Place Seen)) (set : ShadowSet) (old new : IiDisks) (state : GroupState) (volumes : List VolumeState) (groups : List ShadowGroup)
    (opened : IsOpen set old) (holds : HoldsSet steady names places set (parts_of old) state volumes groups) (keeps : KeepsGroup old new) where
  abbrev pub old_one : IsOneSet set holds.disks old
  old_one = one_held set holds.disks old holds.is

  pub stays : StaysOne holds.disks set old_one.one.chunks.blocks new
  stays = stays_one set old holds.disks new old_one keeps.shape

  pub new_parts : parts_of new ≡ one_set set.slot stays.disks
  new_parts = parts_one set stays.disks new stays.one

  pub old_told : AreFourTold holds.disks
  old_told = four_told (parts_of old) set.slot holds.disks holds.is opened.told

  pub new_told : AreFourTold stays.disks
  new_told = four_told (parts_of new) set.slot stays.disks new_parts (keeps.told opened.told)

  pub still_live : is_live new.block.slots set.slot ≡ true
  still_live = ap (λ (b : GroupBlock). is_live b.slots set.slot) keeps.block ∙ opened.in_memory

  pub still_enabled : is_enabled set (parts_of new) ≡ true
  still_enabled = ap (λ (d : Seen). is_live (kept_on d).slots set.slot) keeps.state ∙ opened.on_disk

  -- the shadow has as many blocks
  pub blocks_same : blocks_at (meaning new).sets set.slot ≡ blocks_at (meaning old).sets set.slot
  blocks_same = blocks_meant set stays.disks new stays.one still_enabled ∙ stays.same_blocks ∙ sym (blocks_meant set holds.disks old old_one opened.on_disk)

  pub same_state : stays.disks.state ≡ holds.disks.state
  same_state = sym stays.one.state ∙ keeps.state ∙ old_one.state

  pub old_disks : disks_of old ≡ four holds.disks
  old_disks = four_list old set.slot holds.disks holds.is

  pub new_disks : disks_of new ≡ four stays.disks
  new_disks = four_list new set.slot stays.disks new_parts

  -- the set holds these volumes, and a group of that state
  pub set_with : (group : AreGroups steady names set state holds.disks.state true groups) (vs : List VolumeState) (left : GroupState) (gs : List ShadowGroup) → shown_with places set stays.disks true ≡ map (expected steady) vs → gs ≡ group_with names set left group.0 ∷ []
      → HoldsSet steady names places set (parts_of new) left vs gs
  set_with group vs left gs shows are =
      set_holds steady names places set (parts_of new) stays.disks true left vs gs new_parts holds.set_of (subst (λ (d : Seen). IsStateDisk steady d) (sym same_state) holds.state_disk) still_enabled shows
      (group.0, are, λ is. ap (λ (d : Seen). d.armed) same_state ∙ group.2 is)

  -- the same disks armed
  same_list : armed_of new ≡ armed_of old
      → stays.disks.state.armed ∷ stays.disks.master.armed ∷ stays.disks.shadow.armed ∷ stays.disks.bitmap.armed ∷ [] ≡ holds.disks.state.armed ∷ holds.disks.master.armed ∷ holds.disks.shadow.armed ∷ holds.disks.bitmap.armed ∷ []
  same_list same = ap (map (λ (d : Seen). d.armed)) (sym new_disks) ∙ same ∙ ap (map (λ (d : Seen). d.armed)) old_disks

  -- show the same
  pub shown_unarmed : armed_of new ≡ armed_of old → shown_with places set stays.disks true ≡ map (expected steady) volumes
  shown_unarmed same =
      let list = same_list same in
      let master : stays.disks.master.armed ≡ holds.disks.master.armed = cc in
      let shadow : stays.disks.shadow.armed ≡ holds.disks.shadow.armed = cc in
      let bitmap : stays.disks.bitmap.armed ≡ holds.disks.bitmap.armed = cc in
      let m = hidden_same holds.disks.master stays.disks.master stays.master old_told.master new_told.master false master in
      let s = hidden_same holds.disks.shadow stays.disks.shadow stays.shadow old_told.shadow new_told.shadow false shadow in
      let b = hidden_same holds.disks.bitmap stays.disks.bitmap stays.bitmap old_told.bitmap new_told.bitmap true bitmap in
      (λ i. slice_set (slice_set (slice_set (map shown places) set.bitmap (b i)) set.master (m i)) set.shadow (s i)) ∙ open_shows steady names places set old volumes groups opened holds

-- all disks of the group are as steady as the state says
pub four_steady : (steady : Bool) (names : List (List ℕ)) (host : HostState) (places : List (Place Seen)) (set : ShadowSet) (parts : PartDisks) (group : GroupState) → names ≡ map (λ (v : VolumeState). v.name) host.volumes
    → (holds : HoldsSet steady names places set parts group host.volumes host.groups) → steady ≡ true → list_all (λ (d : Seen). d.steady) (four holds.disks) ≡ true
four_steady steady names host places set parts group same holds is =
    let three = three_volumes steady names host places set holds.disks (is_enabled set parts) same holds.shows holds.set_of in
    let st : holds.disks.state.steady ≡ true = holds.state_disk.same ∙ is in
    let m : holds.disks.master.steady ≡ true = steady_of (is_enabled set parts) holds.disks.master (kept holds.disks.master) (plain holds.disks.master) refl refl ∙ ap (λ (s : Shown). s.steady) three.master.is ∙ is in
    let sh : holds.disks.shadow.steady ≡ true = steady_of (is_enabled set parts) holds.disks.shadow (kept holds.disks.shadow) (plain_or_gone set.spent holds.disks.shadow) refl (plain_steady set.spent holds.disks.shadow) ∙ ap (λ (s : Shown). s.steady) three.shadow.is ∙ is in
    let b : holds.disks.bitmap.steady ≡ true = ap (λ (s : Shown). s.steady) three.bitmap.is ∙ is in
    (λ i. st i && (m i && (sh i && (b i && true))))
  where
    steady_of : (live : Bool) (d : Seen) (x y : Shown) → d.steady ≡ x.steady → d.steady ≡ y.steady → d.steady ≡ (if live then x else y).steady
    steady_of true d x y ex ey = ex
    steady_of false d x y ex ey = ey

    plain_steady : (spent : Bool) (d : Seen) → d.steady ≡ (plain_or_gone spent d).steady
    plain_steady true d = refl
    plain_steady false d = refl
