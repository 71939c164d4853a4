-- Two compact sets that share an overflow volume, and one that goes offline while it copies, worked over the definitions of a group.
use Rattle.std.proofs.Common.{◌≡◌, ℕ, false, None, Some, [], ◌∷◌, replicate, refl}
use Rattle.avs_seg.specs.Staged.{run}
use Rattle.avs_model.specs.ShadowSets.{Online, Offline}
use Rattle.avs_model.specs.GroupStates.{GroupState}
use Rattle.avs_model.specs.Room.{used_in}
use Rattle.avs_model.specs.GroupStages.{Commit, Disabled, Copied, in_group, volume_write_stages, update_stages}
use Rattle.avs_model.specs.HostFacts.{back_in}
use Rattle.avs_model.specs.declared.product.Way.TheVariants.{ToShadow, ToMaster}
use Rattle.avs_worked.proofs.OutOfRoom.{compact, written, standing_at, copied_next}

-- ---- two sets with one slot of their own each, and an overflow volume of two slots

abbrev pub two_sets : GroupState
two_sets = record {
  volumes = Some [] ∷ Some [] ∷ [];
  overs = Some 2 ∷ [];
  sets = compact 0 0 256 1 (Some 0) ∷ compact 1 1 256 1 (Some 0) ∷ [];
  note = [];
  sequence = 0;
}

abbrev pub first_needs : GroupState
first_needs = written (written (written two_sets 0 0) 0 64) 0 128

pub both_used : used_in first_needs 0 ≡ 2
both_used = refl

abbrev pub second_needs : GroupState
second_needs = written (written first_needs 1 0) 1 64

pub first_stays : standing_at second_needs 0 ≡ Online
first_stays = refl

pub second_gone : standing_at second_needs 1 ≡ Offline 2 1
second_gone = refl

-- where the first set ends its slots are free, and the second keeps its numbers
abbrev pub first_ended : GroupState
first_ended = run in_group second_needs (Commit ((0, Disabled) ∷ []) None ∷ [])

pub none_used_again : used_in first_ended 0 ≡ 0
none_used_again = refl

pub keeps_numbers : standing_at first_ended 1 ≡ Offline 2 1
keeps_numbers = refl

pub second_online : standing_at (run in_group first_ended (update_stages first_ended ToShadow false (1 ∷ []) None)) 1 ≡ Online
second_online = refl

-- ---- a set with one slot, whose volume is taken back from it

abbrev pub small_set : GroupState
small_set = record { volumes = Some [] ∷ []; overs = []; sets = compact 0 0 128 1 None ∷ []; note = []; sequence = 0 }

abbrev pub one_written : GroupState
one_written = written small_set 0 0

abbrev pub taken_back : GroupState
taken_back = run in_group one_written (update_stages one_written ToMaster false (0 ∷ []) None)

-- a write sets it offline, and the chunk that stands on it alone stays there until it is copied
abbrev pub small_gone : GroupState
small_gone = written taken_back 0 64

pub small_offline : standing_at small_gone 0 ≡ Offline 2 1
small_offline = refl

pub small_copying : back_in small_gone 0 ≡ 1
small_copying = refl

pub small_next : copied_next small_gone 0 ≡ Some 0
small_next = refl

pub small_copied : back_in (run in_group small_gone (Copied 0 0 ∷ [])) 0 ≡ 0
small_copied = refl

-- ---- two sets of one volume, with one and two slots of their own, and an overflow volume of one slot

abbrev pub of_one_volume : ℕ → GroupState
of_one_volume own = record {
  volumes = Some [] ∷ [];
  overs = Some 1 ∷ [];
  sets = compact 0 0 256 1 (Some 0) ∷ compact 1 0 256 own (Some 0) ∷ [];
  note = [];
  sequence = 0;
}

-- a write to three chunks sets the first offline, and what it does not take is left to the second
abbrev pub three_chunks : GroupState
three_chunks = run in_group (of_one_volume 2) (volume_write_stages (of_one_volume 2) 0 63 (replicate 66 (1 ∷ [])))

pub first_lacks : standing_at three_chunks 0 ≡ Offline 3 2
first_lacks = refl

pub second_has : standing_at three_chunks 1 ≡ Online
second_has = refl

pub second_takes : used_in three_chunks 0 ≡ 1
second_takes = refl

-- of a write to two chunks the first takes what there is, and the second goes offline
abbrev pub two_chunks : GroupState
two_chunks = run in_group (of_one_volume 1) (volume_write_stages (of_one_volume 1) 0 63 (replicate 2 (1 ∷ [])))

pub first_has : standing_at two_chunks 0 ≡ Online
first_has = refl

pub second_lacks : standing_at two_chunks 1 ≡ Offline 2 1
second_lacks = refl
