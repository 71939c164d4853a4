-- Compact sets that need more slots than there are, worked over the definitions of a group.
use Rattle.std.proofs.Common.{◌≡◌, ℕ, true, false, None, Some, [], ◌∷◌, refl}
use Rattle.std.specs.Prelude.{Option}
use Rattle.avs_seg.specs.Image.{Image}
use Rattle.avs_seg.specs.Staged.{run}
use Rattle.avs_model.specs.ShadowSets.{chunks_among, Standing, Online, Offline, ShadowState, enabled_set, next_to_copy}
use Rattle.avs_model.specs.GroupStates.{GroupState, of_set}
use Rattle.avs_model.specs.Room.{used_in, has_room, need_with, room}
use Rattle.avs_model.specs.GroupStages.{in_group, volume_write_stages, update_stages}
use Rattle.avs_model.specs.declared.shadow.Kind.TheVariants.{Compact}
use Rattle.avs_model.specs.declared.product.Way.TheVariants.{ToShadow}

-- a block, and a compact set of a volume that has so many blocks, with so many slots of its own
abbrev pub block : Image
block = (1 ∷ []) ∷ []

abbrev pub compact : ℕ → ℕ → ℕ → ℕ → Option ℕ → ShadowState
compact slot master blocks own over = record (enabled_set slot Compact master (record { blocks = blocks; own = own }) [] []) { over = over }

-- the group behind a block that is written to a volume, and behind a shadow that is updated
abbrev pub written : GroupState → ℕ → ℕ → GroupState
written group volume at = run in_group group (volume_write_stages group volume at block)

abbrev pub standing_at : GroupState → ℕ → Standing
standing_at group slot = of_set group slot (λ set. set.standing) Online

abbrev pub copied_next : GroupState → ℕ → Option ℕ
copied_next group slot = of_set group slot next_to_copy None

-- ---- one compact set with two slots of its own, and an overflow volume of one slot

abbrev pub one_set : GroupState
one_set = record { volumes = Some [] ∷ []; overs = Some 1 ∷ []; sets = compact 0 0 256 2 (Some 0) ∷ []; note = []; sequence = 0 }

pub none_used : used_in one_set 0 ≡ 0
none_used = refl

abbrev pub three_written : GroupState
three_written = written (written (written one_set 0 0) 0 64) 0 128

pub one_used : used_in three_written 0 ≡ 1
one_used = refl

pub still_online : standing_at three_written 0 ≡ Online
still_online = refl

-- a write to the shadow would need a slot more than there is
pub lacks_one : of_set three_written 0 (λ set. has_room three_written (chunks_among (3 ∷ [])) set) true ≡ false
lacks_one = refl

pub would_need : of_set three_written 0 (λ set. need_with (chunks_among (3 ∷ [])) set) 0 ≡ 4
would_need = refl

pub has_three : of_set three_written 0 (λ set. room three_written set) 0 ≡ 3
has_three = refl

-- a write to the volume is done, and the set goes offline until it is updated
abbrev pub four_written : GroupState
four_written = written three_written 0 192

pub gone_offline : standing_at four_written 0 ≡ Offline 4 3
gone_offline = refl

pub online_again : standing_at (run in_group four_written (update_stages four_written ToShadow false (0 ∷ []) None)) 0 ≡ Online
online_again = refl
