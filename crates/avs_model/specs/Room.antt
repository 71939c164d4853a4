-- Compact sets: how many slots they need, how many they have, and which of them go offline.
use Rattle.std.specs.Prelude.{ℕ, ◌+◌, ◌-◌, ◌/◌, ◌&&◌, Bool, not, nat_le, ◌||◌, if◌then◌else◌, Option, None, Some, List, [], ◌∷◌, slice_index_or, filter}
use Rattle.std.specs.Option.{unwrap_or}
use Rattle.std.specs.List.{sum_by}
use Rattle.avs_model.specs.ShadowSets.{ChunkList, together, chunks_in, is_compact, is_online, ShadowState}
use Rattle.avs_model.specs.GroupStates.{GroupState, has_slot, has_master, uses, with_set}

-- the slots of an overflow volume of so many blocks: 64 blocks each, behind one block
abbrev pub over_slots : ℕ → ℕ
over_slots blocks = (blocks - 1) / 64

-- what a set needs: a slot for each chunk that was touched
abbrev pub need : ShadowState → ℕ
need set = chunks_in set.size.blocks set.lists.touched

-- what it needs beyond its own slots
abbrev pub beyond : ShadowState → ℕ
beyond set = need set - set.size.own

-- the slots of an overflow volume, and those that the sets attached there need beyond their own
abbrev pub slots_in : GroupState → ℕ → ℕ
slots_in group over = unwrap_or (slice_index_or group.overs over None) 0

abbrev pub used_in : GroupState → ℕ → ℕ
used_in group over = sum_by beyond (filter (λ set. uses over set) group.sets)

-- those that every other set attached there needs
abbrev pub used_by_others : GroupState → ℕ → ShadowState → ℕ
used_by_others group over set = sum_by beyond (filter (λ other. uses over other && not (has_slot set.slot other)) group.sets)

-- what an overflow volume leaves to a set
abbrev pub shared_room : GroupState → ShadowState → Option ℕ → ℕ
shared_room group set None = 0
shared_room group set (Some over) = slots_in group over - used_by_others group over set

-- the room of a set: its own slots, and those of its overflow volume that the others leave
abbrev pub room : GroupState → ShadowState → ℕ
room group set = set.size.own + shared_room group set set.over

-- the set when these chunks are touched too
abbrev pub touched_too : ChunkList → ShadowState → ShadowState
touched_too chunks set = record set { lists = record set.lists { touched = together chunks set.lists.touched } }

-- what it would need then, and whether there is room for it: a set that is not compact has room for each chunk
abbrev pub need_with : ChunkList → ShadowState → ℕ
need_with chunks set = need (touched_too chunks set)

abbrev pub has_room : GroupState → ChunkList → ShadowState → Bool
has_room group chunks set = not (is_compact set.kind) || nat_le (need_with chunks set) (room group set)

-- a set that goes offline, with the two numbers that it keeps
pub record Gone : Type 0 where
  pub slot : ℕ
  pub need : ℕ
  pub slots : ℕ

abbrev pub gone_with : GroupState → ChunkList → ShadowState → Gone
gone_with group chunks set = record { slot = set.slot; need = need_with chunks set; slots = room group set }

-- Of these sets, of which each would be touched in some chunks, those that go offline, one after another: the room of a later one is
-- what the earlier ones left.
abbrev pub gone_of : GroupState → (ShadowState → ChunkList) → List ShadowState → List Gone
gone_of group chunks [] = []
gone_of group chunks (set ∷ sets) =
    if has_room group (chunks set) set then gone_of (with_set group set.slot (touched_too (chunks set))) chunks sets
    else gone_with group (chunks set) set ∷ gone_of group chunks sets

-- the sets that can go offline: those that are compact and online
abbrev pub may_go : ShadowState → Bool
may_go set = is_compact set.kind && is_online set.standing

-- those that go offline when chunks of a master are written, in order of enabling
abbrev pub gone_by_write : GroupState → ℕ → ChunkList → List Gone
gone_by_write group volume chunks = gone_of group (λ set. chunks) (filter (λ set. may_go set && has_master volume set) group.sets)
