-- A group: its volumes, which are masters of its shadow sets, the sets, the overflow volumes that they use, and the note.
use Rattle.std.specs.Prelude.{ℕ, ◌+◌, ◌%◌, ◌^◌, ◌==◌, ◌&&◌, Bool, false, is_some, if◌then◌else◌, Option, None, Some, List, [], ◌∷◌, ◌++◌, map, filter, find, replicate, take, slice_set, slice_index_or}
use Rattle.std.specs.List.{list_any, count_by, range_with_len, enumerate_from}
use Rattle.std.specs.Option.{option_map, option_map_or, unwrap_or}
use Rattle.avs_seg.specs.Image.{Image}
use Rattle.avs_model.specs.ShadowSets.{ShadowState}

-- The images of the volumes, and the slots of the overflow volumes, each by its number: a number whose volume was taken out is a hole.
-- The sets in order of enabling; the note; and the number of the block in which they stand, one more with each block.
pub record GroupState : Type 0 where
  pub volumes : List (Option Image)
  pub overs : List (Option ℕ)
  pub sets : List ShadowState
  pub note : List ℕ
  pub sequence : ℕ

abbrev pub note_length : ℕ
note_length = 64

-- a group without volumes and sets, whose note is zeros
abbrev pub empty_group : GroupState
empty_group = record { volumes = []; overs = []; sets = []; note = replicate note_length 0; sequence = 0 }

-- one more, and 0 behind the greatest number
abbrev pub next_sequence : ℕ → ℕ
next_sequence sequence = (sequence + 1) % 2 ^ 64

-- the slots that a group has for sets
abbrev pub slot_count : ℕ
slot_count = 16

-- the image of a volume; a hole has none
abbrev pub volume_image : GroupState → ℕ → Image
volume_image group volume = unwrap_or (slice_index_or group.volumes volume None) []

-- the group with another image of a volume
abbrev pub with_volume : GroupState → ℕ → Image → GroupState
with_volume group volume image = record group { volumes = slice_set group.volumes volume (Some image) }

-- whether that slot is the set's
abbrev pub has_slot : ℕ → ShadowState → Bool
has_slot slot set = set.slot == slot

-- the set of a slot, and what is told of it, or else
abbrev pub set_at : GroupState → ℕ → Option ShadowState
set_at group slot = find (λ set. has_slot slot set) group.sets

abbrev pub of_set : {X : Type 0} → GroupState → ℕ → (ShadowState → X) → X → X
of_set group slot tell none = option_map_or tell (set_at group slot) none

-- the image of the shadow of that slot
abbrev pub shadow_image : GroupState → ℕ → Image
shadow_image group slot = of_set group slot (λ set. set.contents.image) []

-- the group, in which the set of one slot is changed
abbrev pub with_set : GroupState → ℕ → (ShadowState → ShadowState) → GroupState
with_set group slot change = record group { sets = map (λ set. if has_slot slot set then change set else set) group.sets }

abbrev pub with_shadow : GroupState → ℕ → Image → GroupState
with_shadow group slot image = with_set group slot (λ set. record set { contents = record set.contents { image = image } })

-- whether the set is one of that master
abbrev pub has_master : ℕ → ShadowState → Bool
has_master volume set = set.master == volume

-- the slots of the sets of a master, rising; and the least slot that no set has
abbrev pub slots_of : GroupState → ℕ → List ℕ
slots_of group volume = filter (λ slot. list_any (λ set. has_slot slot set && has_master volume set) group.sets) (range_with_len 0 slot_count)

abbrev pub is_free : GroupState → ℕ → Bool
is_free group slot = count_by (λ set. has_slot slot set) group.sets == 0

abbrev pub free_slot : GroupState → ℕ
free_slot group = unwrap_or (find (is_free group) (range_with_len 0 slot_count)) slot_count

-- whether the set uses the overflow volume of that number, and whether any set does
abbrev pub is_over : Option ℕ → ℕ → Bool
is_over used over = option_map_or (λ one. one == over) used false

abbrev pub uses : ℕ → ShadowState → Bool
uses over set = is_over set.over over

-- the overflow volumes, without those that no set uses
abbrev pub used_over : List ShadowState → ℕ × Option ℕ → Option ℕ
used_over sets at = if list_any (λ set. uses at.0 set) sets then at.1 else None

abbrev pub without_unused : GroupState → GroupState
without_unused group = record group { overs = map (λ at. used_over group.sets at) (enumerate_from 0 group.overs) }

-- the group with one volume more, and with a hole where one was
abbrev pub with_new_volume : GroupState → Image → GroupState
with_new_volume group image = record group { volumes = group.volumes ++ Some image ∷ [] }

abbrev pub without_volume : GroupState → ℕ → GroupState
without_volume group volume = record group { volumes = slice_set group.volumes volume None }

-- A group that is opened again has no holes: its volumes are numbered anew, in their order.
abbrev pub number_without_holes : {X : Type 0} → List (Option X) → ℕ → ℕ
number_without_holes things number = count_by is_some (take number things)

abbrev pub without_holes : {X : Type 0} → List (Option X) → List (Option X)
without_holes things = filter is_some things

abbrev pub numbered_anew : GroupState → ShadowState → ShadowState
numbered_anew group set = record set {
  master = number_without_holes group.volumes set.master;
  over = option_map (λ over. number_without_holes group.overs over) set.over;
}

abbrev pub opened_again : GroupState → GroupState
opened_again group = record group {
  volumes = without_holes group.volumes;
  overs = without_holes group.overs;
  sets = map (λ set. numbered_anew group set) group.sets;
}
