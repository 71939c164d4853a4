-- Stages of a group: what a write, a copy and a command do to it, part by part.
use Rattle.std.specs.Prelude.{◌≡◌, ℕ, ◌==◌, ◌&&◌, Bool, true, false, not, nat_lt, if◌then◌else◌, Option, None, Some, List, [], ◌∷◌, ◌++◌, length, map, filter, find, slice_set}
use Rattle.std.specs.List.{list_any, flat_map, enumerate_from, filter_map}
use Rattle.std.specs.Option.{option_map, option_map_or, unwrap_or}
use Rattle.avs_seg.specs.Image.{Image, put, IsMix}
use Rattle.avs_seg.specs.Segment.{touch}
use Rattle.avs_seg.specs.Staged.{Stages}
use Rattle.avs_model.specs.ShadowSets.{ChunkList, no_chunks, chunks_among, Contents, SetSize, ShadowState, is_offline, enabled_set, chunk_written, chunk_copied, turned_to_shadow, turned_to_master, overwritten, gone_offline, exported_set, joined_set, stopped_set}
use Rattle.avs_model.specs.GroupStates.{GroupState, volume_image, with_volume, has_slot, has_master, set_at, shadow_image, with_set, with_shadow, slots_of, without_unused, with_new_volume, without_volume, next_sequence}
use Rattle.avs_model.specs.Room.{Gone, gone_of, gone_by_write, may_go}
use Rattle.avs_model.specs.declared.shadow.Kind.{Kind}
use Rattle.avs_model.specs.declared.product.Way.{Way}
use Rattle.avs_model.specs.declared.product.Way.TheVariants.{ToShadow as way_to_shadow, ToMaster as way_to_master}

-- what a command changes in the set of a slot
pub data Change : Type 0 where
  -- a new set: its kind, its master, its size, and the blocks of its volume behind the shadow
  Enabled : Kind → ℕ → SetSize → Image → Change
  -- the set is there no more
  Disabled : Change
  -- the shadow becomes its master; by a full copy or not
  ToShadow : Bool → Change
  -- the master becomes the shadow
  ToMaster : Change
  -- copying stops
  Stops : Change
  -- the set goes offline, with what it would need and what there is
  GoesOffline : ℕ → ℕ → Change
  -- the shadow volume is given away with a stamp
  Exported : ℕ → Change
  -- it comes back with these contents, and with chunks that were written meanwhile
  Joined : ChunkList → Contents → Change

pub data GroupStage : Type 0 where
  -- a chunk of the set of that slot is written, and is copied
  Mark : ℕ → ℕ → GroupStage
  Copied : ℕ → ℕ → GroupStage
  -- blocks are written from a place on to a volume, and to the shadow of the set of that slot
  PutVolume : ℕ → ℕ → Image → GroupStage
  PutShadow : ℕ → ℕ → Image → GroupStage
  -- the sets of these slots change, all at once, and with them the note where one is given
  Commit : List (ℕ × Change) → Option (List ℕ) → GroupStage
  -- the note changes
  PutNote : List ℕ → GroupStage
  -- a volume of that image joins the group; the volume of that number leaves it
  TakesVolume : Image → GroupStage
  LeavesVolume : ℕ → GroupStage
  -- the set of that slot uses the overflow volume of that number, which has so many slots; it uses none
  Attached : ℕ → ℕ → ℕ → GroupStage
  Detached : ℕ → GroupStage

-- Of a command everything is computed at once, from the group before it, in which the sets that go offline have gone first.

-- the change of a slot, and the numbers of one that goes offline
abbrev pub change_of : List (ℕ × Change) → ℕ → Option Change
change_of changes slot = option_map (λ one. one.1) (find (λ one. one.0 == slot) changes)

abbrev pub offline_first : Option Change → ShadowState → ShadowState
offline_first (Some (GoesOffline need slots)) set = gone_offline need slots set
offline_first change set = set

abbrev pub sets_gone : List (ℕ × Change) → GroupState → GroupState
sets_gone changes group = record group { sets = map (λ set. offline_first (change_of changes set.slot) set) group.sets }

-- whether the change makes a master the shadow; and the set by which a master is changed so, or none
abbrev pub is_to_master : Option Change → Bool
is_to_master (Some ToMaster) = true
is_to_master change = false

abbrev pub source_of : List (ℕ × Change) → GroupState → ℕ → Option ShadowState
source_of changes before volume = find (λ set. has_master volume set && is_to_master (change_of changes set.slot)) before.sets

-- the chunks of a master that are overwritten then
abbrev pub overwritten_chunks : List (ℕ × Change) → GroupState → ℕ → ChunkList
overwritten_chunks changes before volume = option_map_or (λ from. from.lists.moved) (source_of changes before volume) no_chunks

-- a set that is not changed itself: of its master chunks may be overwritten
abbrev pub as_other : List (ℕ × Change) → GroupState → ShadowState → ShadowState
as_other changes before set = overwritten (overwritten_chunks changes before set.master) set

-- a set of the group behind the command, or none
abbrev pub changed_by : List (ℕ × Change) → GroupState → Option Change → ShadowState → Option ShadowState
changed_by changes before None set = Some (as_other changes before set)
changed_by changes before (Some (GoesOffline need slots)) set = Some (as_other changes before set)
changed_by changes before (Some (Enabled _ master size behind)) set = Some (as_other changes before set)
changed_by changes before (Some Disabled) set = None
changed_by changes before (Some (ToShadow whole)) set = Some (turned_to_shadow (volume_image before set.master) whole set)
changed_by changes before (Some ToMaster) set = Some (turned_to_master set)
changed_by changes before (Some Stops) set = Some (stopped_set set)
changed_by changes before (Some (Exported stamp)) set = Some (exported_set stamp set)
changed_by changes before (Some (Joined chunks contents)) set = Some (joined_set chunks contents set)

abbrev pub changed_sets : List (ℕ × Change) → GroupState → List ShadowState
changed_sets changes before = filter_map (λ set. changed_by changes before (change_of changes set.slot) set) before.sets

-- a set that is new
abbrev pub new_set : GroupState → ℕ × Change → Option ShadowState
new_set before (slot, Enabled kind master size behind) = Some (enabled_set slot kind master size (volume_image before master) behind)
new_set before (slot, change) = None

abbrev pub new_sets : List (ℕ × Change) → GroupState → List ShadowState
new_sets changes before = filter_map (λ one. new_set before one) changes

-- the image of a volume of that number: the shadow's that it becomes
abbrev pub changed_image : List (ℕ × Change) → GroupState → ℕ → Image → Image
changed_image changes before volume image = option_map_or (λ from. from.contents.image) (source_of changes before volume) image

abbrev pub changed_volumes : List (ℕ × Change) → GroupState → List (Option Image)
changed_volumes changes before = map (λ at. option_map (λ image. changed_image changes before at.0 image) at.1) (enumerate_from 0 before.volumes)

-- the group behind the command, but for its note and the number of its block
abbrev pub changed_from : List (ℕ × Change) → GroupState → GroupState
changed_from changes before = without_unused (record before {
  volumes = changed_volumes changes before;
  sets = changed_sets changes before ++ new_sets changes before;
})

abbrev pub with_note : GroupState → List ℕ → GroupState
with_note group note = record group { note = note; sequence = next_sequence group.sequence }

abbrev pub committed : GroupState → List (ℕ × Change) → Option (List ℕ) → GroupState
committed group changes note = let new = changed_from changes (sets_gone changes group) in with_note new (unwrap_or note group.note)

-- the slots of the overflow volume of that number, which is a new one where the number is the next
abbrev pub with_over : List (Option ℕ) → ℕ → ℕ → List (Option ℕ)
with_over overs over slots = if nat_lt over (length overs) then slice_set overs over (Some slots) else overs ++ Some slots ∷ []

abbrev pub attached : GroupState → ℕ → ℕ → ℕ → GroupState
attached group slot over slots = with_set (record group { overs = with_over group.overs over slots }) slot (λ set. record set { over = Some over })

abbrev pub detached : GroupState → ℕ → GroupState
detached group slot = without_unused (with_set group slot (λ set. record set { over = None }))

-- the group behind a stage
abbrev pub after_stage : GroupState → GroupStage → GroupState
after_stage group (Mark slot chunk) = with_set group slot (λ set. chunk_written chunk set)
after_stage group (Copied slot chunk) = with_set group slot (λ set. chunk_copied chunk set)
after_stage group (PutVolume volume at blocks) = with_volume group volume (put (volume_image group volume) at blocks)
after_stage group (PutShadow slot at blocks) = with_shadow group slot (put (shadow_image group slot) at blocks)
after_stage group (Commit changes note) = committed group changes note
after_stage group (PutNote note) = with_note group note
after_stage group (TakesVolume image) = with_new_volume group image
after_stage group (LeavesVolume volume) = without_volume group volume
after_stage group (Attached slot over slots) = attached group slot over slots
after_stage group (Detached slot) = detached group slot

-- the group in the midst of a stage: each block of a write is old or new; all else is done or not
abbrev pub InStage : GroupState → GroupStage → GroupState → Type 0
InStage group (PutVolume volume at blocks) new =
    (image : Image) × (IsMix (volume_image group volume) at blocks image) × (new ≡ with_volume group volume image)
InStage group (PutShadow slot at blocks) new =
    (image : Image) × (IsMix (shadow_image group slot) at blocks image) × (new ≡ with_shadow group slot image)
InStage group stage new = ⊥

-- what the stages of a group do
abbrev pub in_group : Stages GroupState GroupStage
in_group = record { after = after_stage; In = InStage }

-- whether a stage is a commit: the write of one block, by which it stands
abbrev pub is_commit : GroupStage → Bool
is_commit (Commit changes _) = true
is_commit (PutNote note) = true
is_commit stage = false

-- ---- the stages of writes and updates

-- the sets that go offline, in one commit, and nothing where there are none
abbrev pub goes_offline : Gone → ℕ × Change
goes_offline gone = (gone.slot, GoesOffline gone.need gone.slots)

abbrev pub offline_stages : List Gone → List GroupStage
offline_stages [] = []
offline_stages (one ∷ gone) = Commit (map goes_offline (one ∷ gone)) None ∷ []

-- what a write to its master asks of a chunk of a set: it is written in the set, and of an offline set copied, where it must be
abbrev pub saves : ShadowState → ℕ → GroupStage
saves set chunk = if is_offline set.standing then Copied set.slot chunk else Mark set.slot chunk

abbrev pub saves_of : GroupState → List ℕ → ℕ → List GroupStage
saves_of group chunks slot = option_map_or (λ set. map (λ chunk. saves set chunk) chunks) (set_at group slot) []

-- a write to a volume: sets that go offline; in the order of the slots the chunks of the others; the image
abbrev pub volume_write_stages : GroupState → ℕ → ℕ → Image → List GroupStage
volume_write_stages group volume at blocks =
    let chunks = touch at (length blocks) in
    let gone = gone_by_write group volume (chunks_among chunks) in
    let behind = sets_gone (map goes_offline gone) group in
    offline_stages gone ++ flat_map (λ slot. saves_of behind chunks slot) (slots_of group volume) ++ PutVolume volume at blocks ∷ []

-- a write to a shadow
abbrev pub shadow_write_stages : ℕ → ℕ → Image → List GroupStage
shadow_write_stages slot at blocks = map (λ chunk. Mark slot chunk) (touch at (length blocks)) ++ PutShadow slot at blocks ∷ []

-- a step of copying: the least chunk
abbrev pub copy_stages : ℕ → Option ℕ → List GroupStage
copy_stages slot None = []
copy_stages slot (Some chunk) = Copied slot chunk ∷ []

-- what an update changes in each of its sets
abbrev pub change_by : Way → Bool → Change
change_by way_to_shadow whole = ToShadow whole
change_by way_to_master whole = ToMaster

-- the sets of an update, and with them those that go offline by it, in order of enabling
abbrev pub named_changes : Way → Bool → List ℕ → List (ℕ × Change)
named_changes way whole slots = map (λ slot. (slot, change_by way whole)) slots

abbrev pub is_named : List ℕ → ShadowState → Bool
is_named slots set = list_any (λ slot. has_slot slot set) slots

abbrev pub gone_by_update : GroupState → Way → Bool → List ℕ → List Gone
gone_by_update group way whole slots =
    gone_of group (λ set. overwritten_chunks (named_changes way whole slots) group set.master) (filter (λ set. may_go set && not (is_named slots set)) group.sets)

abbrev pub update_changes : GroupState → Way → Bool → List ℕ → List (ℕ × Change)
update_changes group way whole slots = map goes_offline (gone_by_update group way whole slots) ++ named_changes way whole slots

abbrev pub update_stages : GroupState → Way → Bool → List ℕ → Option (List ℕ) → List GroupStage
update_stages group way whole slots note = Commit (update_changes group way whole slots) note ∷ []
