-- Shadow sets: the image of a volume at one point in time, and which chunks were written since. A chunk is a segment of a
-- shadow, and here is what enabling a set and writing to its volumes make of images and of the lists of chunks.
use Rattle.std.specs.Prelude.{◌≡◌, ◌⊎◌, ℕ, Bool, false, not, ◌&&◌, ◌||◌, ◌==◌, nat_lt, if◌then◌else◌, List, [], ◌∷◌, ◌++◌, length, map, filter, replicate, slice_set, slice_index_or, find}
use Rattle.std.specs.Option.{option_map_or}
use Rattle.std.specs.List.{list_any, flat_map, range_with_len}
use Rattle.avs_seg.specs.Image.{Image, put, IsMix}
use Rattle.avs_seg.specs.Segment.{seg_count, touch}
use Rattle.avs_model.specs.declared.shadow.Kind.{Kind}
use Rattle.avs_model.specs.declared.shadow.Kind.TheVariants.{Ind, Dep, Compact}

-- a list of chunks: whether each chunk is in it
abbrev pub ChunkList : Type 0
ChunkList = ℕ → Bool

-- no chunk, and all chunks of so many blocks
abbrev pub no_chunks : ChunkList
no_chunks chunk = false

abbrev pub all_chunks : ℕ → ChunkList
all_chunks blocks chunk = nat_lt chunk (seg_count blocks)

-- the list with one chunk more, and without it
abbrev pub with_chunk : ChunkList → ℕ → ChunkList
with_chunk list one chunk = chunk == one || list chunk

abbrev pub without_chunk : ChunkList → ℕ → ChunkList
without_chunk list one chunk = not (chunk == one) && list chunk

-- how many chunks of so many blocks are in the list
abbrev pub chunks_in : ℕ → ChunkList → ℕ
chunks_in blocks list = length (filter list (range_with_len 0 (seg_count blocks)))

-- whether a shadow can be read: it is online; it needed more slots than it had, and tells both numbers; or its volume was
-- exported with a stamp
pub data Standing : Type 0 where
  Online : Standing
  Offline : ℕ → ℕ → Standing
  Exported : ℕ → Standing

-- a shadow set: its slot in the group; its kind; the place of its master among the volumes of the group; how many blocks it
-- has; the image of its shadow; its chunks that were written since it was last enabled or its shadow updated; those written
-- since either was last updated; those whose contents lie on the master alone; those whose contents lie on the shadow alone;
-- whether copying is stopped; and its standing
pub record ShadowState : Type 0 where
  pub slot : ℕ
  pub kind : Kind
  pub master : ℕ
  pub blocks : ℕ
  pub image : Image
  pub touched : ChunkList
  pub moved : ChunkList
  pub left : ChunkList
  pub back : ChunkList
  pub stopped : Bool
  pub standing : Standing

-- a group of volumes: their images in order, the shadow sets in order of enabling, and the note
pub record GroupState : Type 0 where
  pub volumes : List Image
  pub sets : List ShadowState
  pub note : List ℕ

-- a group of volumes without shadow sets, whose note is zeros
abbrev pub bare_group : List Image → GroupState
bare_group volumes = record { volumes = volumes; sets = []; note = replicate 64 0 }

-- the image of a volume
abbrev pub volume_image : GroupState → ℕ → Image
volume_image group volume = slice_index_or group.volumes volume []

-- A point in time. Enabling a set makes its shadow the image that the master then has. No chunk has been written since; all
-- contents of an independent set lie on the master alone.

abbrev pub left_at_enabling : Kind → ℕ → ChunkList
left_at_enabling Ind blocks = all_chunks blocks
left_at_enabling Dep blocks = no_chunks
left_at_enabling Compact blocks = no_chunks

abbrev pub enabled_set : ℕ → Kind → ℕ → Image → ShadowState
enabled_set slot kind master image = record {
  slot = slot;
  kind = kind;
  master = master;
  blocks = length image;
  image = image;
  touched = no_chunks;
  moved = no_chunks;
  left = left_at_enabling kind (length image);
  back = no_chunks;
  stopped = false;
  standing = Online;
}

abbrev pub after_enabling : GroupState → ℕ → Kind → ℕ → GroupState
after_enabling group slot kind master = record group { sets = group.sets ++ enabled_set slot kind master (volume_image group master) ∷ [] }

-- The write rule. A write changes the image of its volume alone. Each chunk that it touches goes into `touched` and `moved`,
-- and out of `left` and `back`, of each set of which the volume is the master or the shadow. No chunk of an independent set
-- is ever in `touched`. While a set is offline, its chunks leave `back` and change no other list.

abbrev pub touched_with : Kind → ChunkList → ℕ → ChunkList
touched_with Ind touched chunk = touched
touched_with Dep touched chunk = with_chunk touched chunk
touched_with Compact touched chunk = with_chunk touched chunk

abbrev pub lists_written : ShadowState → ℕ → ShadowState
lists_written set chunk = record set {
  touched = touched_with set.kind set.touched chunk;
  moved = with_chunk set.moved chunk;
  left = without_chunk set.left chunk;
  back = without_chunk set.back chunk;
}

abbrev pub chunk_written_as : Standing → ShadowState → ℕ → ShadowState
chunk_written_as Online set chunk = lists_written set chunk
chunk_written_as (Offline need slots) set chunk = record set { back = without_chunk set.back chunk }
chunk_written_as (Exported stamp) set chunk = lists_written set chunk

-- the set after one of its chunks was written
abbrev pub chunk_written : ShadowState → ℕ → ShadowState
chunk_written set chunk = chunk_written_as set.standing set chunk

-- the sets, that of one slot with a change
abbrev pub changed_at : ℕ → (ShadowState → ShadowState) → List ShadowState → List ShadowState
changed_at slot change sets = map (λ set. if set.slot == slot then change set else set) sets

-- Stages: what a write does, part by part. First the lists of each set change, in the order of the slots, chunk by chunk
-- from the least on; last the image.

pub data GroupStage : Type 0 where
  -- a chunk of the set with that slot is written
  Mark : ℕ → ℕ → GroupStage
  -- blocks are written to a volume from a place on
  PutVolume : ℕ → ℕ → Image → GroupStage
  -- blocks are written to the shadow of the set with that slot
  PutShadow : ℕ → ℕ → Image → GroupStage

-- the slots of a group
abbrev pub slot_count : ℕ
slot_count = 16

-- the slots of the sets of a master, rising
abbrev pub slots_of : List ShadowState → ℕ → List ℕ
slots_of sets master = filter (λ slot. list_any (λ set. set.slot == slot && set.master == master) sets) (range_with_len 0 slot_count)

-- the chunks of a range, in the set with that slot
abbrev pub marks : ℕ → ℕ → ℕ → List GroupStage
marks slot at len = map (λ chunk. Mark slot chunk) (touch at len)

abbrev pub volume_write_stages : List ShadowState → ℕ → ℕ → Image → List GroupStage
volume_write_stages sets volume at blocks = flat_map (λ slot. marks slot at (length blocks)) (slots_of sets volume) ++ PutVolume volume at blocks ∷ []

abbrev pub shadow_write_stages : ℕ → ℕ → Image → List GroupStage
shadow_write_stages slot at blocks = marks slot at (length blocks) ++ PutShadow slot at blocks ∷ []

-- the group with another image of a volume, and of the shadow of the set with that slot
abbrev pub with_volume : GroupState → ℕ → Image → GroupState
with_volume group volume image = record group { volumes = slice_set group.volumes volume image }

abbrev pub with_shadow : GroupState → ℕ → Image → GroupState
with_shadow group slot image = record group { sets = changed_at slot (λ set. record set { image = image }) group.sets }

-- the image of the shadow of the set with that slot
abbrev pub image_at : List ShadowState → ℕ → Image
image_at sets slot = option_map_or (λ set. set.image) (find (λ set. set.slot == slot) sets) []

-- how many blocks it has, and how many of its chunks are to be copied one way or the other
abbrev pub blocks_at : List ShadowState → ℕ → ℕ
blocks_at sets slot = option_map_or (λ set. set.blocks) (find (λ set. set.slot == slot) sets) 0

abbrev pub to_copy : ShadowState → ℕ
to_copy set = chunks_in set.blocks (λ chunk. set.left chunk || set.back chunk)

abbrev pub to_copy_at : List ShadowState → ℕ → ℕ
to_copy_at sets slot = option_map_or to_copy (find (λ set. set.slot == slot) sets) 0

-- the group behind a stage
abbrev pub after_stage : GroupState → GroupStage → GroupState
after_stage group (Mark slot chunk) = record group { sets = changed_at slot (λ set. chunk_written set chunk) group.sets }
after_stage group (PutVolume volume at blocks) = with_volume group volume (put (volume_image group volume) at blocks)
after_stage group (PutShadow slot at blocks) = with_shadow group slot (put (image_at group.sets slot) at blocks)

-- the group behind all of them
abbrev pub after_stages : GroupState → List GroupStage → GroupState
after_stages group [] = group
after_stages group (stage ∷ stages) = after_stages (after_stage group stage) stages

-- the group in the midst of a stage: each block of a write is old or new, and a chunk is in a list or not
abbrev pub InStage : GroupState → GroupStage → GroupState → Type 0
InStage group (Mark slot chunk) new = ⊥
InStage group (PutVolume volume at blocks) new =
    (image : Image) × (IsMix (volume_image group volume) at blocks image) × (new ≡ with_volume group volume image)
InStage group (PutShadow slot at blocks) new =
    (image : Image) × (IsMix (image_at group.sets slot) at blocks image) × (new ≡ with_shadow group slot image)

-- the group where a fault stopped these stages: some are done, and perhaps the next in part
abbrev pub StoppedIn : GroupState → List GroupStage → GroupState → Type 0
StoppedIn group [] new = new ≡ group
StoppedIn group (stage ∷ stages) new = (new ≡ group) ⊎ InStage group stage new ⊎ StoppedIn (after_stage group stage) stages new
