-- The state of a group that its disks stand for.
use Rattle.std.specs.Prelude.{ℕ, ◌&&◌, ◌==◌, not, nat_lt, if◌then◌else◌, List, [], ◌∷◌, length, map, slice_index_or}
use Rattle.std.specs.List.{range_with_len}
use Rattle.avs_seg.specs.Image.{Image, block_at}
use Rattle.avs_dev.specs.Seen.{Seen}
use Rattle.avs_code.specs.GroupBlock.{group_block_at}
use Rattle.avs_code.specs.declared.slot_table.Slot.{Slot}
use Rattle.avs_code.specs.declared.group_blocks.GroupBlock.{GroupBlock}
use Rattle.avs_model.specs.Shadows.{ChunkList, no_chunks, Standing, Online, Offline, Exported, ShadowState, GroupState}
use Rattle.avs_model.specs.declared.shadow.Kind.{Kind}
use Rattle.avs_model.specs.declared.shadow.Kind.TheVariants.{Ind, Dep, Compact}
use Rattle.avs_chunk.specs.States.{on_master, split, on_shadow}
use Rattle.avs_chunk.specs.ChunkSet.{ChunkSet, chunks_of, disk_state, shadow_image, master_image}
use Rattle.avs_ii.specs.Held.{HeldSet, IiDisks, slot_in, has_flag, enabled_in, area_b, stopped, offline, exported}

-- The lists of chunks, by the states on the disk. What was written since a set's shadow was its master is split, and of a
-- set that is not independent all that does not stand on the master alone was written since it was last enabled or its
-- shadow updated.

abbrev pub chunks_with : ChunkSet → ℕ → ChunkList
chunks_with s state chunk = nat_lt chunk (chunks_of s) && disk_state s chunk == state

abbrev pub touched_of : Kind → ChunkSet → ChunkList
touched_of Ind s = no_chunks
touched_of Dep s = λ chunk. nat_lt chunk (chunks_of s) && not (disk_state s chunk == on_master)
touched_of Compact s = λ chunk. nat_lt chunk (chunks_of s) && not (disk_state s chunk == on_master)

abbrev pub left_of : Kind → ChunkSet → ChunkList
left_of Ind s = chunks_with s on_master
left_of Dep s = no_chunks
left_of Compact s = no_chunks

-- whether the shadow can be read, by the set's slot
abbrev pub standing_of : Slot → Standing
standing_of slot = if has_flag exported slot then Exported slot.stamp else if has_flag offline slot then Offline slot.need slot.slots else Online

-- a set with the area live that its slot says
abbrev pub chunks_by : Slot → ChunkSet → ChunkSet
chunks_by slot s = record s { areas = record s.areas { live_b = has_flag area_b slot } }

-- the blocks on the disk of a volume
abbrev pub disk_image : List Seen → ℕ → Image
disk_image volumes volume = slice_index_or (map (λ v. v.image) volumes) volume []

-- a set, by its slot and its chunks, over its master's disk
abbrev pub shadow_of : Slot → HeldSet → ChunkSet → Image → ShadowState
shadow_of slot s chunks master = record {
  slot = s.slot;
  kind = chunks.kind;
  master = s.master;
  blocks = chunks.blocks;
  image = shadow_image chunks master;
  touched = touched_of chunks.kind chunks;
  moved = chunks_with chunks split;
  left = left_of chunks.kind chunks;
  back = chunks_with chunks on_shadow;
  stopped = has_flag stopped slot;
  standing = standing_of slot;
}

abbrev pub shadow_by : List Slot → List Seen → HeldSet → ShadowState
shadow_by slots volumes s =
    let slot = slot_in slots s.slot in shadow_of slot s (chunks_by slot s.chunks) (disk_image volumes s.master)

-- The image of a master over its disk: what stands on the shadow of one of its sets alone is picked from there.
abbrev pub picked : List Slot → List HeldSet → ℕ → Image → Image
picked slots [] volume image = image
picked slots (s ∷ sets) volume image =
    let others = picked slots sets volume image in
    if s.master == volume then master_image (chunks_by (slot_in slots s.slot) s.chunks) others else others

abbrev pub volume_by : List Slot → List Seen → List HeldSet → ℕ → Image
volume_by slots volumes sets volume = picked slots (enabled_in slots sets) volume (disk_image volumes volume)

-- the group that disks stand for, with these slots and this note
abbrev pub group_by : List Slot → List ℕ → List Seen → List HeldSet → GroupState
group_by slots note volumes sets = record {
  volumes = map (λ volume. volume_by slots volumes sets volume) (range_with_len 0 (length volumes));
  sets = map (λ s. shadow_by slots volumes s) (enabled_in slots sets);
  note = note;
}

-- the block that a state disk holds
abbrev pub kept_on : Seen → GroupBlock
kept_on state = group_block_at (block_at state.image 1)

-- the group that all disks stand for
abbrev pub meaning : IiDisks → GroupState
meaning g = let block = kept_on g.state in group_by block.slots block.note g.volumes g.sets
