-- What the disks of a group stand for: its volumes, sets, overflow volumes and note.
use Rattle.std.specs.Prelude.{ℕ, ◌/◌, ◌==◌, ◌&&◌, Bool, not, nat_lt, if◌then◌else◌, Option, None, Some, List, [], ◌∷◌, length, map, filter, drop, slice_index_or}
use Rattle.std.specs.List.{list_any, range_with_len}
use Rattle.std.specs.Option.{option_map}
use Rattle.avs_seg.specs.Image.{Block, Image, block_at, tabulate}
use Rattle.avs_seg.specs.Segment.{seg_count}
use Rattle.avs_dev.specs.Seen.{Seen, shown}
use Rattle.avs_model.specs.ShadowSets.{ChunkList, no_chunks, Standing, Online, Offline, Exported, ChunkLists, Contents, no_contents, ShadowState, is_independent}
use Rattle.avs_model.specs.GroupStates.{GroupState, is_over}
use Rattle.avs_model.specs.Room.{over_slots}
use Rattle.avs_model.specs.GroupWork.{GroupSpot, StateDisk, VolumeDisk, ShadowDisk, BitmapDisk, OverDisk}
use Rattle.avs_model.specs.declared.shadow.Kind.{Kind}
use Rattle.avs_sets.specs.Says.{SlotSays, BlockSays}
use Rattle.avs_sets.specs.Sets.{on_master, split, on_shadow, ChunkMap, SetSeen, no_set, absent, disk_of, shadow_disk, SetRead, read_from, shadow_block}

-- A group: its state disk; what the block there says, and the block in memory; the disks of the
-- volumes and of the overflow volumes by number, where a hole has none; and the sets in order of
-- enabling, those that are not enabled yet behind them.
pub record GroupSeen : Type 0 where
  pub state : Seen
  pub says : BlockSays
  pub memory : BlockSays
  pub volumes : List (Option Seen)
  pub overs : List (Option Seen)
  pub sets : List SetSeen

-- the disk of a number, and what it shows
abbrev pub disk_in : List (Option Seen) → ℕ → Seen
disk_in disks number = disk_of (slice_index_or disks number None)

abbrev pub image_in : List (Option Seen) → ℕ → Image
image_in disks number = shown (disk_in disks number)

abbrev pub over_disk : List (Option Seen) → Option ℕ → Seen
over_disk overs None = absent
over_disk overs (Some over) = disk_in overs over

abbrev pub over_image : List (Option Seen) → Option ℕ → Image
over_image overs over = shown (over_disk overs over)

-- the set at a place of the list, and the first one of a slot
abbrev pub set_of : List SetSeen → ℕ → SetSeen
set_of sets k = slice_index_or sets k no_set

abbrev pub set_in : List SetSeen → ℕ → SetSeen
set_in [] slot = no_set
set_in (s ∷ sets) slot = let others = set_in sets slot in if s.slot == slot then s else others

-- the disks by name
abbrev pub disk_at : GroupSeen → GroupSpot → Seen
disk_at g StateDisk = g.state
disk_at g (VolumeDisk volume) = disk_in g.volumes volume
disk_at g (ShadowDisk slot) = shadow_disk (set_in g.sets slot)
disk_at g (BitmapDisk slot) = (set_in g.sets slot).bitmap
disk_at g (OverDisk over) = disk_in g.overs over

-- ---- a set by what the block says of its slot

abbrev pub slot_of : BlockSays → SetSeen → SlotSays
slot_of says s = says.slots s.slot

abbrev pub is_enabled : BlockSays → SetSeen → Bool
is_enabled says s = (slot_of says s).enabled

abbrev pub standing_of : BlockSays → SetSeen → Standing
standing_of says s = (slot_of says s).standing

-- its chunks by the live area, and what is read of it
abbrev pub chunks_by : BlockSays → SetSeen → ChunkMap
chunks_by says s = s.area (slot_of says s).area_b

abbrev pub read : BlockSays → List (Option Seen) → SetSeen → SetRead
read says overs s =
    read_from (chunks_by says s) s.size.blocks (shown (shadow_disk s)) (over_image overs s.over)

-- ---- the image of a volume

-- whether block i of a volume stands on the shadow of this set alone
abbrev pub is_back : BlockSays → ℕ → ℕ → SetSeen → Bool
is_back says volume i s = is_enabled says s
    && (s.master == volume && (chunks_by says s).state (i / 64) == on_shadow)

-- block i of a volume: it is picked from the set on whose shadow it stands alone, else it is the
-- disk's
abbrev pub pick : BlockSays → List (Option Seen) → List SetSeen → ℕ → ℕ → Block → Block
pick says overs [] volume i block = block
pick says overs (s ∷ sets) volume i block =
    let others = pick says overs sets volume i block in
    if is_back says volume i s then (read says overs s).stands i else others

abbrev pub picked : BlockSays → List (Option Seen) → List SetSeen → ℕ → Image → Image
picked says overs sets volume image =
    tabulate (length image) (λ i. pick says overs sets volume i (block_at image i))

abbrev pub volume_by : BlockSays → List (Option Seen) → List (Option Seen) → List SetSeen → ℕ
    → Option Image
volume_by says volumes overs sets volume =
    option_map (λ disk. picked says overs sets volume (shown disk))
    (slice_index_or volumes volume None)

-- ---- a set

-- the chunks in a state
abbrev pub chunks_with : ℕ → (ℕ → ℕ) → ℕ → ChunkList
chunks_with blocks state wanted chunk = nat_lt chunk (seg_count blocks) && state chunk == wanted

abbrev pub chunks_touched : ℕ → (ℕ → ℕ) → ChunkList
chunks_touched blocks state chunk = nat_lt chunk (seg_count blocks)
    && not (state chunk == on_master)

abbrev pub lists_by : Kind → ℕ → (ℕ → ℕ) → Bool → ChunkLists
lists_by kind blocks state stopped = record {
  touched = if is_independent kind then no_chunks else chunks_touched blocks state;
  moved = chunks_with blocks state split;
  left = if is_independent kind then chunks_with blocks state on_master else no_chunks;
  back = chunks_with blocks state on_shadow;
  stopped = stopped;
}

-- what can be read of the shadow's volume
abbrev pub contents_by : Standing → Image → Image → Contents
contents_by Online image behind = record { image = image; behind = behind }
contents_by (Offline need slots) image behind = record { image = []; behind = behind }
contents_by (Exported stamp) image behind = no_contents

-- the shadow over an image of the master's disk, and the blocks behind it
abbrev pub shadow_over : SetRead → Image → Image
shadow_over one master = tabulate one.blocks (λ i. shadow_block one master i)

abbrev pub behind_of : SetSeen → Image
behind_of s = drop s.size.blocks (shown (shadow_disk s))

-- a set by what is said of its slot, what is read of it, an image of the master's disk, and the
-- blocks behind
abbrev pub state_of : SetSeen → SlotSays → SetRead → Image → Image → ShadowState
state_of s slot one master behind = record {
  slot = s.slot;
  kind = s.kind;
  master = s.master;
  size = s.size;
  over = s.over;
  lists = lists_by s.kind one.blocks one.state slot.stopped;
  standing = slot.standing;
  contents = contents_by slot.standing (shadow_over one master) behind;
}

abbrev pub set_by : BlockSays → List (Option Seen) → List (Option Seen) → SetSeen → ShadowState
set_by says volumes overs s =
    state_of s (slot_of says s) (read says overs s) (image_in volumes s.master) (behind_of s)

-- ---- the group

abbrev pub enabled : BlockSays → List SetSeen → List SetSeen
enabled says sets = filter (λ s. is_enabled says s) sets

-- whether an enabled set uses the overflow volume of that number, and the slots of one that is used
abbrev pub is_used : BlockSays → List SetSeen → ℕ → Bool
is_used says sets over = list_any (λ s. is_enabled says s && is_over s.over over) sets

abbrev pub over_by : BlockSays → List (Option Seen) → List SetSeen → ℕ → Option ℕ
over_by says overs sets over =
    if is_used says sets over
    then option_map (λ disk. over_slots disk.size) (slice_index_or overs over None)
    else None

abbrev pub group_by : BlockSays → List (Option Seen) → List (Option Seen) → List SetSeen
    → GroupState
group_by says volumes overs sets = record {
  volumes = map (λ v. volume_by says volumes overs sets v) (range_with_len 0 (length volumes));
  overs = map (λ o. over_by says overs sets o) (range_with_len 0 (length overs));
  sets = map (λ s. set_by says volumes overs s) (enabled says sets);
  note = says.note;
  sequence = says.sequence;
}

abbrev pub meaning : GroupSeen → GroupState
meaning g = group_by g.says g.volumes g.overs g.sets
