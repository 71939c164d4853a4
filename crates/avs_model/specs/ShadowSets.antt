-- Shadow sets: the image of a volume at one point in time, and which chunks were written since. A chunk is a segment of a shadow.
-- Here is what enabling, writing, copying and updating make of the image of one set and of its lists of chunks.
use Rattle.std.specs.Prelude.{ℕ, ◌/◌, Bool, true, false, not, ◌&&◌, ◌||◌, ◌==◌, nat_lt, if◌then◌else◌, Option, None, List, [], ◌++◌, length, filter, find}
use Rattle.std.specs.List.{list_any, range_with_len}
use Rattle.avs_seg.specs.Image.{Image}
use Rattle.avs_seg.specs.Segment.{seg_count}
use Rattle.avs_model.specs.Limits.{bitmap_blocks, compact_bitmap_blocks}
use Rattle.avs_model.specs.declared.shadow.Kind.{Kind}
use Rattle.avs_model.specs.declared.shadow.Kind.TheVariants.{Ind, Dep, Compact}

-- a list of chunks: whether each chunk is in it
abbrev pub ChunkList : Type 0
ChunkList = ℕ → Bool

-- no chunk; all chunks of so many blocks; the chunks of a list of numbers
abbrev pub no_chunks : ChunkList
no_chunks chunk = false

abbrev pub all_chunks : ℕ → ChunkList
all_chunks blocks chunk = nat_lt chunk (seg_count blocks)

abbrev pub chunks_among : List ℕ → ChunkList
chunks_among numbers chunk = list_any (λ one. chunk == one) numbers

-- the list with one chunk more, and without it
abbrev pub with_chunk : ChunkList → ℕ → ChunkList
with_chunk list one chunk = chunk == one || list chunk

abbrev pub without_chunk : ChunkList → ℕ → ChunkList
without_chunk list one chunk = not (chunk == one) && list chunk

-- the chunks of two lists together, and those of the second that are not in the first
abbrev pub together : ChunkList → ChunkList → ChunkList
together more list chunk = more chunk || list chunk

abbrev pub apart_from : ChunkList → ChunkList → ChunkList
apart_from these list chunk = not (these chunk) && list chunk

-- how many chunks of so many blocks are in the list, and the least
abbrev pub chunks_in : ℕ → ChunkList → ℕ
chunks_in blocks list = length (filter list (range_with_len 0 (seg_count blocks)))

abbrev pub least_chunk : ℕ → ChunkList → Option ℕ
least_chunk blocks list = find list (range_with_len 0 (seg_count blocks))

-- whether a shadow can be read: it is online; it needed more slots than it had, and tells both numbers; or its volume was given away
-- with a stamp
pub data Standing : Type 0 where
  Online : Standing
  Offline : ℕ → ℕ → Standing
  Exported : ℕ → Standing

abbrev pub is_online : Standing → Bool
is_online Online = true
is_online (Offline need slots) = false
is_online (Exported stamp) = false

abbrev pub is_offline : Standing → Bool
is_offline Online = false
is_offline (Offline need slots) = true
is_offline (Exported stamp) = false

abbrev pub is_exported : Standing → Bool
is_exported Online = false
is_exported (Offline need slots) = false
is_exported (Exported stamp) = true

-- how many blocks a shadow has while it is one, which are its master's; and of a compact set how many slots of 64 blocks its volume has
pub record SetSize : Type 0 where
  pub blocks : ℕ
  pub own : ℕ

-- The chunks of a set: those that were written since it was last enabled or its shadow updated, of a dependent set; those written since
-- either was last updated; those whose contents lie on the master alone; those whose contents lie on the shadow alone; and
-- whether copying is stopped.
pub record ChunkLists : Type 0 where
  pub touched : ChunkList
  pub moved : ChunkList
  pub left : ChunkList
  pub back : ChunkList
  pub stopped : Bool

-- what can be read of a shadow volume: the shadow, which is [] while it cannot be read, and the blocks behind it, which are [] while
-- the volume is not here
pub record Contents : Type 0 where
  pub image : Image
  pub behind : Image

abbrev pub no_contents : Contents
no_contents = record { image = []; behind = [] }

-- the blocks of the volume
abbrev pub whole_image : Contents → Image
whole_image contents = contents.image ++ contents.behind

-- a shadow set: its slot in the group; its kind; the number of its master among the volumes of the group; its size; the number of its
-- overflow volume in the group; its chunks; its standing; and what can be read of its volume
pub record ShadowState : Type 0 where
  pub slot : ℕ
  pub kind : Kind
  pub master : ℕ
  pub size : SetSize
  pub over : Option ℕ
  pub lists : ChunkLists
  pub standing : Standing
  pub contents : Contents

abbrev pub is_independent : Kind → Bool
is_independent Ind = true
is_independent Dep = false
is_independent Compact = false

abbrev pub is_compact : Kind → Bool
is_compact Ind = false
is_compact Dep = false
is_compact Compact = true

-- the slots of a set whose shadow volume has so many blocks
abbrev pub own_slots : Kind → ℕ → ℕ
own_slots kind blocks = if is_compact kind then blocks / 64 else 0

-- what a new set is, by the blocks of its shadow and of its master: a dependent one is compact where its shadow is the smaller
abbrev pub kind_of : Bool → ℕ → ℕ → Kind
kind_of dependent shadow master = if not dependent then Ind else if nat_lt shadow master then Compact else Dep

-- the blocks of a set's bitmap, which has a label and two areas, for a master of so many
abbrev pub bitmap_blocks_of : Kind → ℕ → ℕ
bitmap_blocks_of kind blocks = if is_compact kind then compact_bitmap_blocks blocks else bitmap_blocks blocks

-- A point in time. Enabling a set makes its shadow the image that the master then has. No chunk has been written since; all contents of
-- an independent set lie on the master alone.

abbrev pub left_at_enabling : Kind → ℕ → ChunkList
left_at_enabling kind blocks = if is_independent kind then all_chunks blocks else no_chunks

abbrev pub lists_at_enabling : Kind → ℕ → ChunkLists
lists_at_enabling kind blocks =
    record { touched = no_chunks; moved = no_chunks; left = left_at_enabling kind blocks; back = no_chunks; stopped = false }

abbrev pub enabled_set : ℕ → Kind → ℕ → SetSize → Image → Image → ShadowState
enabled_set slot kind master size image behind = record {
  slot = slot;
  kind = kind;
  master = master;
  size = size;
  over = None;
  lists = lists_at_enabling kind size.blocks;
  standing = Online;
  contents = record { image = image; behind = behind };
}

-- The write rule. Each chunk that is written goes into `touched` and `moved` and out of `left` and `back`. No chunk of an
-- independent set is ever in `touched`. While a set is offline its lists stand still, but that chunks leave `back`.

abbrev pub touched_with : Kind → ChunkList → ChunkList → ChunkList
touched_with kind more touched = if is_independent kind then touched else together more touched

abbrev pub lists_written : Kind → ℕ → ChunkLists → ChunkLists
lists_written kind chunk lists = record {
  touched = if is_independent kind then lists.touched else with_chunk lists.touched chunk;
  moved = with_chunk lists.moved chunk;
  left = without_chunk lists.left chunk;
  back = without_chunk lists.back chunk;
  stopped = lists.stopped;
}

-- A chunk is copied, one way or the other.
abbrev pub lists_copied : ℕ → ChunkLists → ChunkLists
lists_copied chunk lists = record lists { left = without_chunk lists.left chunk; back = without_chunk lists.back chunk }

-- the set behind one of its chunks was written, and was copied
abbrev pub chunk_copied : ℕ → ShadowState → ShadowState
chunk_copied chunk set = record set { lists = lists_copied chunk set.lists }

abbrev pub chunk_written : ℕ → ShadowState → ShadowState
chunk_written chunk set =
    if is_offline set.standing then chunk_copied chunk set else record set { lists = lists_written set.kind chunk set.lists }

-- Updates. A shadow becomes its master: what was written since is to be copied again, and by a full copy all. It is online again.

abbrev pub left_at_update : Bool → ShadowState → ChunkList
left_at_update whole set =
    if not (is_independent set.kind) then no_chunks else if whole then all_chunks set.size.blocks else together set.lists.moved set.lists.left

abbrev pub turned_to_shadow : Image → Bool → ShadowState → ShadowState
turned_to_shadow master whole set = record set {
  lists = record set.lists { touched = no_chunks; moved = no_chunks; left = left_at_update whole set; stopped = false };
  standing = Online;
  contents = record set.contents { image = master };
}

-- The master becomes the shadow: what was written since in the set stands on its shadow alone.
abbrev pub turned_to_master : ShadowState → ShadowState
turned_to_master set = record set { lists = record set.lists { moved = no_chunks; back = set.lists.moved; stopped = false } }

-- In each other set of that master these chunks are written then; an offline set stands still.
abbrev pub lists_overwritten : Kind → ChunkList → ChunkLists → ChunkLists
lists_overwritten kind chunks lists = record lists {
  touched = touched_with kind chunks lists.touched;
  moved = together chunks lists.moved;
  left = apart_from chunks lists.left;
  back = apart_from chunks lists.back;
}

abbrev pub overwritten : ChunkList → ShadowState → ShadowState
overwritten chunks set =
    if is_offline set.standing then set else record set { lists = lists_overwritten set.kind chunks set.lists }

-- A set goes offline, and keeps the two numbers.
abbrev pub gone_offline : ℕ → ℕ → ShadowState → ShadowState
gone_offline need slots set = record set { standing = Offline need slots; contents = record set.contents { image = [] } }

-- Its volume is given away.
abbrev pub exported_set : ℕ → ShadowState → ShadowState
exported_set stamp set = record set { standing = Exported stamp; contents = no_contents }

-- It comes back with these contents; what was written on it meanwhile is as if it were written here.
abbrev pub joined_set : ChunkList → Contents → ShadowState → ShadowState
joined_set chunks contents set = record set {
  lists = record set.lists { touched = touched_with set.kind chunks set.lists.touched; moved = together chunks set.lists.moved };
  standing = Online;
  contents = contents;
}

-- Its copying stops, until the next update.
abbrev pub stopped_set : ShadowState → ShadowState
stopped_set set = record set { lists = record set.lists { stopped = true } }

-- the chunks that are to be copied, one way or the other, and how many there are
abbrev pub copy_list : ShadowState → ChunkList
copy_list set = together set.lists.left set.lists.back

abbrev pub to_copy : ShadowState → ℕ
to_copy set = chunks_in set.size.blocks (copy_list set)

abbrev pub next_to_copy : ShadowState → Option ℕ
next_to_copy set = least_chunk set.size.blocks (copy_list set)
