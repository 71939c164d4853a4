-- A shadow set as its group sees it, whatever its kind: its place in the group, its disks, and of
-- each chunk the state and where its own contents stand.
use Rattle.std.specs.Prelude.{◌≡◌, ◌≢◌, ℕ, ◌+◌, ◌*◌, ◌/◌, ◌%◌, ◌<◌, ◌==◌, Bool, true, false, if◌then◌else◌, Option, None, Some, []}
use Rattle.avs_seg.specs.Image.{Block, Image, block_at}
use Rattle.avs_seg.specs.Segment.{seg_count}
use Rattle.avs_dev.specs.Seen.{Seen}
use Rattle.avs_model.specs.ShadowSets.{SetSize}
use Rattle.avs_model.specs.declared.shadow.Kind.{Kind}
use Rattle.avs_model.specs.declared.shadow.Kind.TheVariants.{Ind}

-- the states of a chunk: on the master alone, the same on both, split, on the shadow alone
abbrev pub on_master : ℕ
on_master = 0

abbrev pub on_both : ℕ
on_both = 1

abbrev pub split : ℕ
split = 2

abbrev pub on_shadow : ℕ
on_shadow = 3

-- where a chunk's own contents stand: in a slot of 64 blocks of the shadow's volume, or of the
-- overflow volume behind its first block. A set that is not compact has chunk c in slot c.
pub data ChunkPlace : Type 0 where
  OwnSlot : ℕ → ChunkPlace
  OverSlot : ℕ → ChunkPlace

-- of each chunk of a set, the state and the place
pub record ChunkMap : Type 0 where
  pub state : ℕ → ℕ
  pub place : ℕ → ChunkPlace

-- A set: its slot; its kind; the number of its master; its size; the number of its overflow volume;
-- the shadow's disk, where it is there; the bitmap's disk; its two areas, of which `area true` is
-- the second; the same in memory, live and staged; and which area the memory takes for the live
-- one.
pub record SetSeen : Type 0 where
  pub slot : ℕ
  pub kind : Kind
  pub master : ℕ
  pub size : SetSize
  pub over : Option ℕ
  pub shadow : Option Seen
  pub bitmap : Seen
  pub area : Bool → ChunkMap
  pub memory : ChunkMap
  pub next : ChunkMap
  pub live_b : Bool

-- a disk that is not there: it has no block and never fails
abbrev pub absent : Seen
absent = record {
  image = [];
  size = 0;
  faults = 0;
  written = 0;
  steady = true;
  armed = false;
  tear = None;
  arms = false;
}

abbrev pub disk_of : Option Seen → Seen
disk_of None = absent
disk_of (Some d) = d

-- what the shadow's disk shows
abbrev pub shadow_disk : SetSeen → Seen
shadow_disk s = disk_of s.shadow

-- no chunk and no set
abbrev pub no_map : ChunkMap
no_map = record { state = λ c. on_master; place = λ c. OwnSlot c }

abbrev pub no_set : SetSeen
no_set = record {
  slot = 0;
  kind = Ind;
  master = 0;
  size = record { blocks = 0; own = 0 };
  over = None;
  shadow = None;
  bitmap = absent;
  area = λ b. no_map;
  memory = no_map;
  next = no_map;
  live_b = false;
}

-- how many chunks it has
abbrev pub chunks_of : SetSeen → ℕ
chunks_of s = seg_count s.size.blocks

-- What is read of a set: how many blocks it has, the state of each chunk, and each block where its
-- chunk has contents of its own.
pub record SetRead : Type 0 where
  pub blocks : ℕ
  pub state : ℕ → ℕ
  pub stands : ℕ → Block

-- a block of a chunk in its place, on one of two disks
abbrev pub block_in : Image → Image → ChunkPlace → ℕ → Block
block_in shadow over (OwnSlot p) i = block_at shadow (64 * p + i % 64)
block_in shadow over (OverSlot p) i = block_at over (1 + (64 * p + i % 64))

-- the same over what both show
abbrev pub read_from : ChunkMap → ℕ → Image → Image → SetRead
read_from chunks blocks shadow over = record {
  blocks = blocks;
  state = chunks.state;
  stands = λ i. block_in shadow over (chunks.place (i / 64)) i;
}

-- block i of the shadow, and block i of the master, over an image of the master's disk
abbrev pub shadow_block : SetRead → Image → ℕ → Block
shadow_block s m i = if s.state (i / 64) == on_master then block_at m i else s.stands i

abbrev pub master_block : SetRead → Image → ℕ → Block
master_block s m i = if s.state (i / 64) == on_shadow then s.stands i else block_at m i

-- where a chunk is the same on both, it is
pub record IsAlike (s : SetRead) (m : Image) : Type 0 where
  pub same : (i : ℕ) → i < s.blocks → s.state (i / 64) ≡ on_both → s.stands i ≡ block_at m i

-- What a step of a set and its master's disk keeps: the blocks of the master's image; and the
-- master's disk changes only where its contents stand on the shadow alone. No chunk comes to stand
-- there alone, and none ceases to be split. Each kind of set gives this.
pub record KeepsMaster (old : SetRead) (m : Image) (new : SetRead) (m_new : Image) : Type 0 where
  pub master : (i : ℕ) → i < old.blocks → master_block new m_new i ≡ master_block old m i
  pub only : (i : ℕ) → i < old.blocks → old.state (i / 64) ≢ on_shadow → block_at m_new i
      ≡ block_at m i
  pub alike : IsAlike old m → IsAlike new m_new
  pub back : (c : ℕ) → c < seg_count old.blocks → new.state c ≡ on_shadow → old.state c ≡ on_shadow
  pub splits : (c : ℕ) → c < seg_count old.blocks → old.state c ≡ split → new.state c ≡ split

-- and it keeps the blocks of the shadow's image
pub record KeepsShadow (old : SetRead) (m : Image) (new : SetRead) (m_new : Image) : Type 0 where
  pub shadow : (i : ℕ) → i < old.blocks → shadow_block new m_new i ≡ shadow_block old m i
