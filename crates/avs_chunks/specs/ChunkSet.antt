-- A shadow set: its disks, and the two images that they stand for over an image of the master's disk.
use Rattle.std.specs.Prelude.{◌≡◌, ◌⊎◌, ℕ, ◌+◌, ◌*◌, ◌/◌, ◌<◌, ◌≤◌, ◌^◌, ◌==◌, true, false, IsTrue, if◌then◌else◌, List, [], length, Option, None, Some, is_some}
use Rattle.avs_seg.specs.Image.{Block, Image, block_at, tabulate}
use Rattle.avs_seg.specs.Segment.{seg_count}
use Rattle.avs_dev.specs.Seen.{Seen, IsTold}
use Rattle.avs_flip.specs.Areas.{Areas, live, staged}
use Rattle.avs_code.specs.Label.{IsLabel, label_for}
use Rattle.avs_code.specs.declared.labels.Label.{Label}
use Rattle.avs_code.specs.declared.labels.LabelUse.{LabelUse}
use Rattle.avs_model.specs.declared.shadow.Kind.{Kind}
use Rattle.avs_model.specs.declared.shadow.Kind.TheVariants.{Ind}
use Rattle.avs_chunks.specs.States.{on_master, on_both, split, on_shadow, state_in, state_on, area_len}

-- a set: its kind, the shadow's disk where it is there, the areas of the states on the bitmap's disk,
-- the states in memory, those that are staged, and how many blocks it has
pub record ChunkSet : Type 0 where
  pub kind : Kind
  pub shadow : Option Seen
  pub areas : Areas
  pub memory : List ℕ
  pub next : List ℕ
  pub blocks : ℕ

-- a disk that is not there: it has no block and never fails
abbrev pub absent : Seen
absent = record { image = []; size = 0; faults = 0; written = 0; steady = true; armed = false; tear = None; arms = false }

-- the disk, where it is there
abbrev pub disk_of : Option Seen → Seen
disk_of None = absent
disk_of (Some d) = d

-- the state of a chunk in memory
abbrev pub state_of : ChunkSet → ℕ → ℕ
state_of s c = state_in s.memory c

-- the state of a chunk on the disk
abbrev pub disk_state : ChunkSet → ℕ → ℕ
disk_state s c = state_on (live s.areas) c

-- the state of a chunk that is staged, in memory and on the disk
abbrev pub next_of : ChunkSet → ℕ → ℕ
next_of s c = state_in s.next c

abbrev pub staged_state : ChunkSet → ℕ → ℕ
staged_state s c = state_on (staged s.areas) c

-- how many chunks it has
abbrev pub chunks_of : ChunkSet → ℕ
chunks_of s = seg_count s.blocks

-- the image of a shadow, by the states: a chunk whose contents stand on the master alone is the master's
unfoldable pub shadow_by : ℕ → Image → Image → Image → Image
shadow_by blocks area shadow master = tabulate blocks (λ i. if state_on area (i / 64) == on_master then block_at master i else block_at shadow i)

-- the image of its master, by the states: a chunk whose contents stand on the shadow alone is the shadow's
unfoldable pub master_by : ℕ → Image → Image → Image → Image
master_by blocks area shadow master = tabulate blocks (λ i. if state_on area (i / 64) == on_shadow then block_at shadow i else block_at master i)

-- the shadow's image over an image of the master's disk
abbrev pub shadow_image : ChunkSet → Image → Image
shadow_image s master = shadow_by s.blocks (live s.areas) (disk_of s.shadow).image master

-- the master's image over an image of its disk
abbrev pub master_image : ChunkSet → Image → Image
master_image s master = master_by s.blocks (live s.areas) (disk_of s.shadow).image master

-- a block of the shadow, and a block of the master
abbrev pub shadow_block : ChunkSet → Image → ℕ → Block
shadow_block s master i = if disk_state s (i / 64) == on_master then block_at master i else block_at (disk_of s.shadow).image i

abbrev pub master_block : ChunkSet → Image → ℕ → Block
master_block s master i = if disk_state s (i / 64) == on_shadow then block_at (disk_of s.shadow).image i else block_at master i

-- where a chunk is the same on both, it is
pub record IsAlike (s : ChunkSet) (master : Image) : Type 0 where
  pub same : (i : ℕ) → i < s.blocks → disk_state s (i / 64) ≡ on_both → block_at (disk_of s.shadow).image i ≡ block_at master i

-- the memory repeats the states on the disk
pub record IsInStep (s : ChunkSet) : Type 0 where
  pub each : (c : ℕ) → c < chunks_of s → state_of s c ≡ disk_state s c

-- the disks of a set tell their blocks, and the memory is in step
pub record IsKnown (s : ChunkSet) : Type 0 where
  pub shadow : IsTold (disk_of s.shadow)
  pub bitmap : IsTold s.areas.disk
  pub step : IsInStep s

-- what a bitmap serves as that has the states of a set of so many blocks
abbrev pub shadow_use : ℕ → LabelUse
shadow_use blocks = record { kind = 5; blocks = blocks; segments = seg_count blocks }

-- its label
abbrev pub shadow_label : ℕ → Label
shadow_label blocks = label_for (shadow_use blocks) 0

-- the bitmap's disk has the label of the set
pub record HasLabel (s : ChunkSet) : Type 0 where
  pub label : IsLabel (block_at s.areas.disk.image 0) (shadow_label s.blocks)

-- the states behind the last chunk are zeros on the disk
pub record IsCleanOnDisk (s : ChunkSet) : Type 0 where
  pub each : (c : ℕ) → chunks_of s ≤ c → disk_state s c ≡ on_master

-- no chunk of an independent set stands on one of the disks alone
pub record IsSettled (s : ChunkSet) : Type 0 where
  pub kind : s.kind ≡ Ind
  pub settled : (c : ℕ) → c < chunks_of s → (state_of s c ≡ on_both) ⊎ (state_of s c ≡ split)

-- chunks can be saved: the shadow's disk is there, or none of them needs it
abbrev pub CanSave : ChunkSet → Type 0
CanSave s = IsTrue (is_some s.shadow) ⊎ IsSettled s

-- the blocks of a range stand on one disk: each chunk of it stands on the master alone, or none does
pub record IsOnePlace (s : ChunkSet) (at len : ℕ) : Type 0 where
  pub same : (i : ℕ) → i < len → (state_of s ((at + i) / 64) == on_master) ≡ (state_of s (at / 64) == on_master)

-- the states behind the last chunk are zeros
pub record IsClean (memory : List ℕ) (chunks : ℕ) : Type 0 where
  pub each : (c : ℕ) → chunks ≤ c → state_in memory c ≡ on_master

-- both areas of a set of so many blocks lie on the disk, behind the label
pub record AreLaidOut (areas : Areas) (blocks : ℕ) : Type 0 where
  pub first : areas.first ≡ 1
  pub len : areas.len ≡ area_len (seg_count blocks)
  pub fits : areas.first + 2 * areas.len ≤ areas.disk.size

-- bytes have the states of so many chunks, as they lie in an area of so many blocks
pub record HaveStates (bytes : List ℕ) (len chunks : ℕ) : Type 0 where
  pub long : length bytes ≡ 512 * len
  pub clean : IsClean bytes chunks

-- what a set keeps, whatever fails
pub record IsKept (shadow : Option Seen) (areas : Areas) (memory next : List ℕ) (blocks : ℕ) : Type 0 where
  pub room : (d : Seen) → shadow ≡ Some d → blocks ≤ d.size
  pub small : blocks < 2 ^ 32
  pub laid : AreLaidOut areas blocks
  pub live : HaveStates memory areas.len (seg_count blocks)
  pub staged : HaveStates next areas.len (seg_count blocks)
