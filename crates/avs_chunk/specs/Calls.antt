-- What each call makes of a set and its master.
use Rattle.std.specs.Prelude.{◌≡◌, ◌≢◌, ◌⊎◌, ℕ, ◌+◌, ◌-◌, ◌/◌, ◌<◌, ◌≤◌, List, length, is_some, Result, OnOk, OnErr, IsOk}
use Rattle.avs_seg.specs.Image.{Image, block_at, put, range, blocks_of, IsMix, ChangesWithin}
use Rattle.avs_seg.specs.Segment.{first_segment, seg_count}
use Rattle.avs_dev.specs.Seen.{Seen, IsTold}
use Rattle.avs_flip.specs.Areas.{live_from, staged}
use Rattle.avs_chunk.specs.States.{on_master, on_shadow, Splits, SplitsFirst, blocks_in, whole_in}
use Rattle.avs_chunk.specs.Disks.{Disks, AreSameDisks, AreSteady, HasCauses, Counts, CountsAtMost}
use Rattle.avs_chunk.specs.ChunkSet.{ChunkSet, disk_of, state_of, disk_state, chunks_of, shadow_image, master_image, IsAlike, IsKnown, HasLabel, IsCleanOnDisk, DiffersInSplit}

-- the disks that a call on a set with its master works on
abbrev pub disks_of : ChunkSet → Seen → Disks
disks_of s m = record { master = m; shadow = disk_of s.shadow; bitmap = s.areas.disk }

-- a chunk does not stand on the shadow alone, neither in memory nor on the disk
pub record IsNotBack (s : ChunkSet) (c : ℕ) : Type 0 where
  pub memory : state_of s c ≢ on_shadow
  pub disk : disk_state s c ≢ on_shadow

-- what no call changes
pub record Stays (old new : ChunkSet) : Type 0 where
  pub kind : new.kind ≡ old.kind
  pub blocks : new.blocks ≡ old.blocks
  pub there : is_some new.shadow ≡ is_some old.shadow
  pub first : new.areas.first ≡ old.areas.first
  pub len : new.areas.len ≡ old.areas.len
  pub live_b : new.areas.live_b ≡ old.areas.live_b
  pub staged : IsTold old.areas.disk → staged new.areas ≡ staged old.areas
  pub label : IsTold old.areas.disk → HasLabel old → HasLabel new
  pub not_back : IsTold old.areas.disk → (c : ℕ) → c < chunks_of old → IsNotBack old c → IsNotBack new c
  pub clean : IsTold old.areas.disk → IsCleanOnDisk old → IsCleanOnDisk new

-- both images are as before, and what is the same on both disks stays so
pub record KeepsImages (old : ChunkSet) (img : Image) (new : ChunkSet) (img_new : Image) : Type 0 where
  pub shadow : shadow_image new img_new ≡ shadow_image old img
  pub master : master_image new img_new ≡ master_image old img
  pub alike : IsAlike old img → IsAlike new img_new

-- no block changes but those of chunks from `first` up to `end` that were in a state, and none behind the blocks of the set
pub record ChangesIn (old : ChunkSet) (first end state : ℕ) (img new : Image) : Type 0 where
  pub same_length : length new ≡ length img
  pub outside : (i : ℕ) → (i / 64 < first) ⊎ ((end ≤ i / 64) ⊎ (state_of old (i / 64) ≢ state)) → block_at new i ≡ block_at img i
  pub behind : (i : ℕ) → old.blocks ≤ i → block_at new i ≡ block_at img i

-- the block of the disk with the states of a chunk
abbrev pub state_block : ChunkSet → ℕ → ℕ
state_block s c = live_from s.areas + c / 2048

-- the blocks written where the chunks from `first` up to `end` are saved, each once
abbrev pub to_master : ChunkSet → ℕ → ℕ → ℕ
to_master s first end = blocks_in (state_of s) s.blocks on_shadow first (end - first)

abbrev pub to_shadow : ChunkSet → ℕ → ℕ → ℕ
to_shadow s first end = blocks_in (state_of s) s.blocks on_master first (end - first)

abbrev pub to_bitmap : ChunkSet → ℕ → ℕ → ℕ
to_bitmap s first end = whole_in (state_of s) first (end - first)

-- The chunks from `first` up to `end` are saved, one after another: where the contents stand on one disk alone
-- they are copied to the other, and then the chunk becomes split.
pub record Saves {T E : Type 0} (old : ChunkSet) (m : Seen) (first end : ℕ) (result : Result T E) (new : ChunkSet) (m_new : Seen) : Type 0 where
  pub stays : Stays old new
  pub disks : AreSameDisks (disks_of old m) (disks_of new m_new)
  pub causes : HasCauses (disks_of old m) result (disks_of new m_new)
  pub images : IsKnown old → IsTold m → KeepsImages old m.image new m_new.image
  pub stands : (img : Image) → DiffersInSplit new m_new.image img → shadow_image new img ≡ shadow_image new m_new.image
  pub split : IsKnown old → IsTold m → OnOk result (Splits (disk_state old) (disk_state new) (chunks_of old) first end)
  pub known : IsKnown old → IsTold m → OnOk result (IsKnown new)
  pub memory : OnOk result (Splits (state_of old) (state_of new) (chunks_of old) first end)
  pub stopped : IsKnown old → IsTold m → OnErr result (SplitsFirst (disk_state old) (disk_state new) (chunks_of old) first end)
  pub memory_stopped : OnErr result (SplitsFirst (state_of old) (state_of new) (chunks_of old) first end)
  pub master_within : IsTold m → ChangesIn old first end on_shadow m.image m_new.image
  pub shadow_within : IsTold (disk_of old.shadow) → ChangesIn old first end on_master (disk_of old.shadow).image (disk_of new.shadow).image
  pub bitmap_within : IsTold old.areas.disk → ChangesWithin (state_block old first) (state_block old (end + 2047) - state_block old first) old.areas.disk.image new.areas.disk.image
  pub counts : OnOk result (Counts (disks_of old m) (to_master old first end) (to_shadow old first end) (to_bitmap old first end) (disks_of new m_new))
  pub counts_stopped : OnErr result (CountsAtMost (disks_of old m) (to_master old first end) (to_shadow old first end) (to_bitmap old first end) (disks_of new m_new))

-- blocks of the shadow are read, and nothing changes but the counts of faults
pub record ReadsShadow {T E : Type 0} (old : ChunkSet) (m : Seen) (at : ℕ) (out : List ℕ) (result : Result T E) (new : ChunkSet) (m_new : Seen) : Type 0 where
  pub rest : new ≡ record old { shadow = new.shadow }
  pub there : is_some new.shadow ≡ is_some old.shadow
  pub shadow : disk_of new.shadow ≡ record (disk_of old.shadow) { faults = (disk_of new.shadow).faults }
  pub master : m_new ≡ record m { faults = m_new.faults }
  pub disks : AreSameDisks (disks_of old m) (disks_of new m_new)
  pub causes : HasCauses (disks_of old m) result (disks_of new m_new)
  pub sure : AreSteady (disks_of old m) → IsOk result
  pub shows : IsKnown old → IsTold m → OnOk result (blocks_of out ≡ range (shadow_image old m.image) at (length out / 512))

-- the end of the chunks that a range touches
abbrev pub chunks_end : ℕ → ℕ → ℕ
chunks_end at len = seg_count (at + len)

-- What a write to the shadow leaves that stopped: some chunks of its range were saved, from the first on, and
-- only behind the last one the range is written, each of its blocks or not.
pub record StopsWrite (old : ChunkSet) (master : Image) (at : ℕ) (bs : Image) (new : ChunkSet) (master_new : Image) : Type 0 where
  pub saved : SplitsFirst (disk_state old) (disk_state new) (chunks_of old) (first_segment at) (chunks_end at (length bs))
  pub before : saved.upto < chunks_end at (length bs) → shadow_image new master_new ≡ shadow_image old master
  pub mix : IsMix (shadow_image old master) at bs (shadow_image new master_new)

-- no block changes but those of the range, and those of its chunks that were in a state, and none behind the blocks of the set
pub record ChangesRange (old : ChunkSet) (at len state : ℕ) (img new : Image) : Type 0 where
  pub same_length : length new ≡ length img
  pub outside : (i : ℕ) → (i < at) ⊎ (at + len ≤ i) → (i / 64 < first_segment at) ⊎ ((chunks_end at len ≤ i / 64) ⊎ (state_of old (i / 64) ≢ state)) → block_at new i ≡ block_at img i
  pub behind : (i : ℕ) → old.blocks ≤ i → block_at new i ≡ block_at img i

-- the chunks of a range are saved, and last the range is written on the shadow's disk
pub record WritesShadow {T E : Type 0} (old : ChunkSet) (m : Seen) (at : ℕ) (bytes : List ℕ) (result : Result T E) (new : ChunkSet) (m_new : Seen) : Type 0 where
  pub stays : Stays old new
  pub disks : AreSameDisks (disks_of old m) (disks_of new m_new)
  pub causes : HasCauses (disks_of old m) result (disks_of new m_new)
  pub master : IsKnown old → IsTold m → master_image new m_new.image ≡ master_image old m.image
  pub alike : IsKnown old → IsTold m → IsAlike old m.image → IsAlike new m_new.image
  pub done : IsKnown old → IsTold m → OnOk result (shadow_image new m_new.image ≡ put (shadow_image old m.image) at (blocks_of bytes))
  pub split : IsKnown old → IsTold m → OnOk result (Splits (disk_state old) (disk_state new) (chunks_of old) (first_segment at) (chunks_end at (length bytes / 512)))
  pub known : IsKnown old → IsTold m → OnOk result (IsKnown new)
  pub memory : OnOk result (Splits (state_of old) (state_of new) (chunks_of old) (first_segment at) (chunks_end at (length bytes / 512)))
  pub stopped : IsKnown old → IsTold m → OnErr result (StopsWrite old m.image at (blocks_of bytes) new m_new.image)
  pub memory_stopped : OnErr result (SplitsFirst (state_of old) (state_of new) (chunks_of old) (first_segment at) (chunks_end at (length bytes / 512)))
  pub master_within : IsTold m → ChangesIn old (first_segment at) (chunks_end at (length bytes / 512)) on_shadow m.image m_new.image
  pub shadow_within : IsTold (disk_of old.shadow) → ChangesRange old at (length bytes / 512) on_master (disk_of old.shadow).image (disk_of new.shadow).image
  pub bitmap_within : IsTold old.areas.disk → ChangesWithin (state_block old (first_segment at)) (state_block old (chunks_end at (length bytes / 512) + 2047) - state_block old (first_segment at)) old.areas.disk.image new.areas.disk.image
  pub counts : OnOk result (Counts (disks_of old m) (to_master old (first_segment at) (chunks_end at (length bytes / 512)))
      (to_shadow old (first_segment at) (chunks_end at (length bytes / 512)) + length bytes / 512) (to_bitmap old (first_segment at) (chunks_end at (length bytes / 512))) (disks_of new m_new))
  pub counts_stopped : OnErr result (CountsAtMost (disks_of old m) (to_master old (first_segment at) (chunks_end at (length bytes / 512)))
      (to_shadow old (first_segment at) (chunks_end at (length bytes / 512))) (to_bitmap old (first_segment at) (chunks_end at (length bytes / 512))) (disks_of new m_new))
