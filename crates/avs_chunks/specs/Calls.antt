-- What each call on the contents makes of a set and its master.
use Rattle.std.specs.Prelude.{◌≡◌, ◌≢◌, ◌⊎◌, ℕ, ◌+◌, ◌/◌, ◌<◌, ◌≤◌, IsTrue, List, length, is_some, Result, OnOk, OnErr, IsOk}
use Rattle.avs_seg.specs.Image.{Image, block_at, put, blocks_of, range, IsMix}
use Rattle.avs_seg.specs.Segment.{seg_len, seg_count, first_segment}
use Rattle.avs_dev.specs.Seen.{Seen, IsTold, Writes}
use Rattle.avs_dev.specs.Devices.{AllGoOn}
use Rattle.avs_flip.specs.Areas.{staged}
use Rattle.avs_model.specs.declared.shadow.Kind.TheVariants.{Ind}
use Rattle.avs_chunks.specs.States.{on_master, on_both, split, on_shadow, SetsOne, AreSame}
use Rattle.avs_chunks.specs.ChunkSet.{ChunkSet, disk_of, state_of, disk_state, chunks_of, shadow_block, master_block, shadow_image, master_image, IsAlike, IsKnown, IsCleanOnDisk}
use Rattle.avs_chunks.specs.Disks.{disk_at, settle_work, copy_work, Adds}

-- what no call on the contents changes
pub record IsSameShape (old new : ChunkSet) : Type 0 where
  pub kind : new.kind ≡ old.kind
  pub blocks : new.blocks ≡ old.blocks
  pub there : is_some new.shadow ≡ is_some old.shadow
  pub first : new.areas.first ≡ old.areas.first
  pub len : new.areas.len ≡ old.areas.len
  pub live_b : new.areas.live_b ≡ old.areas.live_b
  pub next : new.next ≡ old.next

-- Of the bitmap's disk no call on the contents changes the label, or what is staged. What is behind the last chunk stays zeros.
pub record KeepsBitmap (old new : ChunkSet) : Type 0 where
  pub label : block_at new.areas.disk.image 0 ≡ block_at old.areas.disk.image 0
  pub staged : staged new.areas ≡ staged old.areas
  pub clean : IsCleanOnDisk old → IsCleanOnDisk new

-- What each call on the contents keeps of what a set and its master stand for: the blocks of both. The master's disk changes
-- only where the contents stand on the shadow alone; no chunk comes to stand there alone, and none ceases to be split.
pub record KeepsBlocks (old : ChunkSet) (m : Image) (new : ChunkSet) (m_new : Image) : Type 0 where
  pub shadow : (i : ℕ) → i < old.blocks → shadow_block new m_new i ≡ shadow_block old m i
  pub master : (i : ℕ) → i < old.blocks → master_block new m_new i ≡ master_block old m i
  pub only : (i : ℕ) → i < old.blocks → disk_state old (i / 64) ≢ on_shadow → block_at m_new i ≡ block_at m i
  pub alike : IsAlike old m → IsAlike new m_new
  pub back : (c : ℕ) → c < chunks_of old → disk_state new c ≡ on_shadow → disk_state old c ≡ on_shadow
  pub split : (c : ℕ) → c < chunks_of old → disk_state old c ≡ split → disk_state new c ≡ split

-- the blocks of a larger shadow behind those of the set stay
pub record KeepsBehind (old new : ChunkSet) : Type 0 where
  pub behind : (i : ℕ) → old.blocks ≤ i → block_at (disk_of new.shadow).image i ≡ block_at (disk_of old.shadow).image i

-- what each call on the contents of a set and its master keeps, at both exits
pub record KeepsSet {T E : Type 0} (old : ChunkSet) (m : Seen) (result : Result T E) (new : ChunkSet) (m_new : Seen) : Type 0 where
  pub shape : IsSameShape old new
  pub goes : AllGoOn (disk_at old m) result (disk_at new m_new)
  pub bitmap : IsTold old.areas.disk → KeepsBitmap old new
  pub behind : IsTold (disk_of old.shadow) → KeepsBehind old new
  pub blocks : IsKnown old → IsTold m → KeepsBlocks old m.image new m_new.image

-- a state in memory is now another
pub record Remembers (old new : ChunkSet) (chunk state : ℕ) : Type 0 where
  pub now : state_of new chunk ≡ state
  pub others : (c : ℕ) → c ≢ chunk → state_of new c ≡ state_of old c

-- A chunk can be settled: it can become split where it isn't, and the same on both where its contents stand on one disk
-- alone, of a set that is not independent only on the shadow's.
pub record MaySettle (s : ChunkSet) (chunk target : ℕ) : Type 0 where
  pub there : chunk < chunks_of s
  pub targets : (target ≡ split) ⊎ (target ≡ on_both)
  pub whole : state_of s chunk ≢ split
  pub copies : target ≡ on_both → (state_of s chunk ≡ on_master) ⊎ (state_of s chunk ≡ on_shadow)
  pub left : target ≡ on_both → s.kind ≢ Ind → state_of s chunk ≡ on_shadow

-- The contents of a chunk are copied where they stand on one disk alone, and then its state is the target. Where that fails
-- the states are as before, or that chunk's is the target.
pub record Settles {T E : Type 0} (old : ChunkSet) (m : Seen) (chunk target : ℕ) (result : Result T E) (new : ChunkSet) (m_new : Seen) : Type 0 where
  pub keeps : KeepsSet old m result new m_new
  pub done : IsKnown old → OnOk result (SetsOne (disk_state old) (disk_state new) (chunks_of old) chunk target)
  pub stopped : IsKnown old → OnErr result (AreSame (disk_state old) (disk_state new) (chunks_of old) ⊎ SetsOne (disk_state old) (disk_state new) (chunks_of old) chunk target)
  pub known : IsKnown old → OnOk result (IsKnown new)
  pub memory : OnOk result (Remembers old new chunk target)
  pub unset : OnErr result (new.memory ≡ old.memory)
  pub adds : Adds (disk_at old m) (settle_work (state_of old chunk) (seg_len chunk old.blocks)) result (disk_at new m_new)

-- a call that does nothing
pub record DoesNothing {T E : Type 0} (old : ChunkSet) (m : Seen) (result : Result T E) (new : ChunkSet) (m_new : Seen) : Type 0 where
  pub ok : IsOk result
  pub set : new ≡ old
  pub master : m_new ≡ m

-- a chunk is settled as split, and nothing is done where it is split
pub record Saves {T E : Type 0} (old : ChunkSet) (m : Seen) (chunk : ℕ) (result : Result T E) (new : ChunkSet) (m_new : Seen) : Type 0 where
  pub settles : state_of old chunk ≢ split → Settles old m chunk split result new m_new
  pub nothing : state_of old chunk ≡ split → DoesNothing old m result new m_new

-- Blocks of the shadow are read. Where that fails nothing changes but the count of faults of one disk.
pub record ReadsShadow {T E : Type 0} (old : ChunkSet) (m : Seen) (at : ℕ) (out : List ℕ) (result : Result T E) (new : ChunkSet) (m_new : Seen) : Type 0 where
  pub rest : new ≡ record old { shadow = new.shadow }
  pub there : is_some new.shadow ≡ is_some old.shadow
  pub goes : AllGoOn (disk_at old m) result (disk_at new m_new)
  pub same : OnOk result ((new ≡ old) × (m_new ≡ m))
  pub shadow : disk_of new.shadow ≡ record (disk_of old.shadow) { faults = (disk_of new.shadow).faults }
  pub master : m_new ≡ record m { faults = m_new.faults }
  pub sure : IsTrue m.steady → IsTrue (disk_of old.shadow).steady → IsOk result
  pub shows : IsKnown old → IsTold m → OnOk result (blocks_of out ≡ range (shadow_image old m.image) at (length out / 512))

-- the chunks of a range are split, by the memory
pub record AreSplit (s : ChunkSet) (at len : ℕ) : Type 0 where
  pub each : (c : ℕ) → first_segment at ≤ c → c < seg_count (at + len) → state_of s c ≡ split

-- Blocks put on the shadow's disk in split chunks are put into the shadow's image, over any image of the master's disk, and the
-- master's image stays.
pub record PutsImage {T E : Type 0} (old : ChunkSet) (m : Image) (at : ℕ) (bs : Image) (result : Result T E) (new : ChunkSet) : Type 0 where
  pub master : master_image new m ≡ master_image old m
  pub alike : IsAlike old m → IsAlike new m
  pub done : OnOk result (shadow_image new m ≡ put (shadow_image old m) at bs)
  pub stopped : OnErr result (IsMix (shadow_image old m) at bs (shadow_image new m))

-- Blocks are written on the shadow's disk, and nothing else changes. Where their chunks are split, both images are told.
pub record PutsShadow {T E : Type 0} (old : ChunkSet) (at : ℕ) (bytes : List ℕ) (result : Result T E) (new : ChunkSet) : Type 0 where
  pub rest : new ≡ record old { shadow = new.shadow }
  pub there : is_some new.shadow ≡ is_some old.shadow
  pub writes : Writes (disk_of old.shadow) at bytes result (disk_of new.shadow)
  pub behind : IsTold (disk_of old.shadow) → KeepsBehind old new
  pub known : IsKnown old → IsKnown new
  pub seen : IsKnown old → AreSplit old at (length bytes / 512) → (m : Image) → PutsImage old m at (blocks_of bytes) result new

-- A chunk that stands on the master alone is copied to the shadow, and its state stays: nothing that is seen changes.
pub record CopiesAhead {T E : Type 0} (old : ChunkSet) (m : Seen) (chunk : ℕ) (result : Result T E) (new : ChunkSet) (m_new : Seen) : Type 0 where
  pub is : new ≡ record old { shadow = new.shadow }
  pub keeps : KeepsSet old m result new m_new
  pub master : m_new.image ≡ m.image
  pub outside : IsTold (disk_of old.shadow) → (i : ℕ) → i / 64 ≢ chunk → block_at (disk_of new.shadow).image i ≡ block_at (disk_of old.shadow).image i
  pub copied : IsTold m → IsTold (disk_of old.shadow) → OnOk result ((i : ℕ) → i < old.blocks → i / 64 ≡ chunk → block_at (disk_of new.shadow).image i ≡ block_at m.image i)
  pub adds : Adds (disk_at old m) (copy_work on_master (seg_len chunk old.blocks)) result (disk_at new m_new)
