-- What each call on the contents makes of a set, its master and its overflow volume. A set that is not compact leaves the overflow volume
-- as it is.
use Rattle.std.specs.Prelude.{◌≡◌, ◌≢◌, ◌⊎◌, ℕ, ◌+◌, ◌/◌, ◌<◌, ◌≤◌, not, true, false, IsTrue, is_some, List, length, Option, None, Some, Result, OnOk, OnErr, IfOk, IfErr, IsOk}
use Rattle.avs_seg.specs.Image.{block_at, blocks_of, range}
use Rattle.avs_seg.specs.Segment.{seg_count, seg_len}
use Rattle.avs_dev.specs.Seen.{Seen, IsTold, shown}
use Rattle.avs_dev.specs.Devices.{Adds, raised}
use Rattle.avs_model.specs.ShadowSets.{is_independent, is_compact}
use Rattle.avs_chunks.specs.Copying.{FindsDue}
use Rattle.avs_chunks.specs.Disks.{ChunkDisk, Master, Shadow, Bitmap, settle_work}
use Rattle.avs_compact.specs.declared.fault.CompactFault.{CompactFault}
use Rattle.avs_compact.specs.declared.fault.CompactFault.TheVariants as fault
use Rattle.avs_sets.specs.Says.{BlockSays}
use Rattle.avs_sets.specs.Sets.{on_master, on_both, split, on_shadow, SetSeen, ChunkMap, chunks_of, shadow_disk}
use Rattle.avs_sets.specs.Meaning.{shadow_over}
use Rattle.avs_sets.specs.Whole.{IsSettled}
use Rattle.avs_sets.specs.Steps.{SetSpot, OfMaster, OfShadow, OfBitmap, OfOver, set_disks, read_over, IsKnown, ShowsSame, Settles, Splits, SavesRange, PutsShadow}
use Rattle.avs_compact.specs.CompactSet.{CompactSet, need_of, room_of}
use Rattle.avs_held.specs.declared.held.Seat.{Seat}
use Rattle.avs_held.specs.Held.{compact_set}
use Rattle.avs_held.specs.Rooms.{Mine, OnDisks, IsOwned, KeepsOwned, lacking}

-- ---- what a call asks of a set

-- A chunk can be settled: it can become split where it isn't, and the same on both where its contents stand on one disk alone, of a set
-- that is not independent only on the shadow's.
pub record MaySettle (s : SetSeen) (chunk target : ℕ) : Type 0 where
  pub there : chunk < chunks_of s
  pub targets : (target ≡ split) ⊎ (target ≡ on_both)
  pub whole : s.memory.state chunk ≢ split
  pub copies : target ≡ on_both → (s.memory.state chunk ≡ on_master) ⊎ (s.memory.state chunk ≡ on_shadow)
  pub left : target ≡ on_both → is_independent s.kind ≢ true → s.memory.state chunk ≡ on_shadow

-- chunks can be saved: the shadow's disk is there, or none of them needs it
abbrev pub CanSave : SetSeen → Type 0
CanSave s = IsTrue (is_some s.shadow) ⊎ IsSettled s

-- the chunks of a range of so many blocks are split
pub record IsSplit (s : SetSeen) (at len : ℕ) : Type 0 where
  pub each : (c : ℕ) → at / 64 ≤ c → c < seg_count (at + len) → s.memory.state c ≡ split

-- ---- what a call makes of it

-- the disks of a set
abbrev pub spots_of : OnDisks → SetSpot → Seen
spots_of s = set_disks s.master s.set s.over.disk

-- the blocks that a call writes on each disk of a set that is not compact: none on an overflow volume
abbrev pub on_spot : (ChunkDisk → ℕ) → SetSpot → ℕ
on_spot work OfMaster = work Master
on_spot work OfShadow = work Shadow
on_spot work OfBitmap = work Bitmap
on_spot work OfOver = 0

abbrev pub AddsTo : {T E : Type 0} → OnDisks → (ChunkDisk → ℕ) → Result T E → OnDisks → Type 0
AddsTo old work result new = is_compact old.set.kind ≡ false → Adds (spots_of old) (on_spot work) result (spots_of new)

-- Of the bitmap's disk no call on the contents changes the label, or what is staged.
pub record KeepsBitmap (old new : SetSeen) : Type 0 where
  pub label : block_at (shown new.bitmap) 0 ≡ block_at (shown old.bitmap) 0
  pub staged : new.area (not old.live_b) ≡ old.area (not old.live_b)

-- what each call on the contents keeps of a set beside: where none of its chunks stands on one disk alone, none does then
pub record KeepsHeld (old new : OnDisks) : Type 0 where
  pub bitmap : IsTold old.set.bitmap → KeepsBitmap old.set new.set
  pub next : new.set.next ≡ old.set.next
  pub there : is_some new.set.shadow ≡ is_some old.set.shadow
  pub settled : IsSettled old.set → IsSettled new.set
  pub owned : KeepsOwned old new
  pub over : is_compact old.set.kind ≡ false → new.over ≡ old.over

-- a state in memory is now another
pub record Remembers (old new : ChunkMap) (chunk state : ℕ) : Type 0 where
  pub now : new.state chunk ≡ state
  pub others : (c : ℕ) → c ≢ chunk → new.state c ≡ old.state c

-- a chunk is settled, and at Ok the memory has its state
pub record SettlesSet {T E : Type 0} (old : OnDisks) (chunk target : ℕ) (result : Result T E) (new : OnDisks) : Type 0 where
  pub step : IsOwned old → (says : BlockSays) → Settles says (Mine old.set new.over) old.set old.master old.over.disk chunk target result new.set new.master new.over.disk
  pub keeps : KeepsHeld old new
  pub memory : OnOk result (Remembers old.set.memory new.set.memory chunk target)
  pub adds : AddsTo old (settle_work (old.set.memory.state chunk) (seg_len chunk old.set.size.blocks)) result new

-- a call that does nothing
pub record DoesNothing {T E : Type 0} (old : OnDisks) (result : Result T E) (new : OnDisks) : Type 0 where
  pub ok : IsOk result
  pub same : new ≡ old

-- The least chunk that is to be copied is settled as the same on both, and without one nothing is done.
abbrev pub CopiesDue : {E : Type 0} → OnDisks → Option ℕ → Result (Option ℕ) E → OnDisks → Type 0
CopiesDue old None result new = DoesNothing old result new × IfOk result (λ copied. copied ≡ None)
CopiesDue old (Some chunk) result new = SettlesSet old chunk on_both result new × IfOk result (λ copied. copied ≡ Some chunk)

pub record CopiesOne {E : Type 0} (old : OnDisks) (result : Result (Option ℕ) E) (new : OnDisks) : Type 0 where
  pub due : Option ℕ
  pub finds : FindsDue old.set.memory.state (is_independent old.set.kind) (chunks_of old.set) due
  pub copies : CopiesDue old due result new

-- ---- chunks that are saved

-- chunks are saved one after another, from `first` up to `end`, and at Ok the memory has them split
pub record SavesChunks {T E : Type 0} (old : OnDisks) (first end : ℕ) (result : Result T E) (new : OnDisks) : Type 0 where
  pub step : IsOwned old → (says : BlockSays) → SavesRange says (Mine old.set new.over) old.set old.master old.over.disk first end result new.set new.master new.over.disk
  pub keeps : KeepsHeld old new
  pub memory : OnOk result (Splits old.set.memory.state new.set.memory.state (chunks_of old.set) first end)

-- nothing is done, and the answer tells what the set would need and what it has room for
pub record GoesOffline {T : Type 0} (old : OnDisks) (need slots : ℕ) (result : Result T CompactFault) (new : OnDisks) : Type 0 where
  pub told : IfErr result (λ e. e ≡ fault.Offline need slots)
  pub refused : OnOk result ⊥
  pub same : new ≡ old

-- So many chunks from one on are saved. That is refused exactly where a compact set would need more slots than it has room for.
pub record SavesSet {T : Type 0} (seat : Seat) (s : CompactSet) (old : OnDisks) (first count : ℕ) (result : Result T CompactFault) (new : OnDisks) : Type 0 where
  pub refuses : room_of s old.over < need_of s + lacking (compact_set seat s) first count
      → GoesOffline old (need_of s + lacking (compact_set seat s) first count) (room_of s old.over) result new
  pub saves : need_of s + lacking (compact_set seat s) first count ≤ room_of s old.over → SavesChunks old first (first + count) result new
  pub cause : need_of s + lacking (compact_set seat s) first count ≤ room_of s old.over → IfErr result (λ e. e ≡ fault.Failed)

-- ---- the shadow's blocks

-- nothing changes but counts of faults
pub record ReadsAlone (old new : OnDisks) : Type 0 where
  pub rest : new.set ≡ record old.set { shadow = new.set.shadow }
  pub there : is_some new.set.shadow ≡ is_some old.set.shadow
  pub shadow : shadow_disk new.set ≡ record (shadow_disk old.set) { faults = (shadow_disk new.set).faults }
  pub master : new.master ≡ record old.master { faults = new.master.faults }
  pub over : new.over ≡ record old.over { disk = record old.over.disk { faults = new.over.disk.faults } }

-- Blocks of the shadow are read. Where that fails nothing changes but the count of faults of one disk.
pub record ReadsShadow {T E : Type 0} (old : OnDisks) (at : ℕ) (out : List ℕ) (result : Result T E) (new : OnDisks) : Type 0 where
  pub step : IsOwned old → (says : BlockSays) → ShowsSame says (Mine old.set new.over) old.set old.master old.over.disk result new.set new.master new.over.disk
  pub same : OnOk result (new ≡ old)
  pub reads : ReadsAlone old new
  pub sure : IsTrue old.master.steady → IsTrue (shadow_disk old.set).steady → IsTrue old.over.disk.steady → IsOk result
  pub shows : (says : BlockSays) → IsKnown says old.set old.master old.over.disk
      → OnOk result (blocks_of out ≡ range (shadow_over (read_over says old.set old.over.disk) (shown old.master)) at (length out / 512))

-- blocks whose chunks are split are written where these stand, and nothing else changes
pub record WritesShadow {T E : Type 0} (old : OnDisks) (at : ℕ) (bytes : List ℕ) (result : Result T E) (new : OnDisks) : Type 0 where
  pub step : IsOwned old → (says : BlockSays) → PutsShadow says (Mine old.set new.over) old.set old.master old.over.disk at (blocks_of bytes) result new.set new.master new.over.disk
  pub rest : new.set ≡ record old.set { shadow = new.set.shadow }
  pub keeps : KeepsHeld old new
  pub written : is_compact old.set.kind ≡ false → OnOk result ((shadow_disk new.set).written ≡ raised (shadow_disk old.set).written (length bytes / 512))
  pub unwritten : is_compact old.set.kind ≡ false → OnErr result ((shadow_disk new.set).written ≡ (shadow_disk old.set).written)
