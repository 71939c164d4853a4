-- An update of a set: chunks are copied ahead and states are staged, which changes nothing that is seen, and once the owner has committed
-- that they are the live ones.
use Rattle.std.specs.Prelude.{◌≡◌, ◌≢◌, ◌⊎◌, ℕ, ◌+◌, ◌-◌, ◌*◌, ◌/◌, ◌<◌, ◌≤◌, ◌==◌, ◌&&◌, nat_lt, min, Bool, true, false, not, if◌then◌else◌, List, Result, OnOk, OnErr}
use Rattle.avs_seg.specs.Image.{Block, block_at}
use Rattle.avs_seg.specs.Segment.{seg_len}
use Rattle.avs_dev.specs.Seen.{Seen, IsTold, shown}
use Rattle.avs_dev.specs.Devices.{raised}
use Rattle.avs_model.specs.ShadowSets.{is_compact}
use Rattle.avs_chunks.specs.States.{sum_from}
use Rattle.avs_chunks.specs.Disks.{ChunkDisk, copy_work}
use Rattle.avs_chunks.specs.Staging.{AreSetTo, told_by}
use Rattle.avs_over.specs.Over.{OverSet}
use Rattle.avs_sets.specs.Says.{BlockSays}
use Rattle.avs_sets.specs.Sets.{on_master, split, SetSeen, ChunkMap, ChunkPlace, OwnSlot, OverSlot, chunks_of, shadow_disk, block_in}
use Rattle.avs_sets.specs.Steps.{ShowsSame}
use Rattle.avs_held.specs.Rooms.{Mine, OnDisks, on_disks, IsOwned, KeepsOwned}
use Rattle.avs_held.specs.Calls.{AddsTo}
use Rattle.avs_entries.specs.Entries as entries

-- ---- staging

-- the area that is not live by the memory
abbrev pub staged_of : SetSeen → ChunkMap
staged_of s = s.area (not s.live_b)

-- how many blocks of the bitmap have the states of n parts of 2,048 chunks from one on: one each, and of a compact set 16, but none behind
-- the last chunk
abbrev pub part_blocks : SetSeen → ℕ → ℕ → ℕ
part_blocks s first n = if is_compact s.kind then min (16 * n) (entries.area_len (chunks_of s) - 16 * first) else n

-- the chunks of a map that have contents of their own have them where these stand by the memory, and those that have none there where they
-- were copied ahead
pub record KeepsStanding (old : SetSeen) (new : ChunkMap) (first end : ℕ) : Type 0 where
  pub own : (c : ℕ) → first ≤ c → c < end → new.state c ≢ on_master → old.memory.state c ≢ on_master → new.place c ≡ old.memory.place c
  pub ahead : (c : ℕ) → first ≤ c → c < end → new.state c ≢ on_master → old.memory.state c ≡ on_master → new.place c ≡ old.next.place c

-- what is set of a map of chunks
pub record SetsMap (old : SetSeen) (to : ℕ → ℕ) (first n : ℕ) (before after : ChunkMap) : Type 0 where
  pub states : AreSetTo before.state after.state to (2048 * first) (2048 * (first + n))
  pub places : KeepsStanding old after (2048 * first) (2048 * (first + n))

-- The states of n parts of 2,048 chunks are staged, on the disk and in memory. Nothing that is seen or live changes.
pub record StagesStates {T E : Type 0} (old : SetSeen) (to : ℕ → ℕ) (first n : ℕ) (result : Result T E) (new : SetSeen) : Type 0 where
  pub step : (says : BlockSays) (m : Seen) (o : OverSet) → IsOwned (on_disks old m o) → ShowsSame says (Mine old o) old m o.disk result new m o.disk
  pub rest : new ≡ record old { bitmap = new.bitmap; area = new.area; next = new.next }
  pub live : IsTold old.bitmap → new.area old.live_b ≡ old.area old.live_b
  pub label : IsTold old.bitmap → block_at (shown new.bitmap) 0 ≡ block_at (shown old.bitmap) 0
  pub staged : IsTold old.bitmap → OnOk result (SetsMap old to first n (staged_of old) (staged_of new))
  pub held : OnOk result (SetsMap old to first n old.next new.next)
  pub written : OnOk result (new.bitmap.written ≡ raised old.bitmap.written (part_blocks old first n))
  pub most : OnErr result (new.bitmap.written ≤ old.bitmap.written + part_blocks old first n)

-- The state of a chunk where those of a part that bits tell are split. One of a compact set that has no contents of its own is staged as it
-- was copied ahead.
abbrev pub split_state : SetSeen → ℕ → List ℕ → ℕ → ℕ
split_state s part bits c =
    if nat_lt c (chunks_of s) && told_by bits part c then (if is_compact s.kind && (s.memory.state c == on_master) then s.next.state c else split)
    else s.memory.state c

-- ---- copies ahead

-- a chunk that is told and stands on the master alone is copied ahead
abbrev pub is_ahead : (ℕ → Bool) → SetSeen → ℕ → Bool
is_ahead told s c = told c && (s.memory.state c == on_master)

-- the blocks that are copied so of one chunk, and of n chunks from one on, of a set that is not compact
abbrev pub told_work : (ℕ → Bool) → SetSeen → ChunkDisk → ℕ → ℕ
told_work told s d c = if is_ahead told s c then copy_work on_master (seg_len c s.size.blocks) d else 0

abbrev pub ahead_work : (ℕ → Bool) → SetSeen → ℕ → ℕ → ChunkDisk → ℕ
ahead_work told s first n d = sum_from (told_work told s d) first n

-- block i of a chunk in a place
abbrev pub in_place : OnDisks → ChunkPlace → ℕ → Block
in_place s place i = block_in (shown (shadow_disk s.set)) (shown s.over.disk) place i

-- a place is on the disks of a set: of a compact one its own slots are so many
abbrev pub IsOfSet : SetSeen → ChunkPlace → Type 0
IsOfSet s (OwnSlot slot) = is_compact s.kind ≡ true → slot < s.size.own
IsOfSet s (OverSlot slot) = Unit {0}

-- The chunks from `first` up to `end` that are copied ahead are the master's where they will stand, and what stands elsewhere stays. Of a
-- compact set they are split by what is staged in memory.
pub record AreCopied (told : ℕ → Bool) (old : OnDisks) (first end : ℕ) (new : OnDisks) : Type 0 where
  pub each : (i : ℕ) → i < old.set.size.blocks → first ≤ i / 64 → i / 64 < end → is_ahead told old.set (i / 64) ≡ true
      → in_place new (new.set.next.place (i / 64)) i ≡ block_at (shown old.master) i
  pub others : (place : ChunkPlace) → IsOfSet old.set place → ((c : ℕ) → first ≤ c → c < end → new.set.next.place c ≢ place) → (i : ℕ) → in_place new place i ≡ in_place old place i
  pub splits : is_compact old.set.kind ≡ true → (c : ℕ) → c < chunks_of old.set → first ≤ c → c < end → is_ahead told old.set c ≡ true → new.set.next.state c ≡ split

-- Of the chunks from `first` up to `end` those that are told and stand on the master alone are copied to the shadow, and their states
-- stay.
pub record CopiesTold {T E : Type 0} (old : OnDisks) (told : ℕ → Bool) (first end : ℕ) (result : Result T E) (new : OnDisks) : Type 0 where
  pub step : IsOwned old → (says : BlockSays) → ShowsSame says (Mine old.set new.over) old.set old.master old.over.disk result new.set new.master new.over.disk
  pub rest : new.set ≡ record old.set { shadow = new.set.shadow; next = new.set.next }
  pub chunks : is_compact old.set.kind ≡ false → (new.set.next ≡ old.set.next) × (new.over ≡ old.over)
  pub master : shown new.master ≡ shown old.master
  pub owned : KeepsOwned old new
  pub outside : is_compact old.set.kind ≡ false → IsTold (shadow_disk old.set) → (i : ℕ) → (i / 64 < first) ⊎ (end ≤ i / 64)
      → block_at (shown (shadow_disk new.set)) i ≡ block_at (shown (shadow_disk old.set)) i
  pub copied : IsTold old.master → IsTold (shadow_disk old.set) → IsTold old.over.disk → OnOk result (AreCopied told old first end new)
  pub adds : AddsTo old (ahead_work told old.set first (end - first)) result new

-- ---- the staged area is live

-- n chunks are in one of the four states, and what has contents of its own has them in a place of its own
pub record AreStates (map : ChunkMap) (n : ℕ) : Type 0 where
  pub states : (c : ℕ) → c < n → map.state c < 4
  pub apart : (c d : ℕ) → c < n → d < n → c ≢ d → map.state c ≢ on_master → map.state d ≢ on_master → map.place d ≢ map.place c

-- The other area is live by the memory, which has the states that were staged. In a compact set they have to be states.
pub record TurnsSet (old new : SetSeen) : Type 0 where
  pub rest : new ≡ record old { live_b = not old.live_b; memory = new.memory; next = old.memory }
  pub memory : (is_compact old.kind ≡ true → AreStates old.next (chunks_of old)) → new.memory ≡ old.next
