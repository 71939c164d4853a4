-- An update: the states that a set is to have are staged, and one commit elsewhere makes them live.
use Rattle.std.specs.Prelude.{◌≡◌, ◌⊎◌, ℕ, ◌+◌, ◌-◌, ◌*◌, ◌/◌, ◌<◌, ◌≤◌, ◌==◌, nat_lt, min, Bool, true, not, ◌&&◌, ◌||◌, if◌then◌else◌, List, Result, OnOk, OnErr}
use Rattle.avs_seg.specs.Image.{Image, block_at}
use Rattle.avs_seg.specs.Segment.{seg_len}
use Rattle.avs_dev.specs.Seen.{Seen, IsTold, GoesOn}
use Rattle.avs_dev.specs.Devices.{AllGoOn}
use Rattle.avs_dev.specs.Memory.{counted}
use Rattle.avs_bits.specs.Bit.{bit_of}
use Rattle.avs_flip.specs.Areas.{Areas, live, staged}
use Rattle.avs_model.specs.declared.shadow.Kind.{Kind}
use Rattle.avs_model.specs.declared.shadow.Kind.TheVariants.{Ind, Dep, Compact}
use Rattle.avs_chunks.specs.declared.staging.Update.{Update}
use Rattle.avs_chunks.specs.declared.staging.Update.TheVariants.{ToShadow, ToMaster}
use Rattle.avs_chunks.specs.States.{on_master, split, on_shadow, state_in, state_on, sum_from}
use Rattle.avs_chunks.specs.ChunkSet.{ChunkSet, disk_of, chunks_of, state_of, next_of, staged_state, IsKnown}
use Rattle.avs_chunks.specs.Disks.{ChunkDisk, Master, Shadow, Bitmap, disk_at, raised, copy_work, Adds}
use Rattle.avs_chunks.specs.Calls.{KeepsBlocks, KeepsBehind, KeepsSet}

-- The state of a chunk once the shadow is its master again: of an independent set those that are split stand on the master
-- alone then, and all where the copy is whole; of another set all do.
abbrev pub to_shadow : Kind → Bool → ℕ → ℕ
to_shadow Ind whole state = if whole || state == split then on_master else state
to_shadow Dep whole state = on_master
to_shadow Compact whole state = on_master

-- the state of a chunk once the master is its shadow: those that are split stand on the shadow alone then
abbrev pub to_master : ℕ → ℕ
to_master state = if state == split then on_shadow else state

-- what an update makes of a state
abbrev pub updated : Update → ℕ → ℕ
updated (ToShadow kind whole) state = to_shadow kind whole state
updated ToMaster state = to_master state

-- whether bits tell a chunk of a part: bit i stands for its i-th chunk
abbrev pub told_by : List ℕ → ℕ → ℕ → Bool
told_by bits part c = bit_of bits (c - 2048 * part)

-- the end of the chunks of a part, of so many chunks
abbrev pub part_end : ℕ → ℕ → ℕ
part_end chunks part = min (2048 * (part + 1)) chunks

-- a chunk that is told and stands on the master alone is copied ahead
abbrev pub is_ahead : (ℕ → Bool) → ChunkSet → ℕ → Bool
is_ahead told s c = told c && (state_of s c == on_master)

-- the blocks of one chunk that are copied so, and of n chunks from one on
abbrev pub told_work : (ℕ → Bool) → ChunkSet → ChunkDisk → ℕ → ℕ
told_work told s d c = if is_ahead told s c then copy_work on_master (seg_len c s.blocks) d else 0

abbrev pub ahead_work : (ℕ → Bool) → ChunkSet → ℕ → ℕ → ChunkDisk → ℕ
ahead_work told s first n d = sum_from (told_work told s d) first n

-- Of the chunks from `first` up to `end` those that are told and stand on the master alone are copied to the shadow, and
-- their states stay: nothing that is seen changes.
pub record CopiesTold {T E : Type 0} (old : ChunkSet) (m : Seen) (told : ℕ → Bool) (first end : ℕ) (result : Result T E) (new : ChunkSet) (m_new : Seen) : Type 0 where
  pub is : new ≡ record old { shadow = new.shadow }
  pub keeps : KeepsSet old m result new m_new
  pub master : m_new.image ≡ m.image
  pub outside : IsTold (disk_of old.shadow) → (i : ℕ) → (i / 64 < first) ⊎ (end ≤ i / 64) → block_at (disk_of new.shadow).image i ≡ block_at (disk_of old.shadow).image i
  pub copied : IsTold m → IsTold (disk_of old.shadow) → OnOk result ((i : ℕ) → i < old.blocks → first ≤ i / 64 → i / 64 < end → is_ahead told old (i / 64) ≡ true → block_at (disk_of new.shadow).image i ≡ block_at m.image i)
  pub adds : Adds (disk_at old m) (ahead_work told old first (end - first)) result (disk_at new m_new)

-- The states of a part that begins with a chunk, with the chunks of a set of bits split: bit i stands for the i-th chunk of the
-- part. Bits behind the last chunk stand for none.
abbrev pub split_to : ℕ → List ℕ → ℕ → (ℕ → ℕ) → ℕ → ℕ
split_to chunks bits first states c = if nat_lt c chunks && bit_of bits (c - first) then split else states c

-- the states of the chunks from `first` up to `end` are set, and the others are as they were
pub record AreSetTo (old new to : ℕ → ℕ) (first end : ℕ) : Type 0 where
  pub inside : (c : ℕ) → first ≤ c → c < end → new c ≡ to c
  pub outside : (c : ℕ) → (c < first) ⊎ (end ≤ c) → new c ≡ old c

-- of a bitmap's disk the label stays, and what is live
pub record KeepsLive (old new : Areas) : Type 0 where
  pub label : block_at new.disk.image 0 ≡ block_at old.disk.image 0
  pub live : live new ≡ live old

-- the block with the states of a part is staged from memory
pub record StagesNext {T E : Type 0} (old : Areas) (next : List ℕ) (part : ℕ) (result : Result T E) (new : Areas) : Type 0 where
  pub place : new ≡ record old { disk = new.disk }
  pub goes : GoesOn old.disk result new.disk
  pub kept : IsTold old.disk → KeepsLive old new
  pub staged : IsTold old.disk → OnOk result (AreSetTo (state_on (staged old)) (state_on (staged new)) (state_in next) (2048 * part) (2048 * (part + 1)))
  pub counted : OnOk result (new.disk.written ≡ counted old.disk.written 1)
  pub uncounted : OnErr result (new.disk.written ≡ old.disk.written)

-- The states of the n parts of 2,048 chunks from one on are staged, on the disk and in memory, a block each. Nothing that is
-- live changes.
pub record StagesParts {T E : Type 0} (old : ChunkSet) (to : ℕ → ℕ) (first n : ℕ) (result : Result T E) (new : ChunkSet) : Type 0 where
  pub is : new ≡ record old { areas = record old.areas { disk = new.areas.disk }; next = new.next }
  pub goes : GoesOn old.areas.disk result new.areas.disk
  pub kept : IsTold old.areas.disk → KeepsLive old.areas new.areas
  pub staged : IsTold old.areas.disk → OnOk result (AreSetTo (staged_state old) (staged_state new) to (2048 * first) (2048 * (first + n)))
  pub held : OnOk result (AreSetTo (next_of old) (next_of new) to (2048 * first) (2048 * (first + n)))
  pub written : OnOk result (new.areas.disk.written ≡ raised old.areas.disk.written n)
  pub most : OnErr result (new.areas.disk.written ≤ old.areas.disk.written + n)

-- what staging a part with its copies keeps: what is live, the blocks behind the set, and the master's disk
pub record KeepsAround (old : ChunkSet) (m : Seen) (new : ChunkSet) (m_new : Seen) : Type 0 where
  pub live : IsTold old.areas.disk → KeepsLive old.areas new.areas
  pub behind : IsTold (disk_of old.shadow) → KeepsBehind old new
  pub master : m_new.image ≡ m.image

-- a block of states is staged; and before it the chunks of the part that are told are copied
abbrev pub stage_work : ChunkDisk → ℕ
stage_work Master = 0
stage_work Shadow = 0
stage_work Bitmap = 1

abbrev pub part_work : ChunkSet → ℕ → List ℕ → ChunkDisk → ℕ
part_work s part bits d = ahead_work (told_by bits part) s (2048 * part) (part_end (chunks_of s) part - 2048 * part) d + stage_work d

-- the chunks of a part that are told and stand on the master alone are on the shadow's disk too
pub record AreAhead (old : ChunkSet) (m : Image) (part : ℕ) (bits : List ℕ) (new : ChunkSet) : Type 0 where
  pub each : (i : ℕ) → i < old.blocks → 2048 * part ≤ i / 64 → i / 64 < 2048 * (part + 1) → is_ahead (told_by bits part) old (i / 64) ≡ true → block_at (disk_of new.shadow).image i ≡ block_at m i

-- they are copied before anything is staged
pub record CopiesFirst {T E : Type 0} (old : ChunkSet) (m : Image) (part : ℕ) (bits : List ℕ) (result : Result T E) (new : ChunkSet) : Type 0 where
  pub done : OnOk result (AreAhead old m part bits new)
  pub stopped : OnErr result ((new.areas ≡ old.areas) ⊎ AreAhead old m part bits new)

-- The chunks of a part that are told and stand on the master alone are copied to the shadow, and then its states are staged
-- with the told chunks split. Nothing that is seen or live changes.
pub record StagesPart {T E : Type 0} (old : ChunkSet) (m : Seen) (part : ℕ) (bits : List ℕ) (result : Result T E) (new : ChunkSet) (m_new : Seen) : Type 0 where
  pub is : new ≡ record old { shadow = new.shadow; areas = record old.areas { disk = new.areas.disk }; next = new.next }
  pub goes : AllGoOn (disk_at old m) result (disk_at new m_new)
  pub around : KeepsAround old m new m_new
  pub seen : IsKnown old → IsTold m → KeepsBlocks old m.image new m_new.image
  pub copied : IsTold m → IsTold (disk_of old.shadow) → CopiesFirst old m.image part bits result new
  pub staged : IsTold old.areas.disk → OnOk result (AreSetTo (staged_state old) (staged_state new) (split_to (chunks_of old) bits (2048 * part) (state_of old)) (2048 * part) (2048 * (part + 1)))
  pub held : OnOk result (AreSetTo (next_of old) (next_of new) (split_to (chunks_of old) bits (2048 * part) (state_of old)) (2048 * part) (2048 * (part + 1)))
  pub adds : Adds (disk_at old m) (part_work old part bits) result (disk_at new m_new)

-- what is staged on the disk is what is staged in memory: every part was staged
pub record IsReady (s : ChunkSet) : Type 0 where
  pub each : (c : ℕ) → c < chunks_of s → staged_state s c ≡ next_of s c

-- The other area is live, and the memory has the states that were staged. Where every part was, the set is in step.
pub record TurnsSet (old new : ChunkSet) : Type 0 where
  pub is : new ≡ record old { areas = record old.areas { live_b = not old.areas.live_b }; memory = old.next; next = old.memory }
  pub now_live : live new.areas ≡ staged old.areas
  pub now_staged : staged new.areas ≡ live old.areas
  pub known : IsTold (disk_of old.shadow) → IsTold old.areas.disk → IsReady old → IsKnown new
