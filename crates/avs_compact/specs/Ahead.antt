-- Chunks that another set's update takes from the master: they are copied ahead into slots that are kept for them, and then staged as split.
use Rattle.std.specs.Prelude.{◌≡◌, ◌≢◌, ◌⊎◌, ℕ, ◌+◌, ◌-◌, ◌*◌, ◌/◌, ◌%◌, ◌<◌, ◌≤◌, Bool, true, false, ◌&&◌, List, length, filter, is_some, None, Some, Result, IsErr, OnOk, OnErr}
use Rattle.std.specs.List.{range_with_len}
use Rattle.avs_seg.specs.Image.{Image, block_at}
use Rattle.avs_dev.specs.Seen.{Seen, IsTold}
use Rattle.avs_dev.specs.Devices.{AllGoOn}
use Rattle.avs_over.specs.Slots.{owner_at, given_to}
use Rattle.avs_over.specs.Over.{OverSet}
use Rattle.avs_entries.specs.Entries.{split, slot_by, entry_for}
use Rattle.avs_entries.specs.Counting.{is_own, is_over}
pub use Rattle.avs_entries.specs.Parts.{part_blocks, split_to}
use Rattle.avs_entries.specs.Parts.{is_ahead, lacking_told, part_end}
use Rattle.avs_compact.specs.CompactSet.{CompactSet, disk_of, chunks_of, entry_of, next_of, in_slot, need_of, room_of}
use Rattle.avs_compact.specs.Disks.{disk_at}
use Rattle.avs_compact.specs.Work.{AddsUpTo, ahead_work, ahead_most}
use Rattle.avs_compact.specs.Places.{KeepsOver}
use Rattle.avs_compact.specs.Calls.{IsKnown}
use Rattle.avs_compact.specs.Keeping.{IsPlaced, AreOwnFull, KeepsSlots, KeepsBlocks}
use Rattle.avs_compact.specs.Staging.{StagesBlocks}

-- the slot that is kept for a chunk
abbrev pub slot_ahead : CompactSet → ℕ → ℕ
slot_ahead s c = slot_by (next_of s c)

-- what a block of a chunk is in that slot
abbrev pub stands_ahead : CompactSet → OverSet → ℕ → List ℕ
stands_ahead s o i = in_slot s.own (disk_of s.shadow).image o.disk.image (slot_ahead s (i / 64)) (i % 64)

-- What copying ahead keeps, at both exits: what is live and what is staged on the disk, the master's disk, which is read alone, and all that
-- is seen. Slots are kept by the memory alone.
pub record KeepsAhead {T E : Type 0} (old : CompactSet) (o : OverSet) (m : Seen) (result : Result T E) (new : CompactSet) (o_new : OverSet) (m_new : Seen) : Type 0 where
  pub is : new ≡ record old { shadow = new.shadow; next = new.next; low = new.low; ahead = new.ahead }
  pub there : is_some new.shadow ≡ is_some old.shadow
  pub master : m_new ≡ record m { faults = m_new.faults }
  pub goes : AllGoOn (disk_at old o m) result (disk_at new o_new m_new)
  pub slots : KeepsSlots old o new o_new
  pub over : IsPlaced old o → IsTold o.disk → KeepsOver old.set o o_new
  pub seen : IsKnown old o → IsPlaced old o → IsTold m → KeepsBlocks old o m.image new o_new m_new.image

-- A slot is kept for a chunk: its entry that is staged in memory tells that it is split, in a slot that was free. One of the set's own is
-- at or above those that were used or kept, and below that bound now; one of the overflow volume is given to the set now.
pub record IsKeptFor (old : CompactSet) (o : OverSet) (chunk : ℕ) (new : CompactSet) (o_new : OverSet) : Type 0 where
  pub entry : next_of new chunk ≡ entry_for split (slot_ahead new chunk)
  pub own : slot_ahead new chunk < old.own → (old.low ≤ slot_ahead new chunk) × (slot_ahead new chunk < new.low)
  pub over : old.own ≤ slot_ahead new chunk → (owner_at o.owners (slot_ahead new chunk - old.own) ≡ None) × (owner_at o_new.owners (slot_ahead new chunk - old.own) ≡ Some old.set)
  pub apart : IsPlaced old o → (c : ℕ) → c < chunks_of old → entry_of old c ≢ 0 → slot_by (entry_of old c) ≢ slot_ahead new chunk

-- of the chunks of a list from `first` up to `end`, how many have a staged entry in memory that passes a test
abbrev pub kept_count : (ℕ → Bool) → CompactSet → (ℕ → Bool) → ℕ → ℕ → ℕ
kept_count test s told first end = length (filter (λ c. told c && test (next_of s c)) (range_with_len first (end - first)))

-- the chunks of a list, of those from `first` up to `end`
pub record ToldChunks : Type 0 where
  pub told : ℕ → Bool
  pub first : ℕ
  pub end : ℕ

abbrev pub told_from : (ℕ → Bool) → ℕ → ℕ → ToldChunks
told_from told first end = record { told = told; first = first; end = end }

-- They get slots that are kept for them, each its own. The set has room for so many less: it keeps so many of its own slots more, and so
-- many more of the overflow volume are given to it, of which one is only where all own ones are used or kept.
pub record KeepsSlotsFor (old : CompactSet) (o : OverSet) (t : ToldChunks) (new : CompactSet) (o_new : OverSet) : Type 0 where
  pub kept : (c : ℕ) → t.first ≤ c → c < t.end → t.told c ≡ true → IsKeptFor old o c new o_new
  pub others : (c : ℕ) → (c < t.first) ⊎ ((t.end ≤ c) ⊎ (t.told c ≡ false)) → next_of new c ≡ next_of old c
  pub apart : (c d : ℕ) → t.first ≤ c → c < d → d < t.end → t.told c ≡ true → t.told d ≡ true → slot_ahead new c ≢ slot_ahead new d
  pub room : room_of new o_new + length (filter t.told (range_with_len t.first (t.end - t.first))) ≡ room_of old o
  pub low : old.low ≤ new.low
  pub own : new.ahead ≡ old.ahead + kept_count (is_own old.own) new t.told t.first t.end
  pub over : given_to old.set o_new.owners ≡ given_to old.set o.owners + kept_count (is_over old.own) new t.told t.first t.end
  pub own_first : AreOwnFull old ⊎ (0 < kept_count (is_over old.own) new t.told t.first t.end) → AreOwnFull new

-- they stand in their slots as on the master, and the other slots as before
pub record AreCopied (old : CompactSet) (o : OverSet) (m : Image) (t : ToldChunks) (new : CompactSet) (o_new : OverSet) : Type 0 where
  pub each : (i : ℕ) → i < old.blocks → t.first ≤ i / 64 → i / 64 < t.end → t.told (i / 64) ≡ true → stands_ahead new o_new i ≡ block_at m i
  pub others : (k i : ℕ) → i < 64 → ((c : ℕ) → t.first ≤ c → c < t.end → t.told c ≡ true → slot_ahead new c ≢ k)
      → in_slot old.own (disk_of new.shadow).image o_new.disk.image k i ≡ in_slot old.own (disk_of old.shadow).image o.disk.image k i

-- Of the chunks from `first` up to `end` those of a list, which have no slot, are copied ahead into slots that the set takes.
pub record CopiesTold {T E : Type 0} (old : CompactSet) (o : OverSet) (m : Seen) (told : ℕ → Bool) (first end : ℕ) (result : Result T E) (new : CompactSet) (o_new : OverSet) (m_new : Seen) : Type 0 where
  pub keeps : KeepsAhead old o m result new o_new m_new
  pub kept : OnOk result (KeepsSlotsFor old o (told_from told first end) new o_new)
  pub copied : IsTold m → IsTold (disk_of old.shadow) → IsTold o.disk → OnOk result (AreCopied old o m.image (told_from told first end) new o_new)
  pub work : AddsUpTo (disk_at old o m) (ahead_work old new told first (end - first)) (ahead_most old told first (end - first)) result
      (disk_at new o_new m_new)

-- the entries of a set where those chunks of a part that bits tell are split
abbrev pub split_of : CompactSet → ℕ → List ℕ → ℕ → ℕ
split_of s part bits c = split_to (chunks_of s) bits part (entry_of s) (next_of s) c

-- one chunk is copied ahead, of any list that tells it
abbrev pub CopiesAhead : {T E : Type 0} → CompactSet → OverSet → Seen → ℕ → Result T E → CompactSet → OverSet → Seen → Type 0
CopiesAhead old o m chunk result new o_new m_new = (told : ℕ → Bool) → told chunk ≡ true → CopiesTold old o m told chunk (chunk + 1) result new o_new m_new

-- the chunks of a part that bits tell and that have no slot are copied ahead
abbrev pub CopiesPart : {T E : Type 0} → CompactSet → OverSet → Seen → ℕ → List ℕ → Result T E → CompactSet → OverSet → Seen → Type 0
CopiesPart old o m part bits result new o_new m_new =
    CopiesTold old o m (is_ahead bits part (entry_of old)) (2048 * part) (part_end (chunks_of old) part) result new o_new m_new

-- there is room for their slots
abbrev pub HasRoomFor : CompactSet → OverSet → ℕ → List ℕ → Type 0
HasRoomFor s o part bits = need_of s + lacking_told bits part (entry_of s) (chunks_of s) ≤ room_of s o

-- The chunks of a part that bits tell and that have no slot are copied ahead. Where that was done, the entries of the part are staged with
-- the told chunks split.
pub record StagesPart {T E : Type 0} (old : CompactSet) (o : OverSet) (m : Seen) (part : ℕ) (bits : List ℕ) (result : Result T E) (new : CompactSet) (o_new : OverSet) (m_new : Seen) : Type 0 where
  pub copied : Result (Unit {0}) E
  pub mid : CompactSet
  pub copies : CopiesPart old o m part bits copied mid o_new m_new
  pub stops : OnErr copied (IsErr result × (new ≡ mid))
  pub stages : OnOk copied (StagesBlocks mid (split_of mid part bits) (16 * part) (part_blocks (chunks_of mid) part) result new)
