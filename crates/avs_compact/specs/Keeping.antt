-- What each call on the contents keeps of a set, its overflow volume and its master, at both exits.
use Rattle.std.specs.Prelude.{◌≡◌, ◌≢◌, ◌⊎◌, ℕ, ◌+◌, ◌/◌, ◌%◌, ◌<◌, ◌≤◌, ◌==◌, if◌then◌else◌, is_some, Result, OnOk, OnErr}
use Rattle.avs_seg.specs.Image.{Block, Image, block_at}
use Rattle.avs_dev.specs.Seen.{Seen, IsTold}
use Rattle.avs_dev.specs.Devices.{AllGoOn}
use Rattle.avs_flip.specs.Areas.{staged}
use Rattle.avs_over.specs.Over.{OverSet}
use Rattle.avs_entries.specs.Entries.{on_both, split, on_shadow, state_by, slot_by}
use Rattle.avs_entries.specs.Counting.{is_own, is_over, count_of}
use Rattle.avs_compact.specs.CompactSet.{CompactSet, disk_of, entry_of, disk_entry, chunks_of, in_slot, need_of, HasTaken, own_used, room_of}
use Rattle.avs_compact.specs.Disks.{disk_at}
use Rattle.avs_compact.specs.Work.{AddsUpTo, settled_work, settled_most}
use Rattle.avs_compact.specs.Places.{ArePlaced, OnlyTakes, KeepsOver, SetsEntry, AreSame}
use Rattle.avs_compact.specs.Calls.{AreThere, IsKnown}

-- the slots that stand in the entries of a set are its own, each in one entry
abbrev pub IsPlaced : CompactSet → OverSet → Type 0
IsPlaced s o = ArePlaced (entry_of s) s.own (chunks_of s) s.set o.owners

-- of n entries some have slots of the overflow volume only where all own slots stand in them, but so many that are kept
abbrev pub OwnFirst : (ℕ → ℕ) → ℕ → ℕ → ℕ → Type 0
OwnFirst entries own n kept = 0 < count_of (is_over own) entries n → count_of (is_own own) entries n + kept ≡ own

-- Slots of the overflow volume are used only where all of the set's own are used or kept: where none is kept, it uses there what it
-- needs beyond its own.
abbrev pub UsesOwnFirst : CompactSet → Type 0
UsesOwnFirst s = OwnFirst (entry_of s) s.own (chunks_of s) s.ahead

-- all of the set's own slots are used or kept
abbrev pub AreOwnFull : CompactSet → Type 0
AreOwnFull s = own_used s + s.ahead ≡ s.own

-- what stands in the slot of a chunk, over the images of the shadow's disk and of the overflow volume
abbrev pub stands : CompactSet → OverSet → ℕ → Block
stands s o i = in_slot s.own (disk_of s.shadow).image o.disk.image (slot_by (disk_entry s (i / 64))) (i % 64)

-- a block of the shadow, and a block of the master
abbrev pub shadow_block : CompactSet → OverSet → Image → ℕ → Block
shadow_block s o m i = if disk_entry s (i / 64) == 0 then block_at m i else stands s o i

abbrev pub master_block : CompactSet → OverSet → Image → ℕ → Block
master_block s o m i = if state_by (disk_entry s (i / 64)) == on_shadow then stands s o i else block_at m i

-- where a chunk is the same on both, it is
pub record IsAlike (s : CompactSet) (o : OverSet) (m : Image) : Type 0 where
  pub same : (i : ℕ) → i < s.blocks → state_by (disk_entry s (i / 64)) ≡ on_both → stands s o i ≡ block_at m i

-- the entries behind the last chunk are zeros on the disk
pub record IsCleanOnDisk (s : CompactSet) : Type 0 where
  pub each : (c : ℕ) → chunks_of s ≤ c → disk_entry s c ≡ 0

-- what no call on the contents changes that copies no chunk ahead
pub record IsSameShape (old new : CompactSet) : Type 0 where
  pub set : new.set ≡ old.set
  pub own : new.own ≡ old.own
  pub blocks : new.blocks ≡ old.blocks
  pub there : is_some new.shadow ≡ is_some old.shadow
  pub areas : (new.areas.first ≡ old.areas.first) × (new.areas.len ≡ old.areas.len)
  pub live_b : new.areas.live_b ≡ old.areas.live_b
  pub next : new.next ≡ old.next
  pub ahead : new.ahead ≡ old.ahead

-- Of the bitmap's disk no call on the contents changes the label, or what is staged. What is behind the last chunk stays zeros.
pub record KeepsBitmap (old new : CompactSet) : Type 0 where
  pub label : block_at new.areas.disk.image 0 ≡ block_at old.areas.disk.image 0
  pub staged : staged new.areas ≡ staged old.areas
  pub clean : IsCleanOnDisk old → IsCleanOnDisk new

-- What each call on the contents keeps of what a set and its master stand for: the blocks of both. The master's disk changes only where
-- the contents stand in a slot alone; no chunk comes to stand there alone, and none ceases to be split. The slots that stand in entries on
-- the disk are the set's own, each in one entry.
pub record KeepsBlocks (old : CompactSet) (o : OverSet) (m : Image) (new : CompactSet) (o_new : OverSet) (m_new : Image) : Type 0 where
  pub shadow : (i : ℕ) → i < old.blocks → shadow_block new o_new m_new i ≡ shadow_block old o m i
  pub master : (i : ℕ) → i < old.blocks → master_block new o_new m_new i ≡ master_block old o m i
  pub only : (i : ℕ) → i < old.blocks → state_by (disk_entry old (i / 64)) ≢ on_shadow → block_at m_new i ≡ block_at m i
  pub alike : IsAlike old o m → IsAlike new o_new m_new
  pub back : (c : ℕ) → c < chunks_of old → state_by (disk_entry new c) ≡ on_shadow → state_by (disk_entry old c) ≡ on_shadow
  pub splits : (c : ℕ) → c < chunks_of old → state_by (disk_entry old c) ≡ split → state_by (disk_entry new c) ≡ split
  pub slots : (c : ℕ) → c < chunks_of old → disk_entry old c ≢ 0 → (disk_entry new c ≢ 0) × (slot_by (disk_entry new c) ≡ slot_by (disk_entry old c))
  pub placed : ArePlaced (disk_entry new) old.own (chunks_of old) old.set o_new.owners

-- what each call on the contents keeps of the slots that a set uses, by the memory
pub record KeepsSlots (old : CompactSet) (o : OverSet) (new : CompactSet) (o_new : OverSet) : Type 0 where
  pub there : AreThere old o → AreThere new o_new
  pub placed : IsPlaced old o → IsPlaced new o_new
  pub own_first : UsesOwnFirst old → UsesOwnFirst new
  pub owners : OnlyTakes old.set o.owners o_new.owners

-- What each call on the contents keeps, at both exits. That own slots come first holds of the entries on the disk too, which `load` finds.
pub record KeepsSet {T E : Type 0} (old : CompactSet) (o : OverSet) (m : Seen) (result : Result T E) (new : CompactSet) (o_new : OverSet) (m_new : Seen) : Type 0 where
  pub shape : IsSameShape old new
  pub goes : AllGoOn (disk_at old o m) result (disk_at new o_new m_new)
  pub bitmap : IsTold old.areas.disk → KeepsBitmap old new
  pub slots : KeepsSlots old o new o_new
  pub over : IsPlaced old o → IsTold o.disk → KeepsOver old.set o o_new
  pub blocks : IsKnown old o → IsPlaced old o → IsTold m → KeepsBlocks old o m.image new o_new m_new.image
  pub own_first : IsKnown old o → UsesOwnFirst old → OwnFirst (disk_entry new) old.own (chunks_of old) old.ahead

-- so many slots more are needed, and the room stays; where the set had taken what it uses, it has
pub record CountsSlots (old : CompactSet) (o : OverSet) (more : ℕ) (new : CompactSet) (o_new : OverSet) : Type 0 where
  pub need : need_of new ≡ need_of old + more
  pub room : room_of new o_new ≡ room_of old o
  pub taken : HasTaken old o → HasTaken new o_new

-- a chunk that has a slot can come to another state: it can become split where it isn't, and the same on both where its contents stand in
-- its slot alone
pub record MaySettle (s : CompactSet) (chunk target : ℕ) : Type 0 where
  pub there : chunk < chunks_of s
  pub slot : entry_of s chunk ≢ 0
  pub targets : (target ≡ split) ⊎ (target ≡ on_both)
  pub whole : state_by (entry_of s chunk) ≢ split
  pub copies : target ≡ on_both → state_by (entry_of s chunk) ≡ on_shadow

-- A chunk is settled in a state: its contents are copied where they stand on one side alone, into a slot that it takes where it has none,
-- and then its entry tells the state. Where that fails the entries are as before, or that chunk's tells the state.
pub record Settles {T E : Type 0} (old : CompactSet) (o : OverSet) (m : Seen) (chunk target : ℕ) (result : Result T E) (new : CompactSet) (o_new : OverSet) (m_new : Seen) : Type 0 where
  pub keeps : KeepsSet old o m result new o_new m_new
  pub done : IsKnown old o → OnOk result (SetsEntry (disk_entry old) (disk_entry new) (chunks_of old) chunk target)
  pub stopped : IsKnown old o → OnErr result (AreSame (disk_entry old) (disk_entry new) (chunks_of old) ⊎ SetsEntry (disk_entry old) (disk_entry new) (chunks_of old) chunk target)
  pub known : IsKnown old o → OnOk result (IsKnown new o_new)
  pub memory : OnOk result (SetsEntry (entry_of old) (entry_of new) (chunks_of old) chunk target)
  pub unset : OnErr result (new.memory ≡ old.memory)
  pub counts : OnOk result (CountsSlots old o (if entry_of old chunk == 0 then 1 else 0) new o_new)
  pub work : AddsUpTo (disk_at old o m) (settled_work old new chunk) (settled_most old chunk) result (disk_at new o_new m_new)

-- a call that does nothing
pub record DoesNothing (old : CompactSet) (o : OverSet) (m : Seen) (new : CompactSet) (o_new : OverSet) (m_new : Seen) : Type 0 where
  pub set : new ≡ old
  pub over : o_new ≡ o
  pub master : m_new ≡ m
