-- The steps of a chunk that is settled: the slot that it takes, the copy of its contents, and the write of its entry.
use Rattle.std.specs.Prelude.{◌≡◌, ◌≢◌, ℕ, ◌+◌, ◌-◌, ◌*◌, ◌<◌, ◌≤◌, List, length, Option, None, Some, IfSome, IfNone, Result, IsOk, OnOk}
use Rattle.avs_seg.specs.Image.{Image, block_at, ChangesWithin}
use Rattle.avs_dev.specs.Seen.{Seen, IsTold, Writes}
use Rattle.avs_dev.specs.Devices.{AllGoOn, Adds}
use Rattle.avs_over.specs.Slots.{Owners, owner_at}
use Rattle.avs_over.specs.Over.{OverSet, Takes, WritesSlot, slots, used, slot_from}
use Rattle.avs_entries.specs.Entries.{on_shadow, state_by, slot_by}
use Rattle.avs_compact.specs.CompactSet.{in_slot}
use Rattle.avs_compact.specs.Disks.{four}
use Rattle.avs_compact.specs.Work.{slot_work, out_work}

-- the slots of a table from one on are given to chunks
pub record AreUsedFrom (table : Owners) (low : ℕ) : Type 0 where
  pub each : (k : ℕ) → low ≤ k → k < length table → owner_at table k ≢ None

-- The next slot that a set takes: the least of its own from one on that is free, and where none is, the least free one of its overflow
-- volume.
pub record TakesSlot (table : Owners) (low set : ℕ) (o : OverSet) (result : Option ℕ) (o_new : OverSet) : Type 0 where
  pub own : IfSome result (λ slot. slot < length table → (owner_at table slot ≡ None) × (o_new ≡ o))
  pub least : IfSome result (λ slot. slot < length table → (low ≤ slot) × ((k : ℕ) → low ≤ k → k < slot → owner_at table k ≢ None))
  pub full : IfSome result (λ slot. length table ≤ slot → AreUsedFrom table low)
  pub over : IfSome result (λ slot. length table ≤ slot → Takes o set (Some (slot - length table)) o_new)
  pub none : IfNone result (AreUsedFrom table low × (used o ≡ slots o))

-- only blocks of one slot of an overflow volume change, and none where the slot is one of the set's own
pub record OnlySlot (own slot : ℕ) (old new : Image) : Type 0 where
  pub label : block_at new 0 ≡ block_at old 0
  pub others : (k i : ℕ) → i < 64 → own + k ≢ slot → block_at new (slot_from k + i) ≡ block_at old (slot_from k + i)

-- the blocks of all slots but one stay
pub record OtherSlots (own slot : ℕ) (s o s_new o_new : Image) : Type 0 where
  pub each : (k i : ℕ) → i < 64 → k ≢ slot → in_slot own s_new o_new k i ≡ in_slot own s o k i

-- blocks of a slot are written
pub record WritesOne {T E : Type 0} (shadow : Seen) (o : OverSet) (own slot at : ℕ) (bytes : List ℕ) (result : Result T E) (shadow_new : Seen) (o_new : OverSet) : Type 0 where
  pub to_own : slot < own → Writes shadow (64 * slot + at) bytes result shadow_new
  pub over_rest : slot < own → o_new ≡ o
  pub to_over : own ≤ slot → WritesSlot o (slot - own) at bytes result o_new
  pub shadow_rest : own ≤ slot → shadow_new ≡ shadow

-- blocks of the master are copied into a slot
pub record CopiesIn {T E : Type 0} (m s : Seen) (o : OverSet) (own slot at len : ℕ) (result : Result T E) (m_new s_new : Seen) (o_new : OverSet) : Type 0 where
  pub goes : (b : Seen) → AllGoOn (four m s b o.disk) result (four m_new s_new b o_new.disk)
  pub master : m_new ≡ record m { faults = m_new.faults }
  pub over : o_new ≡ record o { disk = o_new.disk }
  pub only : IsTold o.disk → OnlySlot own slot o.disk.image o_new.disk.image
  pub others : IsTold s → IsTold o.disk → OtherSlots own slot s.image o.disk.image s_new.image o_new.disk.image
  pub copied : IsTold m → IsTold s → IsTold o.disk
      → OnOk result ((i : ℕ) → i < len → in_slot own s_new.image o_new.disk.image slot i ≡ block_at m.image (at + i))
  pub work : (b : Seen) → Adds (four m s b o.disk) (slot_work own slot len) result (four m_new s_new b o_new.disk)

-- blocks of a slot are copied to the master
pub record CopiesOut {T E : Type 0} (m s : Seen) (o : OverSet) (own slot at len : ℕ) (result : Result T E) (m_new s_new : Seen) (o_new : OverSet) : Type 0 where
  pub goes : (b : Seen) → AllGoOn (four m s b o.disk) result (four m_new s_new b o_new.disk)
  pub shadow : s_new ≡ record s { faults = s_new.faults }
  pub over : o_new ≡ record o { disk = record o.disk { faults = o_new.disk.faults } }
  pub within : IsTold m → ChangesWithin at len m.image m_new.image
  pub copied : IsTold m → IsTold s → IsTold o.disk
      → OnOk result ((i : ℕ) → i < len → block_at m_new.image (at + i) ≡ in_slot own s.image o.disk.image slot i)
  pub work : (b : Seen) → Adds (four m s b o.disk) (out_work len) result (four m_new s_new b o_new.disk)

-- a chunk whose contents stand in its slot alone is copied to the master, and nothing is done for any other
pub record CopiesBack {T E : Type 0} (entry : ℕ) (m s : Seen) (o : OverSet) (own at len : ℕ) (result : Result T E) (m_new s_new : Seen) (o_new : OverSet) : Type 0 where
  pub out : state_by entry ≡ on_shadow → CopiesOut m s o own (slot_by entry) at len result m_new s_new o_new
  pub nothing : state_by entry ≢ on_shadow → IsOk result × ((m_new ≡ m) × ((s_new ≡ s) × (o_new ≡ o)))
