-- What each call on the contents makes of a set, its overflow volume and its master.
use Rattle.std.specs.Prelude.{◌≡◌, ◌≢◌, ℕ, ◌+◌, ◌-◌, ◌*◌, ◌/◌, ◌<◌, ◌≤◌, IsTrue, List, length, is_some, Result, OnOk, IsOk}
use Rattle.avs_seg.specs.Image.{blocks_of, range}
use Rattle.avs_dev.specs.Seen.{Seen, IsTold, Reads}
use Rattle.avs_dev.specs.Devices.{AllGoOn}
use Rattle.avs_over.specs.Over.{OverSet, ReadsSlot, slots}
use Rattle.avs_entries.specs.Entries.{slot_by}
use Rattle.avs_compact.specs.CompactSet.{CompactSet, disk_of, entry_of, chunks_of, shadow_image, IsInStep}
use Rattle.avs_compact.specs.Disks.{disk_at}

-- the slots of an overflow volume that stand in a set's entries are there
pub record AreThere (s : CompactSet) (o : OverSet) : Type 0 where
  pub each : (c : ℕ) → c < chunks_of s → entry_of s c ≢ 0 → s.own ≤ slot_by (entry_of s c) → slot_by (entry_of s c) - s.own < slots o

-- one of them is not
pub record LacksSlot (s : CompactSet) (o : OverSet) : Type 0 where
  pub chunk : ℕ
  pub there : chunk < chunks_of s
  pub some : entry_of s chunk ≢ 0
  pub past : s.own ≤ slot_by (entry_of s chunk)
  pub lacks : slots o ≤ slot_by (entry_of s chunk) - s.own

-- the disks tell their blocks, and the memory is in step
pub record IsKnown (s : CompactSet) (o : OverSet) : Type 0 where
  pub shadow : IsTold (disk_of s.shadow)
  pub bitmap : IsTold s.areas.disk
  pub over : IsTold o.disk
  pub step : IsInStep s

-- the blocks of a slice lie in a slot that is there
pub record IsInSlot (shadow : Seen) (o : OverSet) (own slot at len : ℕ) : Type 0 where
  pub some : 0 < len
  pub whole : 512 * (len / 512) ≡ len
  pub inside : at + len / 512 ≤ 64
  pub in_own : slot < own → 64 * own ≤ shadow.size
  pub in_over : own ≤ slot → slot - own < slots o

-- blocks of a slot are read
pub record ReadsOne {T E : Type 0} (shadow : Seen) (o : OverSet) (own slot at : ℕ) (out : List ℕ) (result : Result T E) (shadow_new : Seen) (o_new : OverSet) : Type 0 where
  pub from_own : slot < own → Reads shadow (64 * slot + at) out result shadow_new
  pub over_rest : slot < own → o_new ≡ o
  pub from_over : own ≤ slot → ReadsSlot o (slot - own) at out result o_new
  pub shadow_rest : own ≤ slot → shadow_new ≡ shadow

-- Blocks of the shadow are read. Where that fails nothing changes but the count of faults of one disk.
pub record ReadsShadow {T E : Type 0} (old : CompactSet) (o : OverSet) (m : Seen) (at : ℕ) (out : List ℕ) (result : Result T E) (new : CompactSet) (o_new : OverSet) (m_new : Seen) : Type 0 where
  pub goes : AllGoOn (disk_at old o m) result (disk_at new o_new m_new)
  pub same : OnOk result ((new ≡ old) × ((o_new ≡ o) × (m_new ≡ m)))
  pub set : new ≡ record old { shadow = new.shadow }
  pub shadow : (is_some new.shadow ≡ is_some old.shadow) × (disk_of new.shadow ≡ record (disk_of old.shadow) { faults = (disk_of new.shadow).faults })
  pub over : o_new ≡ record o { disk = record o.disk { faults = o_new.disk.faults } }
  pub master : m_new ≡ record m { faults = m_new.faults }
  pub sure : IsTrue m.steady → IsTrue (disk_of old.shadow).steady → IsTrue o.disk.steady → IsOk result
  pub shows : IsKnown old o → IsTold m → OnOk result (blocks_of out ≡ range (shadow_image old o m.image) at (length out / 512))
