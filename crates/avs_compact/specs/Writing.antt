-- Writes to the shadow: the chunks of a range are saved, and then it is written in their slots.
use Rattle.std.specs.Prelude.{◌≡◌, ℕ, ◌+◌, ◌/◌, ◌<◌, ◌≤◌, List, length, is_some, Result, OnOk, OnErr, IfErr}
use Rattle.avs_seg.specs.Image.{Image, put, blocks_of, IsMix}
use Rattle.avs_seg.specs.Segment.{first_segment, touch_count}
use Rattle.avs_dev.specs.Seen.{Seen, IsTold}
use Rattle.avs_dev.specs.Devices.{AllGoOn}
use Rattle.avs_over.specs.Over.{OverSet}
use Rattle.avs_entries.specs.Entries.{split, state_by}
use Rattle.avs_compact.specs.declared.fault.CompactFault.{CompactFault}
use Rattle.avs_compact.specs.declared.fault.CompactFault.TheVariants.{Failed}
use Rattle.avs_compact.specs.CompactSet.{CompactSet, entry_of, disk_entry, chunks_of, shadow_image, master_image, room_of}
use Rattle.avs_compact.specs.Disks.{disk_at, Adds}
use Rattle.avs_compact.specs.Work.{AddsUpTo, put_work, write_work, write_most}
use Rattle.avs_compact.specs.Places.{KeepsOver, Splits, SplitsFirst}
use Rattle.avs_compact.specs.Calls.{IsKnown}
use Rattle.avs_compact.specs.Keeping.{IsPlaced, OwnFirst, UsesOwnFirst, IsAlike, IsSameShape, KeepsBitmap, KeepsSlots, CountsSlots}
use Rattle.avs_compact.specs.Saving.{GoesOffline, lacking, need_with}

-- by the memory the chunks of a range are split
pub record AreSplit (s : CompactSet) (at len : ℕ) : Type 0 where
  pub each : (i : ℕ) → i < len → state_by (entry_of s ((at + i) / 64)) ≡ split

-- Blocks of the shadow are written whose chunks are split: at Ok they are put into its image, and at Failed each is old or new. The master's
-- image stays, over any image of its disk, and what is the same on both stays so.
pub record PutsBlocks {T E : Type 0} (old : CompactSet) (o : OverSet) (m : Image) (at : ℕ) (bs : Image) (result : Result T E) (new : CompactSet) (o_new : OverSet) : Type 0 where
  pub master : master_image new o_new m ≡ master_image old o m
  pub alike : IsAlike old o m → IsAlike new o_new m
  pub done : OnOk result (shadow_image new o_new m ≡ put (shadow_image old o m) at bs)
  pub stopped : OnErr result (IsMix (shadow_image old o m) at bs (shadow_image new o_new m))

pub record PutsShadow {T E : Type 0} (old : CompactSet) (o : OverSet) (at : ℕ) (bs : Image) (result : Result T E) (new : CompactSet) (o_new : OverSet) : Type 0 where
  pub is : new ≡ record old { shadow = new.shadow }
  pub there : is_some new.shadow ≡ is_some old.shadow
  pub owners : o_new ≡ record o { disk = o_new.disk }
  pub goes : (m : Seen) → AllGoOn (disk_at old o m) result (disk_at new o_new m)
  pub over : IsPlaced old o → IsTold o.disk → KeepsOver old.set o o_new
  pub blocks : IsKnown old o → IsPlaced old o → (m : Image) → PutsBlocks old o m at bs result new o_new
  pub known : IsKnown old o → IsKnown new o_new
  pub work : (m : Seen) → Adds (disk_at old o m) (put_work old at (length bs)) result (disk_at new o_new m)

-- what a write leaves of the shadow's image, and of the entries: the blocks put into it, and the chunks of the range split
pub record WritesAll (old : CompactSet) (shadow : Image) (at : ℕ) (bs : Image) (new : CompactSet) (shadow_new : Image) : Type 0 where
  pub image : shadow_new ≡ put shadow at bs
  pub split : Splits (disk_entry old) (disk_entry new) (chunks_of old) (first_segment at) (first_segment at + touch_count at (length bs))

-- what one leaves that stopped: some chunks of the range are split, from the first on, and of its blocks each is old or new
pub record StopsWrite (old : CompactSet) (shadow : Image) (at : ℕ) (bs : Image) (new : CompactSet) (shadow_new : Image) : Type 0 where
  pub saved : SplitsFirst (disk_entry old) (disk_entry new) (chunks_of old) (first_segment at) (first_segment at + touch_count at (length bs))
  pub before : saved.upto < first_segment at + touch_count at (length bs) → shadow_new ≡ shadow
  pub mix : IsMix shadow at bs shadow_new

-- the master's image stays, and what is the same on both stays so
pub record KeepsMaster (old : CompactSet) (o : OverSet) (m : Image) (new : CompactSet) (o_new : OverSet) (m_new : Image) : Type 0 where
  pub image : master_image new o_new m_new ≡ master_image old o m
  pub alike : IsAlike old o m → IsAlike new o_new m_new

-- what a write to the shadow keeps, whatever it answers
pub record KeepsWritten {T E : Type 0} (old : CompactSet) (o : OverSet) (m : Seen) (result : Result T E) (new : CompactSet) (o_new : OverSet) (m_new : Seen) : Type 0 where
  pub shape : IsSameShape old new
  pub goes : AllGoOn (disk_at old o m) result (disk_at new o_new m_new)
  pub bitmap : IsTold old.areas.disk → KeepsBitmap old new
  pub slots : KeepsSlots old o new o_new
  pub over : IsPlaced old o → IsTold o.disk → KeepsOver old.set o o_new
  pub master : IsKnown old o → IsPlaced old o → IsTold m → KeepsMaster old o m.image new o_new m_new.image
  pub own_first : IsKnown old o → UsesOwnFirst old → OwnFirst (disk_entry new) old.own (chunks_of old) old.ahead

-- the chunks of a range are saved, and then the range is written in their slots
pub record WritesRange {T E : Type 0} (old : CompactSet) (o : OverSet) (m : Seen) (at : ℕ) (bytes : List ℕ) (result : Result T E) (new : CompactSet) (o_new : OverSet) (m_new : Seen) : Type 0 where
  pub keeps : KeepsWritten old o m result new o_new m_new
  pub done : IsKnown old o → IsPlaced old o → IsTold m
      → OnOk result (WritesAll old (shadow_image old o m.image) at (blocks_of bytes) new (shadow_image new o_new m_new.image))
  pub stopped : IsKnown old o → IsPlaced old o → IsTold m
      → OnErr result (StopsWrite old (shadow_image old o m.image) at (blocks_of bytes) new (shadow_image new o_new m_new.image))
  pub known : IsKnown old o → OnOk result (IsKnown new o_new)
  pub counts : OnOk result (CountsSlots old o (lacking old (first_segment at) (touch_count at (length bytes / 512))) new o_new)
  pub work : AddsUpTo (disk_at old o m) (write_work old new at (length bytes / 512)) (write_most old at (length bytes / 512)) result
      (disk_at new o_new m_new)

-- A write to the shadow. It is refused exactly where the set would need more slots than it has room for, and changes nothing then.
pub record WritesShadow {T : Type 0} (old : CompactSet) (o : OverSet) (m : Seen) (at : ℕ) (bytes : List ℕ) (result : Result T CompactFault) (new : CompactSet) (o_new : OverSet) (m_new : Seen) : Type 0 where
  pub refuses : room_of old o < need_with old (first_segment at) (touch_count at (length bytes / 512))
      → GoesOffline old o m (need_with old (first_segment at) (touch_count at (length bytes / 512))) result new o_new m_new
  pub writes : need_with old (first_segment at) (touch_count at (length bytes / 512)) ≤ room_of old o → WritesRange old o m at bytes result new o_new m_new
  pub cause : need_with old (first_segment at) (touch_count at (length bytes / 512)) ≤ room_of old o → IfErr result (λ e. e ≡ Failed)
