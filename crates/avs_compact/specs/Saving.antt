-- Saving chunks before the master or the shadow changes there, and why it is refused.
use Rattle.std.specs.Prelude.{◌≡◌, ◌≢◌, ℕ, ◌+◌, ◌<◌, ◌≤◌, ◌==◌, filter, length, Result, IsOk, OnOk, OnErr, IfErr}
use Rattle.std.specs.List.{range_with_len}
use Rattle.avs_dev.specs.Seen.{Seen}
use Rattle.avs_over.specs.Over.{OverSet}
use Rattle.avs_entries.specs.Entries.{split, state_by}
use Rattle.avs_compact.specs.declared.fault.CompactFault.{CompactFault}
use Rattle.avs_compact.specs.declared.fault.CompactFault.TheVariants.{Offline, Failed}
use Rattle.avs_compact.specs.CompactSet.{CompactSet, entry_of, disk_entry, chunks_of, need_of, room_of}
use Rattle.avs_compact.specs.Disks.{disk_at}
use Rattle.avs_compact.specs.Work.{AddsUpTo, saved_work, saved_most}
use Rattle.avs_compact.specs.Places.{Splits, SplitsFirst}
use Rattle.avs_compact.specs.Calls.{IsKnown}
use Rattle.avs_compact.specs.Keeping.{KeepsSet, CountsSlots, Settles, DoesNothing}

-- how many of so many chunks from one on have no slot
abbrev pub lacking : CompactSet → ℕ → ℕ → ℕ
lacking s first count = length (filter (λ c. entry_of s c == 0) (range_with_len first count))

-- how many slots the set needs once they are saved
abbrev pub need_with : CompactSet → ℕ → ℕ → ℕ
need_with s first count = need_of s + lacking s first count

-- a chunk is settled as split, and nothing is done where it is
pub record SavesOne {T E : Type 0} (old : CompactSet) (o : OverSet) (m : Seen) (chunk : ℕ) (result : Result T E) (new : CompactSet) (o_new : OverSet) (m_new : Seen) : Type 0 where
  pub settles : state_by (entry_of old chunk) ≢ split → Settles old o m chunk split result new o_new m_new
  pub nothing : state_by (entry_of old chunk) ≡ split → IsOk result × DoesNothing old o m new o_new m_new

-- the chunks from `first` up to `end` are split, and where that fails some of them, from the first on
pub record SavesAll {T E : Type 0} (old : CompactSet) (o : OverSet) (m : Seen) (first count : ℕ) (result : Result T E) (new : CompactSet) (o_new : OverSet) (m_new : Seen) : Type 0 where
  pub keeps : KeepsSet old o m result new o_new m_new
  pub done : IsKnown old o → OnOk result (Splits (disk_entry old) (disk_entry new) (chunks_of old) first (first + count))
  pub stopped : IsKnown old o → OnErr result (SplitsFirst (disk_entry old) (disk_entry new) (chunks_of old) first (first + count))
  pub known : IsKnown old o → OnOk result (IsKnown new o_new)
  pub memory : OnOk result (Splits (entry_of old) (entry_of new) (chunks_of old) first (first + count))
  pub counts : OnOk result (CountsSlots old o (lacking old first count) new o_new)
  pub work : AddsUpTo (disk_at old o m) (saved_work old new first count) (saved_most old first count) result (disk_at new o_new m_new)

-- nothing is done, and the answer tells the two numbers
pub record GoesOffline {T : Type 0} (old : CompactSet) (o : OverSet) (m : Seen) (need : ℕ) (result : Result T CompactFault) (new : CompactSet) (o_new : OverSet) (m_new : Seen) : Type 0 where
  pub told : IfErr result (λ e. e ≡ Offline need (room_of old o))
  pub refused : OnOk result ⊥
  pub nothing : DoesNothing old o m new o_new m_new

-- The chunks of a range are saved. That is refused exactly where the set would need more slots than it has room for.
pub record SavesRange {T : Type 0} (old : CompactSet) (o : OverSet) (m : Seen) (first count : ℕ) (result : Result T CompactFault) (new : CompactSet) (o_new : OverSet) (m_new : Seen) : Type 0 where
  pub refuses : room_of old o < need_with old first count → GoesOffline old o m (need_with old first count) result new o_new m_new
  pub saves : need_with old first count ≤ room_of old o → SavesAll old o m first count result new o_new m_new
  pub cause : need_with old first count ≤ room_of old o → IfErr result (λ e. e ≡ Failed)
