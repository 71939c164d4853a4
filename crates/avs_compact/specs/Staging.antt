-- An update: the entries that a set is to have are staged, and one commit elsewhere makes them live.
use Rattle.std.specs.Prelude.{◌≡◌, ℕ, ◌+◌, ◌*◌, ◌<◌, ◌≤◌, not, Result, Ok, OnOk, OnErr}
use Rattle.avs_seg.specs.declared.fault.Failed.{Failed}
use Rattle.avs_dev.specs.Seen.{IsTold, GoesOn}
use Rattle.avs_flip.specs.Areas.{live, staged}
use Rattle.avs_over.specs.Over.{OverSet}
use Rattle.avs_entries.specs.Entries.{area_len}
use Rattle.avs_entries.specs.Slots.{AreEntries, HasBadEntry}
pub use Rattle.avs_entries.specs.Staging.{AreSetTo, to_master}
pub use Rattle.avs_entries.specs.Parts.{told_by, part_end, is_ahead, lacking_told}
use Rattle.avs_entries.specs.Staging.{KeepsLive}
use Rattle.avs_compact.specs.CompactSet.{CompactSet, disk_of, chunks_of, entry_of, next_of, staged_entry}
use Rattle.avs_compact.specs.Disks.{raised}
use Rattle.avs_compact.specs.Calls.{IsKnown}

-- The entries of n blocks of 128 from one on are staged, on the disk and in memory. Nothing that is live changes.
pub record StagesBlocks {T E : Type 0} (old : CompactSet) (to : ℕ → ℕ) (first n : ℕ) (result : Result T E) (new : CompactSet) : Type 0 where
  pub is : new ≡ record old { areas = record old.areas { disk = new.areas.disk }; next = new.next }
  pub goes : GoesOn old.areas.disk result new.areas.disk
  pub kept : IsTold old.areas.disk → KeepsLive old.areas new.areas
  pub staged : IsTold old.areas.disk → OnOk result (AreSetTo (staged_entry old) (staged_entry new) to (128 * first) (128 * (first + n)))
  pub held : OnOk result (AreSetTo (next_of old) (next_of new) to (128 * first) (128 * (first + n)))
  pub written : OnOk result (new.areas.disk.written ≡ raised old.areas.disk.written n)
  pub most : OnErr result (new.areas.disk.written ≤ old.areas.disk.written + n)

-- all entries of a set were staged
abbrev pub StagesAll : CompactSet → (ℕ → ℕ) → CompactSet → Type 0
StagesAll old to new = StagesBlocks {T = Unit {0}} {E = Failed} old to 0 (area_len (chunks_of old)) (Ok tt) new

-- what is staged on the disk is what is staged in memory: every block was staged
pub record IsReady (s : CompactSet) : Type 0 where
  pub each : (c : ℕ) → c < chunks_of s → staged_entry s c ≡ next_of s c

-- The other area is live, and the memory has the entries that were staged. Where every block was, the set is in step. Entries that break
-- their rules are forgotten: no chunk has a slot then.
pub record TurnsSet (old new : CompactSet) : Type 0 where
  pub rest : new ≡ record old { areas = record old.areas { live_b = not old.areas.live_b }; memory = new.memory; next = old.memory; low = 0; ahead = 0 }
  pub now_live : live new.areas ≡ staged old.areas
  pub now_staged : staged new.areas ≡ live old.areas
  pub memory : AreEntries (next_of old) old.own (chunks_of old) → new.memory ≡ old.next
  pub broken : HasBadEntry (next_of old) old.own (chunks_of old) → (c : ℕ) → entry_of new c ≡ 0
  pub known : (o : OverSet) → IsTold (disk_of old.shadow) → IsTold old.areas.disk → IsTold o.disk → IsReady old
      → AreEntries (next_of old) old.own (chunks_of old) → IsKnown new o
