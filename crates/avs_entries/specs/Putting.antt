-- The block with the entry of a chunk is written.
use Rattle.std.specs.Prelude.{◌≡◌, ◌≢◌, ◌⊎◌, ℕ, ◌+◌, ◌/◌, List, length, Result, OnOk, OnErr}
use Rattle.avs_seg.specs.Image.{Image, ChangesWithin}
use Rattle.avs_dev.specs.Seen.{Seen, IsTold, GoesOn}
use Rattle.avs_dev.specs.Memory.{counted}
use Rattle.avs_flip.specs.Areas.{Areas, live, staged, live_from}
use Rattle.avs_entries.specs.Entries.{entry_in, entry_on}

-- an area after the block with the entry of a chunk was written from memory, with this entry
pub record HasEntries (memory : List ℕ) (old new : Image) (chunk entry : ℕ) : Type 0 where
  pub now : entry_on new chunk ≡ entry
  pub near : (c : ℕ) → c ≢ chunk → c / 128 ≡ chunk / 128 → entry_on new c ≡ entry_in memory c
  pub far : (c : ℕ) → c / 128 ≢ chunk / 128 → entry_on new c ≡ entry_on old c

-- the entry of a chunk in memory is set, and no other
pub record PutsEntry (old new : List ℕ) (chunk entry : ℕ) : Type 0 where
  pub now : entry_in new chunk ≡ entry
  pub others : (c : ℕ) → c ≢ chunk → entry_in new c ≡ entry_in old c

-- the live area has the entry then, and where the write fails it has it or is as before
pub record WritesLive {T E : Type 0} (memory : List ℕ) (old : Image) (chunk entry : ℕ) (result : Result T E) (new : Image) : Type 0 where
  pub done : OnOk result (HasEntries memory old new chunk entry)
  pub failed : OnErr result ((new ≡ old) ⊎ HasEntries memory old new chunk entry)

-- one block of a disk is written
pub record WritesBlock {T E : Type 0} (old : Seen) (result : Result T E) (new : Seen) : Type 0 where
  pub goes : GoesOn old result new
  pub counted : OnOk result (new.written ≡ counted old.written 1)
  pub uncounted : OnErr result (new.written ≡ old.written)

-- the entry of a chunk is written, and then kept in memory
pub record WritesEntry {T E : Type 0} (old : Areas) (memory : List ℕ) (chunk entry : ℕ) (result : Result T E) (new : Areas) (memory_new : List ℕ) : Type 0 where
  pub place : new ≡ record old { disk = new.disk }
  pub len : length memory_new ≡ length memory
  pub writes : WritesBlock old.disk result new.disk
  pub staged : IsTold old.disk → staged new ≡ staged old
  pub within : IsTold old.disk → ChangesWithin (live_from old + chunk / 128) 1 old.disk.image new.disk.image
  pub at_exit : IsTold old.disk → WritesLive memory (live old) chunk entry result (live new)
  pub set : OnOk result (PutsEntry memory memory_new chunk entry)
  pub unset : OnErr result (memory_new ≡ memory)
