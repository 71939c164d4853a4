-- The entries that an update stages, a block with 128 after another.
use Rattle.std.specs.Prelude.{◌≡◌, ◌⊎◌, ℕ, ◌+◌, ◌*◌, ◌<◌, ◌≤◌, ◌==◌, if◌then◌else◌, List, Result, OnOk, OnErr}
use Rattle.avs_seg.specs.Image.{block_at}
use Rattle.avs_dev.specs.Seen.{IsTold, GoesOn}
use Rattle.avs_dev.specs.Memory.{counted}
use Rattle.avs_flip.specs.Areas.{Areas, live, staged}
use Rattle.avs_entries.specs.declared.staging.Update.{Update}
use Rattle.avs_entries.specs.declared.staging.Update.TheVariants.{ToShadow, ToMaster}
use Rattle.avs_entries.specs.Entries.{split, on_shadow, state_by, slot_by, entry_for, entry_in, entry_on}

-- the entry of a chunk once the master is the shadow: those that are split stand in their slots alone then
abbrev pub to_master : ℕ → ℕ
to_master entry = if state_by entry == split then entry_for on_shadow (slot_by entry) else entry

-- What an update makes of an entry. Once the shadow is its master again no chunk has a slot.
abbrev pub updated : Update → ℕ → ℕ
updated ToShadow entry = 0
updated ToMaster entry = to_master entry

-- of the entries those from `first` up to `end` are set, and the others are as they were
pub record AreSetTo (old new to : ℕ → ℕ) (first end : ℕ) : Type 0 where
  pub inside : (c : ℕ) → first ≤ c → c < end → new c ≡ to c
  pub outside : (c : ℕ) → (c < first) ⊎ (end ≤ c) → new c ≡ old c

-- of a bitmap's disk the label stays, and what is live
pub record KeepsLive (old new : Areas) : Type 0 where
  pub label : block_at new.disk.image 0 ≡ block_at old.disk.image 0
  pub live : live new ≡ live old

-- the block with 128 entries is staged from memory
pub record StagesNext {T E : Type 0} (old : Areas) (next : List ℕ) (at : ℕ) (result : Result T E) (new : Areas) : Type 0 where
  pub place : new ≡ record old { disk = new.disk }
  pub goes : GoesOn old.disk result new.disk
  pub kept : IsTold old.disk → KeepsLive old new
  pub staged : IsTold old.disk → OnOk result (AreSetTo (entry_on (staged old)) (entry_on (staged new)) (entry_in next) (128 * at) (128 * (at + 1)))
  pub counted : OnOk result (new.disk.written ≡ counted old.disk.written 1)
  pub uncounted : OnErr result (new.disk.written ≡ old.disk.written)
