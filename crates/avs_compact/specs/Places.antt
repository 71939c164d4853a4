-- Which slots stand in the entries of a set, and what its calls do to the owners of an overflow volume.
use Rattle.std.specs.Prelude.{◌≡◌, ◌≢◌, ◌⊎◌, ℕ, ◌+◌, ◌-◌, ◌<◌, ◌≤◌, length, None, Some}
use Rattle.avs_seg.specs.Image.{block_at}
use Rattle.avs_over.specs.Slots.{Owners, owner_at}
use Rattle.avs_over.specs.Over.{OverSet, slot_from}
use Rattle.avs_entries.specs.Entries.{IsEntry, slot_by, state_by}

-- each of the first n entries has its form, no slot stands in two of them, and those of the overflow volume are given to the set
pub record ArePlaced (entries : ℕ → ℕ) (own n set : ℕ) (owners : Owners) : Type 0 where
  pub form : (c : ℕ) → c < n → IsEntry (entries c)
  pub apart : (c d : ℕ) → c < n → d < n → c ≢ d → entries c ≢ 0 → entries d ≢ 0 → slot_by (entries d) ≢ slot_by (entries c)
  pub mine : (c : ℕ) → c < n → entries c ≢ 0 → own ≤ slot_by (entries c) → owner_at owners (slot_by (entries c) - own) ≡ Some set

-- slots that were free may be given to a set, and no other owner changes
pub record OnlyTakes (set : ℕ) (old new : Owners) : Type 0 where
  pub long : length new ≡ length old
  pub each : (k : ℕ) → (owner_at new k ≡ owner_at old k) ⊎ ((owner_at old k ≡ None) × (owner_at new k ≡ Some set))

-- of an overflow volume nothing changes but in slots that are given to the set
pub record KeepsOver (set : ℕ) (old new : OverSet) : Type 0 where
  pub label : block_at new.disk.image 0 ≡ block_at old.disk.image 0
  pub slots : (k i : ℕ) → i < 64 → owner_at new.owners k ≢ Some set → block_at new.disk.image (slot_from k + i) ≡ block_at old.disk.image (slot_from k + i)

-- Of n entries one tells another state, in the slot that it had, where it had one. The others are as before.
pub record SetsEntry (old new : ℕ → ℕ) (n chunk state : ℕ) : Type 0 where
  pub now : state_by (new chunk) ≡ state
  pub slot : old chunk ≢ 0 → slot_by (new chunk) ≡ slot_by (old chunk)
  pub others : (c : ℕ) → c < n → c ≢ chunk → new c ≡ old c

-- all of n entries are as before
pub record AreSame (old new : ℕ → ℕ) (n : ℕ) : Type 0 where
  pub each : (c : ℕ) → c < n → new c ≡ old c

-- of n entries those from `first` up to `end` tell that their chunks are split, in the slots that they had, and the others are as before
pub record Splits (old new : ℕ → ℕ) (n first end : ℕ) : Type 0 where
  pub inside : (c : ℕ) → c < n → first ≤ c → c < end → state_by (new c) ≡ 2
  pub slots : (c : ℕ) → c < n → old c ≢ 0 → slot_by (new c) ≡ slot_by (old c)
  pub outside : (c : ℕ) → c < n → (c < first) ⊎ (end ≤ c) → new c ≡ old c

-- some of the entries from `first` up to `end`, from the first on
pub record SplitsFirst (old new : ℕ → ℕ) (n first end : ℕ) : Type 0 where
  pub upto : ℕ
  pub low : first ≤ upto
  pub high : upto ≤ end
  pub splits : Splits old new n first upto
