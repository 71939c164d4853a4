-- The entries of a set, and the table of its own slots that goes with them.
use Rattle.std.specs.Prelude.{◌≡◌, ◌≢◌, ◌⊎◌, ℕ, ◌+◌, ◌<◌, ◌≤◌, nat_lt, true, if◌then◌else◌, List, length, None, Some, slice_set}
use Rattle.avs_over.specs.Slots.{Owners, owner_at, used_in}
use Rattle.avs_entries.specs.Entries.{slot_by, IsEntry, entry_in}
use Rattle.avs_entries.specs.Counting.{is_own, is_over, count_of}
use Rattle.avs_entries.specs.declared.marks.Counts.{Counts}

-- the first n entries keep their form, and no own slot stands in two of them
pub record AreEntries (entries : ℕ → ℕ) (own n : ℕ) : Type 0 where
  pub form : (c : ℕ) → c < n → IsEntry (entries c)
  pub apart : (c d : ℕ) → c < d → d < n → entries c ≢ 0 → entries d ≢ 0 → slot_by (entries c) < own → slot_by (entries d) ≢ slot_by (entries c)

-- an entry has no such form, or its own slot stands in one before it
pub record IsBadAt (entries : ℕ → ℕ) (own n place : ℕ) : Type 0 where
  pub there : place < n
  pub bad : (IsEntry (entries place) → ⊥) ⊎ ((c : ℕ) × ((c < place) × ((entries c ≢ 0) × ((slot_by (entries c) < own) × ((entries place ≢ 0) × (slot_by (entries place) ≡ slot_by (entries c)))))))

pub record HasBadEntry (entries : ℕ → ℕ) (own n : ℕ) : Type 0 where
  pub place : ℕ
  pub is : IsBadAt entries own n place

-- the table of the own slots has for each the chunk whose entry has it, among the first n
pub record AreMarked (entries : ℕ → ℕ) (n : ℕ) (table : Owners) : Type 0 where
  pub given : (c : ℕ) → c < n → entries c ≢ 0 → slot_by (entries c) < length table → owner_at table (slot_by (entries c)) ≡ Some c
  pub others : (k c : ℕ) → owner_at table k ≡ Some c → (c < n) × ((entries c ≢ 0) × (slot_by (entries c) ≡ k))

-- what stands once the first n entries were gone through: their form, the table, and two counts
pub record Marks (entries : ℕ → ℕ) (own n : ℕ) (table : Owners) (counts : Counts) : Type 0 where
  pub form : (c : ℕ) → c < n → IsEntry (entries c)
  pub long : length table ≡ own
  pub marked : AreMarked entries n table
  pub in_table : used_in table ≡ counts.own
  pub own_count : counts.own ≡ count_of (is_own own) entries n
  pub over_count : counts.over ≡ count_of (is_over own) entries n

-- one entry more is gone through
pub record MarksOne (old : Owners) (before : Counts) (chunk entry : ℕ) (new : Owners) (after : Counts) : Type 0 where
  pub form : IsEntry entry
  pub free : is_own (length old) entry ≡ true → owner_at old (slot_by entry) ≡ None
  pub table : new ≡ (if is_own (length old) entry then slice_set old (slot_by entry) (Some chunk) else old)
  pub own : after.own ≡ before.own + (if is_own (length old) entry then 1 else 0)
  pub over : after.over ≡ before.over + (if is_over (length old) entry then 1 else 0)

-- what stands in a table once a chunk has a slot: the slot is the chunk's where it is one of the table
pub record MarksSlot (old : Owners) (before : Counts) (chunk slot : ℕ) (new : Owners) (after : Counts) : Type 0 where
  pub table : new ≡ (if nat_lt slot (length old) then slice_set old slot (Some chunk) else old)
  pub own : after.own ≡ before.own + (if nat_lt slot (length old) then 1 else 0)
  pub over : after.over ≡ before.over + (if nat_lt slot (length old) then 0 else 1)

-- an entry can't be gone through: it has no such form, or its own slot is given
abbrev pub IsBadMark : Owners → ℕ → Type 0
IsBadMark table entry = (IsEntry entry → ⊥) ⊎ ((entry ≢ 0) × ((slot_by entry < length table) × (owner_at table (slot_by entry) ≢ None)))

-- the entries behind the last chunk are zeros
pub record IsClean (bytes : List ℕ) (chunks : ℕ) : Type 0 where
  pub each : (c : ℕ) → chunks ≤ c → entry_in bytes c ≡ 0
