-- A queue: a list of entries with consecutive places, and how much of it there may be.
use Rattle.std.specs.Prelude.{◌≡◌, ◌≢◌, ℕ, ◌+◌, ◌-◌, ◌<◌, ◌≤◌, Bool, ◌||◌, nat_le, nat_lt, if◌then◌else◌, Option, None, Some, List, [], ◌∷◌, ◌++◌, length, sum_by, drop, slice_get}
use Rattle.avs_model.specs.declared.entry.Entry.{Entry}
use Rattle.avs_model.specs.declared.entry.Limits.{Limits}
use Rattle.avs_model.specs.declared.entry.Full.{Full}

-- the place of the first entry (any, where there is none), the entries in order of place, and the limits
pub record Queue : Type 0 where
  pub first : ℕ
  pub entries : List Entry
  pub limits : Limits

-- the place behind the last entry
abbrev pub next_place : Queue → ℕ
next_place queue = queue.first + length queue.entries

-- the entry of a place
abbrev pub entry_at : Queue → ℕ → Option Entry
entry_at queue place = if nat_le queue.first place then slice_get queue.entries (place - queue.first) else None

-- an entry of that place is held
pub record IsHeld (queue : Queue) (place : ℕ) : Type 0 where
  pub low : queue.first ≤ place
  pub high : place < next_place queue

-- how many blocks an entry has, and how many the entries have together
abbrev pub blocks_of_entry : Entry → ℕ
blocks_of_entry entry = length entry.bytes

abbrev pub blocks_held : Queue → ℕ
blocks_held queue = sum_by blocks_of_entry queue.entries

-- as many entries are held as there may be, or the blocks held and so many more are together more than there may be
abbrev pub is_full_for : Queue → ℕ → Bool
is_full_for queue blocks =
    nat_le queue.limits.writes (length queue.entries)
    || nat_lt queue.limits.blocks (blocks_held queue + blocks)

-- a new entry does not fit
abbrev pub is_full : Queue → Entry → Bool
is_full queue entry = is_full_for queue (blocks_of_entry entry)

-- what a full queue holds
abbrev pub full_of : Queue → Full
full_of queue = record { writes = length queue.entries; blocks = blocks_held queue }

-- no more is held than there may be
pub record KeepsLimits (queue : Queue) : Type 0 where
  pub writes : length queue.entries ≤ queue.limits.writes
  pub blocks : blocks_held queue ≤ queue.limits.blocks

-- the new queue has one more entry, the last one, at this place
pub record Pushes (old : Queue) (place : ℕ) (entry : Entry) (new : Queue) : Type 0 where
  pub entries : new.entries ≡ old.entries ++ entry ∷ []
  pub next : next_place new ≡ place + 1
  pub limits : new.limits ≡ old.limits
  -- by place
  pub there : entry_at new place ≡ Some entry
  pub others : (p : ℕ) → p ≢ place → entry_at new p ≡ entry_at old p

-- the new queue has the entries above a place
pub record Advances (old : Queue) (upto : ℕ) (new : Queue) : Type 0 where
  pub entries : new.entries ≡ drop (upto + 1 - old.first) old.entries
  pub next : next_place new ≡ next_place old
  pub limits : new.limits ≡ old.limits
  -- by place
  pub gone : (p : ℕ) → p ≤ upto → entry_at new p ≡ None
  pub others : (p : ℕ) → upto < p → entry_at new p ≡ entry_at old p
  -- where no entry is above the place none is held, and the next one may have any place
  pub empties : next_place old ≤ upto + 1 → new.entries ≡ []
