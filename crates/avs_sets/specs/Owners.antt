-- The slots of an overflow volume, and the sets that have taken them. A set takes slots by the
-- number of its own slot in the group. No disk tells the owners: they are kept in memory alone.
use Rattle.std.specs.Prelude.{◌≡◌, ◌≢◌, ◌⊎◌, ℕ, ◌<◌, ◌≤◌, Bool, true, Option, None, Some, length}
use Rattle.avs_sets.specs.Sets.{on_master, OverSlot, SetSeen, chunks_of}
use Rattle.avs_sets.specs.Meaning.{GroupSeen, set_of, is_enabled}

-- of each slot the number of the set that has taken it, None where it is free
abbrev pub Owners : Type 0
Owners = ℕ → Option ℕ

-- By the memory each chunk that has contents of its own has them in a place of its own, and where
-- that is a slot of the overflow volume, the set has taken it.
pub record OwnsPlaces (owners : Owners) (s : SetSeen) : Type 0 where
  pub apart : (c d : ℕ) → c < chunks_of s → d < chunks_of s → c ≢ d → s.memory.state c ≢ on_master
      → s.memory.state d ≢ on_master → s.memory.place d ≢ s.memory.place c
  pub taken : (c slot : ℕ) → c < chunks_of s → s.memory.state c ≢ on_master → s.memory.place c
      ≡ OverSlot slot → owners slot ≡ Some s.slot

-- the slots in which such contents stand are among so many
pub record IsServed (slots : ℕ) (s : SetSeen) : Type 0 where
  pub each : (c slot : ℕ) → c < chunks_of s → s.memory.state c ≢ on_master → s.memory.place c
      ≡ OverSlot slot → slot < slots

-- one of them is not
pub record LacksSlot (slots : ℕ) (s : SetSeen) : Type 0 where
  pub chunk : ℕ
  pub slot : ℕ
  pub there : chunk < chunks_of s
  pub some : s.memory.state chunk ≢ on_master
  pub at : s.memory.place chunk ≡ OverSlot slot
  pub lacks : slots ≤ slot

-- slots that were free may be taken by a set, and no other owner changes
pub record OnlyTakes (set : ℕ) (old new : Owners) : Type 0 where
  pub each : (slot : ℕ) → (new slot ≡ old slot) ⊎ ((old slot ≡ None) × (new slot ≡ Some set))

-- a slot that a set has taken
abbrev pub IsTakenBy : Owners → ℕ → ℕ → Type 0
IsTakenBy owners set slot = owners slot ≡ Some set

-- in both areas no place behind the last chunk of a set is in the overflow volume
pub record EndsThere (s : SetSeen) : Type 0 where
  pub each : (b : Bool) (c slot : ℕ) → chunks_of s ≤ c → (s.area b).state c ≢ on_master
      → (s.area b).place c ≢ OverSlot slot

-- In a group each set ends where its chunks do, and those that are enabled and use this overflow
-- volume own their places there.
pub record AreOwned (g : GroupSeen) (over : Option ℕ) (owners : Owners) : Type 0 where
  pub ends : (j : ℕ) → j < length g.sets → EndsThere (set_of g.sets j)
  pub owned : (j : ℕ) → j < length g.sets → is_enabled g.memory (set_of g.sets j) ≡ true
      → (set_of g.sets j).over ≡ over → OwnsPlaces owners (set_of g.sets j)
