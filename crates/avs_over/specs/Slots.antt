-- The slots of an overflow volume, and the sets that they are given to.
use Rattle.std.specs.Prelude.{◌≡◌, ◌≢◌, ◌⊎◌, ℕ, ◌-◌, ◌/◌, ◌<◌, ◌≤◌, ◌==◌, Bool, false, if◌then◌else◌, List, [], ◌∷◌, length, count_by, Option, None, Some, is_some, IfSome, IfNone, Result, OnOk, OnErr, slice_get, slice_set, slice_index_or}

-- for each slot the number of the set that it is given to, None where it is free
abbrev pub Owners : Type 0
Owners = List (Option ℕ)

abbrev pub owner_at : Owners → ℕ → Option ℕ
owner_at owners slot = slice_index_or owners slot None

-- how many slots a disk of so many blocks has: 64 blocks each, behind the block of the label
abbrev pub slots_of : ℕ → ℕ
slots_of size = (size - 1) / 64

-- how many are given to sets
abbrev pub used_in : Owners → ℕ
used_in owners = count_by is_some owners

-- whether an owner is this set
abbrev pub is_of : ℕ → Option ℕ → Bool
is_of set None = false
is_of set (Some by) = by == set

-- how many are given to this set
abbrev pub given_to : ℕ → Owners → ℕ
given_to set owners = count_by (is_of set) owners

-- an owner once the slots of a set are free
abbrev pub without : ℕ → Option ℕ → Option ℕ
without set owner = if is_of set owner then None else owner

-- the least free slot from one on, and None where there is none
pub record FindsFree (owners : Owners) (from : ℕ) (result : Option ℕ) : Type 0 where
  pub inside : IfSome result (λ slot. (from ≤ slot) × (slot < length owners))
  pub free : IfSome result (λ slot. owner_at owners slot ≡ None)
  pub least : IfSome result (λ slot. (k : ℕ) → from ≤ k → k < slot → owner_at owners k ≢ None)
  pub none : IfNone result ((k : ℕ) → from ≤ k → k < length owners → owner_at owners k ≢ None)

-- a list of pairs of a set and a slot that is given to it
abbrev pub Taken : Type 0
Taken = List (ℕ × ℕ)

abbrev pub set_at : Taken → ℕ → ℕ
set_at taken place = (slice_index_or taken place (0, 0)).0

abbrev pub slot_at : Taken → ℕ → ℕ
slot_at taken place = (slice_index_or taken place (0, 0)).1

-- none of the first n pairs has this slot
pub record IsUnnamed (taken : Taken) (n slot : ℕ) : Type 0 where
  pub others : (i : ℕ) → i < n → slot_at taken i ≢ slot

-- each slot of the first n pairs is below a number, and none stands there twice
pub record AreApart (taken : Taken) (n slots : ℕ) : Type 0 where
  pub below : (i : ℕ) → i < n → slot_at taken i < slots
  pub apart : (i j : ℕ) → i < j → j < n → slot_at taken i ≢ slot_at taken j

-- a slot of the list is not below the number, or one of the pairs before has it too
pub record IsBadAt (taken : Taken) (slots place : ℕ) : Type 0 where
  pub there : place < length taken
  pub bad : (slots ≤ slot_at taken place) ⊎ ((i : ℕ) × ((i < place) × (slot_at taken i ≡ slot_at taken place)))

pub record HasBadSlot (taken : Taken) (slots : ℕ) : Type 0 where
  pub place : ℕ
  pub is : IsBadAt taken slots place

-- the slots of the first n pairs are given as they say, and the others are free
pub record AreGiven (taken : Taken) (n : ℕ) (owners : Owners) : Type 0 where
  pub given : (i : ℕ) → i < n → owner_at owners (slot_at taken i) ≡ Some (set_at taken i)
  pub others : (slot : ℕ) → IsUnnamed taken n slot → owner_at owners slot ≡ None
  pub used : used_in owners ≡ n
