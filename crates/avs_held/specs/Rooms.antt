-- The overflow volume that a set is handed, and the room that the set has.
use Rattle.std.specs.Prelude.{◌≡◌, ℕ, ◌==◌, length, filter}
use Rattle.std.specs.List.{range_with_len}
use Rattle.avs_seg.specs.Image.{block_at}
use Rattle.avs_dev.specs.Seen.{Seen, IsTold}
use Rattle.avs_over.specs.Slots.{owner_at}
use Rattle.avs_over.specs.Over.{OverSet, slots}
use Rattle.avs_sets.specs.Sets.{on_master, SetSeen}
use Rattle.avs_sets.specs.Owners.{Owners, OwnsPlaces, IsServed, OnlyTakes, IsTakenBy}

-- the owners of the slots of an overflow volume
abbrev pub owners_of : OverSet → Owners
owners_of o = λ slot. owner_at o.owners slot

-- the slots there that a set has taken
abbrev pub Mine : SetSeen → OverSet → ℕ → Type 0
Mine s o = IsTakenBy (owners_of o) s.slot

-- a set with the disk of its master and its overflow volume
pub record OnDisks : Type 0 where
  pub set : SetSeen
  pub master : Seen
  pub over : OverSet

abbrev pub on_disks : SetSeen → Seen → OverSet → OnDisks
on_disks s m o = record { set = s; master = m; over = o }

-- its slots of the overflow volume are its own
abbrev pub IsOwned : OnDisks → Type 0
IsOwned s = OwnsPlaces (owners_of s.over) s.set

-- Of the overflow volume a set keeps what it has: the slots in which its contents stand are there, and its own. It may take free ones,
-- and no other owner changes.
pub record KeepsOwned (old new : OnDisks) : Type 0 where
  pub served : IsOwned old → IsServed (slots old.over) old.set → IsServed (slots new.over) new.set
  pub owned : IsOwned old → IsOwned new
  pub takes : OnlyTakes old.set.slot (owners_of old.over) (owners_of new.over)
  pub label : IsOwned old → IsTold old.over.disk → block_at new.over.disk.image 0 ≡ block_at old.over.disk.image 0

-- ---- room

-- how many of so many chunks from one on have no contents of their own
abbrev pub lacking : SetSeen → ℕ → ℕ → ℕ
lacking s first count = length (filter (λ c. s.memory.state c == on_master) (range_with_len first count))
