-- A group as its calls see it.
use Rattle.std.specs.Prelude.{ℕ, ◌<◌, ◌^◌, Option, None, Some, List, length, map, slice_index_or}
use Rattle.std.specs.Option.{option_map}
use Rattle.avs_dev.specs.Seen.{Seen}
use Rattle.avs_over.specs.Over.{OverSet, slots}
use Rattle.avs_compact.specs.CompactSet.{over_of}
use Rattle.avs_sets.specs.Sets.{SetSeen}
use Rattle.avs_sets.specs.Meaning.{GroupSeen, set_of}
use Rattle.avs_sets.specs.Whole.{IsKept, AreHere}
use Rattle.avs_sets.specs.Owners.{AreOwned, IsServed}
use Rattle.avs_state.specs.Saying.{says_of, said_on}
use Rattle.avs_state.specs.StateDisk.{StateSeen}
use Rattle.avs_held.specs.Held.{Held, seen_of}
use Rattle.avs_held.specs.Rooms.{owners_of}

-- Its state disk with the block in memory, the disks of its volumes and its overflow volumes by number, where a hole has none, and its sets in
-- order of enabling, those that are not enabled yet behind them.
pub record Group : Type 0 where
  pub state : StateSeen
  pub volumes : List (Option Seen)
  pub overs : List (Option OverSet)
  pub sets : List SetSeen

-- as it is held: sets in chunks alone, so far
pub record GroupData : Type 0 where
  pub state : StateSeen
  pub volumes : List (Option Seen)
  pub overs : List (Option OverSet)
  pub sets : List Held

abbrev pub seen : GroupData → Group
seen g = record { state = g.state; volumes = g.volumes; overs = g.overs; sets = map seen_of g.sets }

-- the disks of overflow volumes, and the overflow volume of a number: where it is not there, it has no slot
abbrev pub over_disks : List (Option OverSet) → List (Option Seen)
over_disks overs = map (λ one. option_map (λ (o : OverSet). o.disk) one) overs

abbrev pub over_at : List (Option OverSet) → Option ℕ → OverSet
over_at overs None = over_of None
over_at overs (Some number) = over_of (slice_index_or overs number None)

-- what the disks and the memory of a group are
abbrev pub group_of : Group → GroupSeen
group_of g = record {
  state = g.state.disk;
  says = said_on g.state.disk;
  memory = says_of g.state.block;
  volumes = g.volumes;
  overs = over_disks g.overs;
  sets = g.sets;
}

-- The slots of overflow volumes: each set of one has its contents in slots there that it has taken.
pub record OwnSlots (g : Group) : Type 0 where
  pub owned : (over : Option ℕ) → AreOwned (group_of g) over (owners_of (over_at g.overs over))
  pub served : (k : ℕ) → k < length g.sets → IsServed (slots (over_at g.overs (set_of g.sets k).over)) (set_of g.sets k)

-- what it keeps, whatever fails
pub record IsKeptGroup (g : Group) : Type 0 where
  pub kept : IsKept g.volumes (over_disks g.overs) g.sets
  pub here : AreHere (says_of g.state.block) g.sets
  pub slots : OwnSlots g
  pub count : length g.volumes < 2 ^ 32
