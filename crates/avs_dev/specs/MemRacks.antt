-- Racks of disks in memory, and which of their calls are refused.
use Rattle.std.specs.Prelude.{ℕ, Bool, true, if◌then◌else◌, ◌==◌, List, length}
use Rattle.std.specs.List.{list_any}
use Rattle.avs_dev.specs.Rack.{RackSeen}
use Rattle.avs_dev.specs.Memory.{counted}
use Rattle.avs_dev.specs.declared.mem_rack.MemRack.{MemRack}

-- a rack in memory: the numbers of the calls that are to be refused, those of the calls of its disks that are to fail,
-- how many calls it had, how many were refused, and how many disks were made
pub record RackState : Type 0 where
  pub fails : List ℕ
  pub disk_fails : List ℕ
  pub calls : ℕ
  pub faults : ℕ
  pub made : ℕ

abbrev pub rack_of : MemRack → RackState
rack_of r = record { fails = r.fails.items; disk_fails = r.disk_fails.items; calls = r.calls; faults = r.faults; made = r.made }

-- what it is as a rack: its disks tell their blocks, and are steady where none of their calls is to fail
abbrev pub rack_seen_of : RackState → RackSeen
rack_seen_of r = record { faults = r.faults; made = r.made; tells = true; steady = length r.disk_fails == 0 }

-- whether the next call is on the list of those that are refused
abbrev pub is_refusing : RackState → Bool
is_refusing r = list_any (λ k. k == counted r.calls 1) r.fails

-- the rack after a call is counted
abbrev pub after_make : RackState → RackState
after_make r = record r { calls = counted r.calls 1; faults = if is_refusing r then counted r.faults 1 else r.faults }

-- the rack after a disk is made
abbrev pub with_made : RackState → RackState
with_made r = record r { made = counted r.made 1 }

-- the rack after a call, by whether a disk was made
abbrev pub rack_after : Bool → RackState → RackState
rack_after made r = if made then with_made (after_make r) else after_make r
