-- What reads and writes of ranges make of a store and of a group in memory.
use Rattle.std.specs.Prelude.{◌≡◌, ◌⊎◌, ℕ, ◌*◌, ◌/◌, Bool, true, false, IsTrue, ⊤, Some, List, length, position, Result, OnOk, OnErr}
use Rattle.std.specs.Str.{bytes_eq}
use Rattle.avs_seg.specs.Image.{Image, blocks_of, range}
use Rattle.avs_model.specs.State.{State, DiskPlace, image_of, use_of, is_armed, with_armed}
use Rattle.avs_model.specs.Stages.{write_stages, after_stages, StoppedIn}
use Rattle.avs_model.specs.Refusals.{place_causes, first_cause}
use Rattle.avs_model.specs.Right.{IsWriteDisk}
use Rattle.avs_model.specs.declared.event.Host.TheVariants.{P}
use Rattle.avs_model.specs.declared.answer.Refusal.{Refusal}
use Rattle.avs_ii.specs.Held.{IiDisks}
use Rattle.avs_ii.specs.Parts.{parts_of}
use Rattle.avs_ii.specs.Calls.{IsVolumeRange, IsShadowRange, ReadsVolume, WritesVolume, ReadsSet, WritesSet}
use Rattle.avs_world.specs.declared.group.ShadowSet.{ShadowSet}
use Rattle.avs_world.specs.declared.ranges.Target.{Target}
use Rattle.avs_world.specs.Views.{GroupView, NoGroup, FreeDisk, InMemory, OnDisks, StoreView, closed, SameApart}
use Rattle.avs_world.specs.Holds.{Holds, IsPhase, is_enabled}
use Rattle.avs_world.specs.Causes.{DiskRose, DisksLast}
use Rattle.avs_world.specs.Ranges.{IsReached}

-- a group is in memory, and its master has the range; its shadow has it
pub record IsMasterRange (group : GroupView) (at len : ℕ) : Type 0 where
  pub set : ShadowSet
  pub held : IiDisks
  pub is : group ≡ InMemory set held
  pub range : IsVolumeRange held 0 at len

pub record IsShadowRangeOf (group : GroupView) (at len : ℕ) : Type 0 where
  pub set : ShadowSet
  pub held : IiDisks
  pub is : group ≡ InMemory set held
  pub range : IsShadowRange held set.slot at len

-- blocks of the master are read and written, and blocks of the shadow
pub record ReadsMaster {T E : Type 0} (old : GroupView) (at : ℕ) (out : List ℕ) (result : Result T E) (new : GroupView) : Type 0 where
  pub set : ShadowSet
  pub held : IiDisks
  pub held_new : IiDisks
  pub was : old ≡ InMemory set held
  pub now : new ≡ InMemory set held_new
  pub reads : ReadsVolume held 0 out at result held_new

pub record WritesMaster {T E : Type 0} (old : GroupView) (at : ℕ) (bytes : List ℕ) (result : Result T E) (new : GroupView) : Type 0 where
  pub set : ShadowSet
  pub held : IiDisks
  pub held_new : IiDisks
  pub was : old ≡ InMemory set held
  pub now : new ≡ InMemory set held_new
  pub writes : WritesVolume held 0 at bytes result held_new

pub record ReadsShadow {T : Type 0} (old : GroupView) (at : ℕ) (out : List ℕ) (result : Result T Refusal) (new : GroupView) : Type 0 where
  pub set : ShadowSet
  pub held : IiDisks
  pub held_new : IiDisks
  pub was : old ≡ InMemory set held
  pub now : new ≡ InMemory set held_new
  pub reads : ReadsSet held set.slot out at result held_new

pub record WritesShadow {T : Type 0} (old : GroupView) (at : ℕ) (bytes : List ℕ) (result : Result T Refusal) (new : GroupView) : Type 0 where
  pub set : ShadowSet
  pub held : IiDisks
  pub held_new : IiDisks
  pub was : old ≡ InMemory set held
  pub now : new ≡ InMemory set held_new
  pub writes : WritesSet held set.slot at bytes result held_new

-- the name is that of the volume at the target
abbrev pub IsOf : StoreView → Target → List ℕ → Type 0
IsOf store target name = position (bytes_eq name) store.names ≡ Some target.place

-- blocks of a volume are read, and the store holds the same
pub record ReadsAt {T E : Type 0} (old : StoreView) (target : Target) (at : ℕ) (out : List ℕ) (result : Result T E) (new : StoreView) : Type 0 where
  pub names : new.names ≡ old.names
  pub holds : (steady : Bool) (state : State) → Holds steady old state → Holds steady new state
  pub phase : (up : Bool) → IsPhase up old.group → IsPhase up new.group
  pub shows : (steady : Bool) (state : State) (name : List ℕ) → Holds steady old state → IsOf old target name → OnOk result (blocks_of out ≡ range (image_of state.p name) at (length out / 512))
  pub sure : (steady : Bool) (state : State) → Holds steady old state → OnErr result (steady ≡ false)
  pub cause : OnErr result (DiskRose old new)
  pub disks : DisksLast old new
  pub reached : (from len : ℕ) → IsReached old target from len → IsReached new target from len

-- a range of a volume is read in pieces, as these blocks: what one read of the whole range makes
pub record ReadsRuns {T E : Type 0} (old : StoreView) (target : Target) (at len : ℕ) (blocks : Image) (result : Result T E) (new : StoreView) : Type 0 where
  pub out : List ℕ
  pub reads : ReadsAt old target at out result new
  pub long : OnOk result (length out ≡ 512 * len)
  pub are : OnOk result (blocks ≡ blocks_of out)

-- a tear that a write to a volume of host p may meet is met, and is armed no more; over disks that are not steady a write may fail without one
abbrev pub WriteTear : Bool → State → List ℕ → State → Type 0
WriteTear steady old name new =
    ((disk : DiskPlace) × (IsWriteDisk old.p name disk) × (IsTrue (is_armed old.p disk)) × (new ≡ with_armed old P disk false)) ⊎ ((steady ≡ false) × (new ≡ old))

-- a range of the volume is refused in one state for what it is in the other
abbrev pub SamePlace : List ℕ → State → State → Type 0
SamePlace name old new = (at len longest : ℕ) → first_cause (place_causes new P name at len longest) ≡ first_cause (place_causes old P name at len longest)

-- the set of a group is enabled, where there is one
abbrev pub IsEnabled : GroupView → Type 0
IsEnabled NoGroup = ⊤
IsEnabled (FreeDisk disk) = ⊤
IsEnabled (InMemory set held) = is_enabled set (parts_of held) ≡ true
IsEnabled (OnDisks set parts) = is_enabled set parts ≡ true

-- a write stopped: some of its stages are done
pub record StopsWrite (steady : Bool) (old : State) (name : List ℕ) (at : ℕ) (blocks : Image) (store : StoreView) : Type 0 where
  pub mid : State
  pub tear : WriteTear steady old name mid
  pub left : State
  pub stopped : StoppedIn mid (write_stages mid.p P name at blocks (use_of mid.p name)) left
  pub holds : Holds steady store left
  pub place : SamePlace name old left

-- blocks of a volume are written; where that fails only what the disks of the group hold counts, on which it is when it is taken apart
pub record WritesOpen {T E : Type 0} (old : StoreView) (target : Target) (at : ℕ) (bytes : List ℕ) (result : Result T E) (new : StoreView) : Type 0 where
  pub names : new.names ≡ old.names
  pub phase : (up : Bool) → IsPhase up old.group → IsPhase up new.group
  pub enabled : (steady : Bool) (state : State) → Holds steady old state → IsPhase true old.group → IsEnabled new.group
  pub done : (steady : Bool) (state : State) (name : List ℕ) → Holds steady old state → IsOf old target name
      → OnOk result (Holds steady new (after_stages state (write_stages state.p P name at (blocks_of bytes) (use_of state.p name))))
  pub stopped : (steady : Bool) (state : State) (name : List ℕ) → Holds steady old state → IsOf old target name → SameApart new.group
      → OnErr result (StopsWrite steady state name at (blocks_of bytes) (record new { group = closed new.group }))
  pub cause : OnErr result (DiskRose old new)

-- blocks of a volume are written; where that fails the group is taken apart
pub record WritesAt {T E : Type 0} (old : StoreView) (target : Target) (at : ℕ) (bytes : List ℕ) (result : Result T E) (new : StoreView) : Type 0 where
  pub names : new.names ≡ old.names
  pub phase : OnOk result ((up : Bool) → IsPhase up old.group → IsPhase up new.group)
  pub apart : OnErr result (IsPhase true old.group → IsPhase false new.group)
  pub enabled : (steady : Bool) (state : State) → Holds steady old state → IsPhase true old.group → IsEnabled new.group
  pub done : (steady : Bool) (state : State) (name : List ℕ) → Holds steady old state → IsOf old target name
      → OnOk result (Holds steady new (after_stages state (write_stages state.p P name at (blocks_of bytes) (use_of state.p name))))
  pub stopped : (steady : Bool) (state : State) (name : List ℕ) → Holds steady old state → IsOf old target name → OnErr result (StopsWrite steady state name at (blocks_of bytes) new)
  pub cause : OnErr result (DiskRose old new)
