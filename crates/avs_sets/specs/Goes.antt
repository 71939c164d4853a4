-- What a call makes of a group: one relation for all calls on contents, by the stages that it does,
-- and one for all commits.
use Rattle.std.specs.Prelude.{◌≡◌, ℕ, ◌<◌, ◌==◌, Bool, true, false, Option, None, Some, List, [], ◌∷◌, length, find, Result, OnOk, OnErr}
use Rattle.avs_seg.specs.Staged.{run, StoppedIn}
use Rattle.avs_seg.specs.Image.{block_at}
use Rattle.avs_dev.specs.Seen.{IsTold, GoesOn}
use Rattle.avs_dev.specs.Devices.{AllGoOn}
use Rattle.avs_dev.specs.Memory.{counted as raised_by}
use Rattle.avs_model.specs.ShadowSets.{Offline, is_online, is_compact}
use Rattle.avs_model.specs.GroupStates.{next_sequence}
use Rattle.avs_model.specs.Room.{Gone}
use Rattle.avs_model.specs.GroupWork.{GroupSpot, StateDisk, VolumeDisk, ShadowDisk, BitmapDisk, OverDisk}
use Rattle.avs_model.specs.GroupStages.{GroupStage, after_stage, in_group}
use Rattle.avs_sets.specs.Says.{SlotSays, BlockSays}
use Rattle.avs_sets.specs.Sets.{SetSeen}
use Rattle.avs_sets.specs.Meaning.{GroupSeen, set_of, disk_at, slot_of, is_enabled, standing_of, group_by, meaning}
use Rattle.avs_sets.specs.Whole.{AreWhole, IsWhole, IsInStep}

-- what no call on contents changes of a set
pub record IsSameSet (old new : SetSeen) : Type 0 where
  pub slot : new.slot ≡ old.slot
  pub kind : new.kind ≡ old.kind
  pub master : new.master ≡ old.master
  pub size : new.size ≡ old.size
  pub over : new.over ≡ old.over

pub record Stays (old new : GroupSeen) : Type 0 where
  pub volumes : length new.volumes ≡ length old.volumes
  pub overs : length new.overs ≡ length old.overs
  pub sets : length new.sets ≡ length old.sets
  pub each : (k : ℕ) → k < length old.sets → IsSameSet (set_of old.sets k) (set_of new.sets k)

-- the disks that carry a label: those of the state, of bitmaps and of overflow volumes
abbrev pub is_labelled : GroupSpot → Bool
is_labelled StateDisk = true
is_labelled (VolumeDisk volume) = false
is_labelled (ShadowDisk slot) = false
is_labelled (BitmapDisk slot) = true
is_labelled (OverDisk over) = true

-- no call changes a label, with no other premise
pub record KeepsLabels (old new : GroupSeen) : Type 0 where
  pub each : (spot : GroupSpot) → is_labelled spot ≡ true → IsTold (disk_at old spot)
      → block_at (disk_at new spot).image 0 ≡ block_at (disk_at old spot).image 0

-- A call does these stages. At both exits the sets stay, the disks go on, and what they stand for
-- is found again. Ok: all stages are done, and the memory is in step. Failed: one disk failed, and
-- the stages stopped.
pub record Goes {T E : Type 0} (old : GroupSeen) (stages : List GroupStage) (result : Result T E)
    (new : GroupSeen) : Type 0 where
  pub stays : Stays old new
  pub disks : AllGoOn (disk_at old) result (disk_at new)
  pub whole : IsWhole old → IsInStep old → IsWhole new
  pub step : IsWhole old → IsInStep old → OnOk result (IsInStep new)
  pub done : IsWhole old → IsInStep old
      → OnOk result (meaning new ≡ run in_group (meaning old) stages)
  pub stopped : IsWhole old → IsInStep old
      → OnErr result (StoppedIn in_group (meaning old) stages (meaning new))

-- The block of the state disk is written: at Ok it is this one, on the disk and in memory; at
-- Failed the disk has the old one or this one. Where the group stands for a stage more by this
-- block, the stage is done or not.
pub record Commits {T E : Type 0} (old : GroupSeen) (block : BlockSays) (result : Result T E)
    (new : GroupSeen) : Type 0 where
  pub rest : new ≡ record old { state = new.state; says = new.says; memory = new.memory }
  pub disk : GoesOn old.state result new.state
  pub label : IsTold old.state → block_at new.state.image 0 ≡ block_at old.state.image 0
  pub counted : OnOk result (new.state.written ≡ raised_by old.state.written 1)
  pub uncounted : OnErr result (new.state.written ≡ old.state.written)
  pub now : OnOk result (new.memory ≡ block)
  pub unchanged : OnErr result (new.memory ≡ old.memory)
  pub held : IsWhole old → OnOk result (new.says ≡ block)
  pub whole : IsWhole old → AreWhole block old.volumes old.overs old.sets → IsWhole new
  pub done : (stage : GroupStage) → IsWhole old
      → group_by block old.volumes old.overs old.sets ≡ after_stage (meaning old) stage
      → OnOk result (meaning new ≡ after_stage (meaning old) stage)
  pub stopped : (stage : GroupStage) → IsWhole old
      → group_by block old.volumes old.overs old.sets ≡ after_stage (meaning old) stage
      → OnErr result (StoppedIn in_group (meaning old) (stage ∷ []) (meaning new))

-- the set of a slot among those that go offline, and what its slot says then
abbrev pub gone_at : List Gone → ℕ → Option Gone
gone_at gone slot = find (λ one. one.slot == slot) gone

abbrev pub offline_slot : Option Gone → SlotSays → SlotSays
offline_slot None slot = slot
offline_slot (Some one) slot = record slot { standing = Offline one.need one.slots }

-- a block by which these sets go offline, which are compact and online: the next one, and with the
-- same note
pub record PutsOffline (says block : BlockSays) (sets : List SetSeen)
    (gone : List Gone) : Type 0 where
  pub note : block.note ≡ says.note
  pub sequence : block.sequence ≡ next_sequence says.sequence
  pub slots : (k : ℕ) → k < length sets → slot_of block (set_of sets k)
      ≡ offline_slot (gone_at gone (set_of sets k).slot) (slot_of says (set_of sets k))
  pub compact : (k : ℕ) → k < length sets → is_enabled says (set_of sets k) ≡ true → (one : Gone)
      → gone_at gone (set_of sets k).slot ≡ Some one → is_compact (set_of sets k).kind ≡ true
  pub online : (k : ℕ) → k < length sets → is_enabled says (set_of sets k) ≡ true → (one : Gone)
      → gone_at gone (set_of sets k).slot ≡ Some one → is_online (standing_of says (set_of sets k))
      ≡ true
