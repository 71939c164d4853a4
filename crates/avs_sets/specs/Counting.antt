-- Counts of written blocks: what a call adds to each disk of a group, by the work of its stages.
use Rattle.std.specs.Prelude.{◌≡◌, ℕ, ◌+◌, ◌≤◌, Bool, true, false, not, List, Result, OnOk}
use Rattle.avs_dev.specs.Seen.{Seen}
use Rattle.avs_dev.specs.Devices.{raised}
use Rattle.avs_model.specs.ShadowSets.{is_compact}
use Rattle.avs_model.specs.GroupStages.{GroupStage}
use Rattle.avs_model.specs.GroupWork.{GroupSpot, StateDisk, VolumeDisk, ShadowDisk, BitmapDisk, OverDisk, Work, blocks_on_spot, work_of}
use Rattle.avs_sets.specs.Meaning.{GroupSeen, set_in, disk_at, meaning}

-- so many blocks are written on each disk of which the count is exact, and at most so many on any,
-- also where the call fails
pub record Counts {N T E : Type 0} (exact : N → Bool) (old : N → Seen) (work : N → ℕ)
    (result : Result T E) (new : N → Seen) : Type 0 where
  pub done : OnOk result ((name : N) → exact name ≡ true → (new name).written
      ≡ raised (old name).written (work name))
  pub most : (name : N) → (new name).written ≤ (old name).written + work name

-- The counts are exact of the state disk, of the volumes, and of the shadow's volume of a set that
-- is not compact.
abbrev pub is_exact : GroupSeen → GroupSpot → Bool
is_exact g StateDisk = true
is_exact g (VolumeDisk volume) = true
is_exact g (ShadowDisk slot) = not (is_compact (set_in g.sets slot).kind)
is_exact g (BitmapDisk slot) = false
is_exact g (OverDisk over) = false

-- what a call on a group writes
abbrev pub CountsWork : {T E : Type 0} → GroupSeen → List (Work GroupSpot) → Result T E → GroupSeen
    → Type 0
CountsWork old works result new =
    Counts (is_exact old) (disk_at old) (λ spot. blocks_on_spot works spot) result (disk_at new)

-- a call that does these stages writes their work
abbrev pub CountsStages : {T E : Type 0} → GroupSeen → List GroupStage → Result T E → GroupSeen
    → Type 0
CountsStages old stages result new = CountsWork old (work_of (meaning old) stages) result new
