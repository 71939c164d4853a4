-- The three disks that a call works on, and what it makes of each.
use Rattle.std.specs.Prelude.{◌≡◌, ◌⊎◌, ℕ, ◌+◌, ◌-◌, ◌^◌, ◌≤◌, ◌==◌, min, if◌then◌else◌, IsTrue, Result, OnOk, OnErr}
use Rattle.avs_seg.specs.Causes.{Rose}
use Rattle.avs_dev.specs.Seen.{Seen, IsTold, UsesTear, IsSpared}
use Rattle.avs_dev.specs.Memory.{counted}

-- the master's disk, the shadow's and the bitmap's
pub record Disks : Type 0 where
  pub master : Seen
  pub shadow : Seen
  pub bitmap : Seen

-- the size and whether it is steady stay, as does that it tells its blocks, and no fault is forgotten
pub record IsSameDisk (old new : Seen) : Type 0 where
  pub size : new.size ≡ old.size
  pub steady : new.steady ≡ old.steady
  pub told : IsTold old → IsTold new
  pub later : old.faults ≤ new.faults

pub record AreSameDisks (old new : Disks) : Type 0 where
  pub master : IsSameDisk old.master new.master
  pub shadow : IsSameDisk old.shadow new.shadow
  pub bitmap : IsSameDisk old.bitmap new.bitmap

-- none fails but where a tear is armed on it
pub record AreSteady (d : Disks) : Type 0 where
  pub master : IsTrue d.master.steady
  pub shadow : IsTrue d.shadow.steady
  pub bitmap : IsTrue d.bitmap.steady

-- none has failed, and the tears that were armed are armed
pub record AreStillArmed (old new : Disks) : Type 0 where
  pub master : IsSpared old.master new.master
  pub shadow : IsSpared old.shadow new.shadow
  pub bitmap : IsSpared old.bitmap new.bitmap

-- the tear of one of them is used, and those of the others are not
abbrev pub OneUsed : Disks → Disks → Type 0
OneUsed old new =
    (UsesTear old.master new.master × (new.shadow.armed ≡ old.shadow.armed) × (new.bitmap.armed ≡ old.bitmap.armed))
    ⊎ ((UsesTear old.shadow new.shadow × (new.master.armed ≡ old.master.armed) × (new.bitmap.armed ≡ old.bitmap.armed))
    ⊎ (UsesTear old.bitmap new.bitmap × (new.master.armed ≡ old.master.armed) × (new.shadow.armed ≡ old.shadow.armed)))

-- an error comes exactly where the faults of one of them rose, over steady disks only where a tear of one is used
pub record HasCauses {T E : Type 0} (old : Disks) (result : Result T E) (new : Disks) : Type 0 where
  pub failed : OnErr result (Rose old.master.faults new.master.faults ⊎ (Rose old.shadow.faults new.shadow.faults ⊎ Rose old.bitmap.faults new.bitmap.faults))
  pub armed : OnOk result (AreStillArmed old new)
  pub used : AreSteady old → OnErr result (OneUsed old new)

-- a count of written blocks, raised
abbrev pub raised : ℕ → ℕ → ℕ
raised written more = if more == 0 then written else counted written more

-- so many blocks more are written on each
pub record Counts (old : Disks) (on_master on_shadow on_bitmap : ℕ) (new : Disks) : Type 0 where
  pub master : new.master.written ≡ raised old.master.written on_master
  pub shadow : new.shadow.written ≡ raised old.shadow.written on_shadow
  pub bitmap : new.bitmap.written ≡ raised old.bitmap.written on_bitmap

-- At most so many blocks more are written on each, and no count falls. A count stops at the greatest u64, and none of a disk
-- is greater.
pub record CountsAtMost (old : Disks) (on_master on_shadow on_bitmap : ℕ) (new : Disks) : Type 0 where
  pub master : new.master.written ≤ old.master.written + on_master
  pub shadow : new.shadow.written ≤ old.shadow.written + on_shadow
  pub bitmap : new.bitmap.written ≤ old.bitmap.written + on_bitmap
  pub master_kept : min old.master.written (2 ^ 64 - 1) ≤ new.master.written
  pub shadow_kept : min old.shadow.written (2 ^ 64 - 1) ≤ new.shadow.written
  pub bitmap_kept : min old.bitmap.written (2 ^ 64 - 1) ≤ new.bitmap.written
