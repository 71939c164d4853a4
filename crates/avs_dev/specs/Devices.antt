-- Several devices in an order: which of them may have failed, and which tear that used up.
use Rattle.std.specs.Prelude.{◌≡◌, ◌≢◌, ℕ, ◌+◌, ◌<◌, ◌≤◌, ◌==◌, Bool, true, false, if◌then◌else◌, List, length, Some, Result, OnOk, OnErr, slice_get, slice_set, slice_index}
use Rattle.avs_seg.specs.Causes.{Rose}
use Rattle.avs_dev.specs.Seen.{Seen, Lasts, IsSpared, Fails}
use Rattle.avs_dev.specs.Memory.{counted}

-- counts of faults, of which none has fallen
pub record NoneFell (old new : List ℕ) : Type 0 where
  pub same_length : length new ≡ length old
  pub each : (i : ℕ) → slice_index old i ≤ slice_index new i

-- the count of one device has risen
pub record OneRose (old new : List ℕ) : Type 0 where
  pub device : ℕ
  pub there : device < length old
  pub rose : Rose (slice_index old device) (slice_index new device)

-- no count has fallen, and an error is answered exactly where a device failed
pub record HasOneCause {T E : Type 0} (old new : List ℕ) (result : Result T E) : Type 0 where
  pub later : NoneFell old new
  pub failed : OnErr result (OneRose old new)
  pub same : OnOk result (new ≡ old)

-- a tear was armed on one device and is armed no more, and the other devices are armed as before
pub record UsesOneTear (old new : List Bool) : Type 0 where
  pub device : ℕ
  pub was_armed : slice_get old device ≡ Some true
  pub is_used : new ≡ slice_set old device false

-- of several disks, each by its name, one has failed and no other
pub record OneFails {N : Type 0} (old new : N → Seen) : Type 0 where
  pub name : N
  pub failed : Fails (old name) (new name)
  pub others : (other : N) → other ≢ name → IsSpared (old other) (new other)

-- each lasts through a call, which fails exactly by one of them
pub record AllGoOn {N T E : Type 0} (old : N → Seen) (result : Result T E) (new : N → Seen) : Type 0 where
  pub lasts : (name : N) → Lasts (old name) (new name)
  pub done : OnOk result ((name : N) → IsSpared (old name) (new name))
  pub failed : OnErr result (OneFails old new)

-- a count of written blocks, raised
abbrev pub raised : ℕ → ℕ → ℕ
raised written more = if more == 0 then written else counted written more

-- so many blocks are written on each disk, and at most so many where the call fails
pub record Adds {N T E : Type 0} (old : N → Seen) (work : N → ℕ) (result : Result T E) (new : N → Seen) : Type 0 where
  pub done : OnOk result ((name : N) → (new name).written ≡ raised (old name).written (work name))
  pub most : OnErr result ((name : N) → (new name).written ≤ (old name).written + work name)
