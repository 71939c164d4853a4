-- What every call of a half leaves of what lies below and of its sets, and when what lies below may fail.
use Rattle.std.specs.Prelude.{◌≡◌, ℕ, IsTrue, Result, IsOk}
use Rattle.avs_dev.specs.Seen.{Lasts}
use Rattle.avs_dev.specs.Devices.{NoneFell, OneRose, UsesOneTear}
use Rattle.avs_dev.specs.Below.{BelowSeen, IsToldAt, IsNoteTold}
use Rattle.avs_halves.specs.SetBits.{SetBits}

-- of what lies below: its volumes are as large, those that tell their blocks tell them where it was sound, and no count of faults has
-- fallen
pub record BelowStays (sound : Type 0) (old new : BelowSeen) : Type 0 where
  pub sizes : new.sizes ≡ old.sizes
  pub steady : new.steady ≡ old.steady
  pub told : sound → (vol : ℕ) → IsToldAt old vol → IsToldAt new vol
  pub noted : IsNoteTold old → IsNoteTold new
  pub faults : NoneFell old.faults new.faults

-- of a set: its volume, its slot, its size, and its disk
pub record SetStays (old new : SetBits) : Type 0 where
  pub vol : new.vol ≡ old.vol
  pub slot : new.slot ≡ old.slot
  pub segs : new.bits.segs ≡ old.bits.segs
  pub disk : Lasts old.bits.disk new.bits.disk

-- a device below has failed, and where all are steady it was by a tear that was armed and is no more
pub record BelowFailed (old new : BelowSeen) : Type 0 where
  pub rose : OneRose old.faults new.faults
  pub spent : IsTrue old.steady → UsesOneTear old.armed new.armed

-- nothing was done, and the answer is Ok
pub record DidNothing {H T E : Type 0} (old : H) (result : Result T E) (new : H) : Type 0 where
  pub answer : IsOk result
  pub kept : new ≡ old
