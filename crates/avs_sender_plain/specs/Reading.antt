-- What an errand that only reads makes of what is below.
use Rattle.std.specs.Prelude.{◌≡◌}
use Rattle.avs_dev.specs.Below.{BelowSeen}

-- nothing changes but the faults
pub record LooksAround (old new : BelowSeen) : Type 0 where
  pub same : new ≡ record old { faults = new.faults }
