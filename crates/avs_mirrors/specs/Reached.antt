-- States of two halves that some list of allowed moves reaches, from two halves without sets over any blocks.
use Rattle.std.specs.Prelude.{◌≡◌, List}
use Rattle.avs_mirrors.specs.Entries.{Images}
use Rattle.avs_mirrors.specs.Pair.{PairState, start}
use Rattle.avs_mirrors.specs.Moves.{Move, after_all}
use Rattle.avs_mirrors.specs.Allowed.{AllAllowed}

pub record IsReached (p : PairState) : Type 0 where
  pub first : Images
  pub second : Images
  pub run : List Move
  pub allowed : AllAllowed (start first second) run
  pub is : p ≡ after_all (start first second) run
