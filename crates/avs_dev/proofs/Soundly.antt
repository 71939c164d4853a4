-- What holds of something below at any time holds where it is sound.
use Rattle.std.proofs.Common.{ℕ, List, Result}
use Rattle.std.specs.Bool.{⊤}
use Rattle.avs_dev.specs.Below.{BelowSeen, ReadsBelow, WritesBelow, SetsNote}

pub reads_where : {S T E : Type 0} (old : BelowSeen) (vol at : ℕ) (out : List ℕ) (r : Result T E) (new : BelowSeen) → ReadsBelow ⊤ old vol at out r new → ReadsBelow S old vol at out r new
reads_where old vol at out r new x = record {
  kept = x.kept;
  images = x.images;
  sizes = x.sizes;
  cause = x.cause;
  told = x.told;
  shows = λ _. x.shows tt;
  sure = x.sure;
}

pub writes_where : {S T E : Type 0} (old : BelowSeen) (vol at : ℕ) (bytes : List ℕ) (r : Result T E) (new : BelowSeen) → WritesBelow ⊤ old vol at bytes r new → WritesBelow S old vol at bytes r new
writes_where old vol at bytes r new x = record {
  others = x.others;
  sizes = x.sizes;
  note = x.note;
  stored = x.stored;
  steady = x.steady;
  cause = x.cause;
  done = λ _. x.done tt;
  failed = λ _. x.failed tt;
  within = λ _. x.within tt;
  told = x.told;
  kept = x.kept;
  still_armed = x.still_armed;
  spent = x.spent;
}

pub notes_where : {S T E : Type 0} (old : BelowSeen) (bytes : List ℕ) (r : Result T E) (new : BelowSeen) → SetsNote ⊤ old bytes r new → SetsNote S old bytes r new
notes_where old bytes r new x = record {
  images = λ _. x.images tt;
  sizes = x.sizes;
  steady = x.steady;
  cause = x.cause;
  done = x.done;
  failed = x.failed;
  stored = x.stored;
  left = x.left;
  told = x.told;
  still_armed = x.still_armed;
  spent = x.spent;
}
