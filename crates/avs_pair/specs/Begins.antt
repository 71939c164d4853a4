-- What a beginning makes of two halves.
use Rattle.std.specs.Prelude.{◌≡◌, ℕ, Bool}
use Rattle.avs_mirrors.specs.Half.{begun_with, asked}
use Rattle.avs_mirrors.specs.Pair.{PairState, new_session}
use Rattle.avs_mirrors.specs.Events.{bits_for, next_number}

-- the source begins, and asks the target
pub record BeginsForward (p : PairState) (full : Bool) (most : ℕ) (new : PairState) : Type 0 where
  pub source : new.source ≡ begun_with p.source (bits_for full p.source p.target) (next_number p)
  pub target : new.target ≡ asked p.target (next_number p)
  pub session : new.session ≡ new_session (next_number p) p.source.here most
  pub messages : new.messages ≡ p.messages

-- the target begins, and asks the source: they change places
pub record BeginsReversed (p : PairState) (full : Bool) (most : ℕ) (new : PairState) : Type 0 where
  pub source : new.source ≡ begun_with p.target (bits_for full p.target p.source) (next_number p)
  pub target : new.target ≡ asked p.source (next_number p)
  pub session : new.session ≡ new_session (next_number p) p.target.here most
  pub messages : new.messages ≡ p.messages
