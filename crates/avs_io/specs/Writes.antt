-- What a sink has taken of some bytes.
use Rattle.std.specs.Prelude.{ℕ, ◌≡◌, ◌<◌, Option, List, length, take}
use Rattle.std.specs.Io.KnownBytes.{append_known}

-- the first bytes were written, which may be none, and not all of them
pub record WritesPart (old new : Option (List ℕ)) (bytes : List ℕ) : Type 0 where
  pub count : ℕ
  pub part : count < length bytes
  pub written : new ≡ append_known old (take count bytes)
