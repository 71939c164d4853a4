-- How a reader takes a line from its buffer, a piece at a time.
use Rattle.std.specs.Prelude.{ℕ, ◌+◌, ◌<◌, ◌≤◌, ◌≡◌, true, false, List, [], ◌∷◌, ◌++◌, length}
use Rattle.std.specs.Io.KnownBytes.{prepend_known, IsAtEnd}
use Rattle.avs_seg.specs.Lines.{HasNoFeed, line_feed, line_limit}
use Rattle.avs_io.specs.Reader.{Reader}
use Rattle.avs_io.specs.Next.{Loses}
use Rattle.avs_io.specs.declared.lines.Piece.{Piece}
use Rattle.avs_io.specs.declared.lines.Piece.TheVariants.{More, Last, Long}

-- nothing was given
pub record IsSame (old new : Reader) : Type 0 where
  pub given : new.given ≡ old.given
  pub rest : new.rest ≡ old.rest

-- some byte is held
pub record HoldsSome (old new : Reader) (held : List ℕ) : Type 0 where
  pub some : 0 < length held
  pub ended : new.ended ≡ old.ended

-- no byte is held, and the source was not at its end
pub record HoldsNone (old new : Reader) : Type 0 where
  pub was_not_ended : old.ended ≡ false
  pub rest : new.rest ≡ new.left

-- nothing is left
pub record IsDone (new : Reader) : Type 0 where
  pub ended : new.ended ≡ true
  pub at_end : IsAtEnd new.rest
  pub source_at_end : IsAtEnd new.left

-- a piece was put behind the line, which goes on
pub record Grows (old new : Reader) (line after : List ℕ) : Type 0 where
  pub part : List ℕ
  pub some : 0 < length part
  pub loses : Loses old new part
  pub grown : after ≡ line ++ part
  pub short : length after ≤ line_limit

-- a piece was put behind the line, and its line feed was taken
pub record Completes (old new : Reader) (line after : List ℕ) : Type 0 where
  pub part : List ℕ
  pub no_feed : HasNoFeed part
  pub given : new.given ≡ old.given
  pub bytes : old.rest ≡ prepend_known (part ++ line_feed ∷ []) new.rest
  pub grown : after ≡ line ++ part
  pub short : length after ≤ line_limit

-- a piece was taken that does not fit
pub record Overflows (old new : Reader) (line : List ℕ) : Type 0 where
  pub part : List ℕ
  pub loses : Loses old new part
  pub long : line_limit < length line + length part

abbrev pub TakesPiece : Reader → Reader → List ℕ → List ℕ → Piece → Type 0
TakesPiece old new line after More = Grows old new line after
TakesPiece old new line after Last = Completes old new line after
TakesPiece old new line after Long = Overflows old new line

-- a piece was taken
abbrev pub LosesPiece : Reader → Reader → Type 0
LosesPiece old new = (part : List ℕ) × Loses old new part
