-- The lines that a reader has given so far, of the bytes that its source had at first.
use Rattle.std.specs.Prelude.{ℕ, ◌<◌, ◌≡◌, ◌⊎◌, ⊤, true, Option, Some, List, [], ◌∷◌, ◌++◌, length, All, Result, Ok, Err}
use Rattle.std.specs.Io.KnownBytes.{prepend_known, IsAtEnd}
use Rattle.avs_io.specs.Told.{WhereTold}
use Rattle.avs_seg.specs.Lines.{HasNoFeed, line_limit, lines_limit, lines_of, whole_lines, with_feeds}
use Rattle.avs_io.specs.Reader.{Reader}
use Rattle.avs_io.specs.declared.lines.Next.{Next}
use Rattle.avs_io.specs.declared.lines.Next.TheVariants.{Line, Long, End, Budget}
use Rattle.avs_io.specs.declared.lines.LineFault.{LineFault}
use Rattle.avs_io.specs.declared.lines.LineFault.TheVariants.{Read, NoMemory}

-- the reader has given these lines of the input, and the rest of it is left
pub record HasGiven (input : Option (List ℕ)) (lines : List (List ℕ)) (reader : Reader) : Type 0 where
  pub count : reader.given ≡ length lines
  pub no_feed : All HasNoFeed lines
  pub bytes : List ℕ
  pub taken : input ≡ prepend_known bytes reader.rest
  -- each line ended by its line feed, unless nothing is left
  pub fed : (bytes ≡ with_feeds lines) ⊎ ((reader.ended ≡ true) × IsAtEnd reader.rest)
  pub follow : WhereTold input reader.rest (λ before after. lines_of before ≡ lines ++ lines_of after)

-- these are the lines that were taken whole, and that is left behind them
pub record HasTaken (input : Option (List ℕ)) (lines : List (List ℕ)) (left : Option (List ℕ)) : Type 0 where
  pub bytes : List ℕ
  pub taken : input ≡ prepend_known bytes left
  pub whole : whole_lines bytes ≡ lines

-- behind these lines of the input stands one that is longer than a line may be
pub record LongFollows (input : Option (List ℕ)) (lines : List (List ℕ)) : Type 0 where
  pub first : (bytes : List ℕ) → input ≡ Some bytes → (line : List ℕ) × (more : List (List ℕ)) × (lines_of bytes ≡ lines ++ line ∷ more) × (line_limit < length line)

-- these are all lines of the input
pub record AreAll (input : Option (List ℕ)) (lines : List (List ℕ)) : Type 0 where
  pub all : (bytes : List ℕ) → input ≡ Some bytes → lines_of bytes ≡ lines

-- as many lines were given as may be, and the input has more
pub record MoreFollow (input : Option (List ℕ)) (lines : List (List ℕ)) (reader : Reader) : Type 0 where
  pub count : length lines ≡ lines_limit
  pub taken : HasTaken input lines reader.rest
  pub more : (bytes : List ℕ) → input ≡ Some bytes → lines_limit < length (lines_of bytes)

-- what then holds of the lines given so far, at each answer of `next`
abbrev pub GoesOn : Option (List ℕ) → List (List ℕ) → Reader → Result Next LineFault → Type 0
GoesOn input lines new (Ok (Line line)) = HasGiven input (lines ++ line ∷ []) new
GoesOn input lines new (Ok Long) = LongFollows input lines
GoesOn input lines new (Ok End) = AreAll input lines
GoesOn input lines new (Ok Budget) = MoreFollow input lines new
GoesOn input lines new (Err Read) = HasTaken input lines new.left
GoesOn input lines new (Err NoMemory) = ⊤
