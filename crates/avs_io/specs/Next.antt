-- What a reader of lines gives next.
use Rattle.std.specs.Prelude.{ℕ, ◌+◌, ◌<◌, ◌≤◌, ◌≡◌, ◌⊎◌, true, false, Some, List, [], ◌∷◌, ◌++◌, length}
use Rattle.std.specs.Io.KnownBytes.{prepend_known, IsAtEnd}
use Rattle.avs_io.specs.Told.{WhereTold}
use Rattle.avs_seg.specs.Lines.{HasNoFeed, line_feed, line_limit, lines_limit, lines_of, whole_lines}
use Rattle.avs_io.specs.Reader.{Reader}
use Rattle.avs_io.specs.declared.lines.Next.{Next}
use Rattle.avs_io.specs.declared.lines.Next.TheVariants.{Line, Long, End, Budget}
use Rattle.avs_io.specs.declared.lines.LineFault.{LineFault}
use Rattle.avs_io.specs.declared.lines.LineFault.TheVariants.{Read, NoMemory}

-- the line was taken with the line feed that ends it
pub record EndsByFeed (old new : Reader) (line : List ℕ) : Type 0 where
  pub bytes : old.rest ≡ prepend_known (line ++ line_feed ∷ []) new.rest
  pub ended : new.ended ≡ old.ended

-- the line was taken, and nothing is left behind it
pub record EndsByEnd (old new : Reader) (line : List ℕ) : Type 0 where
  pub bytes : old.rest ≡ prepend_known line new.rest
  pub some : 0 < length line
  pub ended : new.ended ≡ true
  pub at_end : IsAtEnd new.rest

-- the next line was given
pub record GivesLine (old new : Reader) (line : List ℕ) : Type 0 where
  pub below_limit : old.given < lines_limit
  pub given : new.given ≡ old.given + 1
  pub no_feed : HasNoFeed line
  pub short : length line ≤ line_limit
  pub taken : EndsByFeed old new line ⊎ EndsByEnd old new line
  pub first : WhereTold old.rest new.rest (λ before after. lines_of before ≡ line ∷ lines_of after)

-- some line is first, and it is longer than a line may be
abbrev pub FirstIsLong : List (List ℕ) → Type 0
FirstIsLong [] = ⊥
FirstIsLong (line ∷ lines) = line_limit < length line

-- the first bytes of a line were taken, and are given no more
pub record Loses (old new : Reader) (part : List ℕ) : Type 0 where
  pub given : new.given ≡ old.given
  pub no_feed : HasNoFeed part
  pub bytes : old.rest ≡ prepend_known part new.rest

-- the next line is longer than a line may be: so many of its bytes were taken
pub record MeetsLong (old new : Reader) : Type 0 where
  pub below_limit : old.given < lines_limit
  pub part : List ℕ
  pub long : line_limit < length part
  pub loses : Loses old new part
  pub first : (before : List ℕ) → old.rest ≡ Some before → FirstIsLong (lines_of before)

-- nothing is left, and the source was read to its end
pub record MeetsEnd (old new : Reader) : Type 0 where
  pub given : new.given ≡ old.given
  pub rest : new.rest ≡ old.rest
  pub ended : new.ended ≡ true
  pub at_end : IsAtEnd new.rest
  pub source_at_end : IsAtEnd new.left
  pub none : (before : List ℕ) → old.rest ≡ Some before → lines_of before ≡ []

-- as many lines were given as may be, and bytes follow
pub record MeetsLimit (old new : Reader) : Type 0 where
  pub at_limit : old.given ≡ lines_limit
  pub given : new.given ≡ old.given
  pub rest : new.rest ≡ old.rest
  pub more : (before : List ℕ) → old.rest ≡ Some before → 0 < length (lines_of before)

-- what `next` does where it answers
abbrev pub Gives : Reader → Reader → Next → Type 0
Gives old new (Line line) = GivesLine old new line
Gives old new Long = MeetsLong old new
Gives old new End = MeetsEnd old new
Gives old new Budget = MeetsLimit old new

-- the source failed, which had not been at its end: the line that was begun is cut, and what it had is lost
pub record IsCut (old new : Reader) : Type 0 where
  pub not_ended : old.ended ≡ false
  pub part : List ℕ
  pub loses : Loses old new part
  pub rest : new.rest ≡ new.left
  pub taken : (before : List ℕ) → old.rest ≡ Some before
      → (bytes after : List ℕ) × (new.left ≡ Some after) × (before ≡ bytes ++ after) × (whole_lines bytes ≡ [])

-- what `next` does where it does not answer
abbrev pub Breaks : Reader → Reader → LineFault → Type 0
Breaks old new Read = IsCut old new
Breaks old new NoMemory = (part : List ℕ) × Loses old new part
