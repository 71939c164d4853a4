-- The lines of a text: a line feed ends a line.
use Rattle.std.specs.Prelude.{ℕ, ◌+◌, ◌<◌, ◌≤◌, ◌≡◌, ◌==◌, ◌≢◌, take, drop, length, List, [], ◌∷◌, ◌++◌, All, if◌then◌else◌}

-- a line feed
abbrev pub line_feed : ℕ
line_feed = 10

-- the bytes that a line may have
abbrev pub line_limit : ℕ
line_limit = 4096

-- the lines that may be given
abbrev pub lines_limit : ℕ
lines_limit = 1048576

-- none of the bytes is a line feed
pub record HasNoFeed (bytes : List ℕ) : Type 0 where
  pub others : All (λ byte. byte ≢ line_feed) bytes

-- the bytes before the first line feed, or all where there is none
pub record IsBeforeFeed (part bytes : List ℕ) : Type 0 where
  pub no_feed : HasNoFeed part
  pub inside : length part ≤ length bytes
  pub front : part ≡ take (length part) bytes
  pub feed : length part < length bytes → bytes ≡ part ++ line_feed ∷ drop (length part + 1) bytes

-- a byte onto the first line, which it begins where there is none
abbrev pub onto_first : ℕ → List (List ℕ) → List (List ℕ)
onto_first byte [] = (byte ∷ []) ∷ []
onto_first byte (line ∷ lines) = (byte ∷ line) ∷ lines

-- the lines of bytes: the last one may lack its line feed
abbrev pub lines_of : List ℕ → List (List ℕ)
lines_of [] = []
lines_of (byte ∷ bytes) = if byte == line_feed then [] ∷ lines_of bytes else onto_first byte (lines_of bytes)

-- a byte onto the first line, where there is one
abbrev pub onto_whole : ℕ → List (List ℕ) → List (List ℕ)
onto_whole byte [] = []
onto_whole byte (line ∷ lines) = (byte ∷ line) ∷ lines

-- the lines of bytes that a line feed ends
abbrev pub whole_lines : List ℕ → List (List ℕ)
whole_lines [] = []
whole_lines (byte ∷ bytes) = if byte == line_feed then [] ∷ whole_lines bytes else onto_whole byte (whole_lines bytes)

-- lines one after another, each with its line feed
abbrev pub with_feeds : List (List ℕ) → List ℕ
with_feeds [] = []
with_feeds (line ∷ lines) = (line ++ line_feed ∷ []) ++ with_feeds lines
