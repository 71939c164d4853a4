-- The line that a source is giving: its first bytes, and its number.
use Rattle.std.specs.Prelude.{ℕ, ◌≡◌, ◌<◌, ◌-◌, ◌==◌, ◌&&◌, nat_lt, Bool, true, if◌then◌else◌, List, [], ◌++◌, take, length, slice_index}
use Rattle.avs_seg.specs.Lines.{line_feed, HasNoFeed}
use Rattle.avs_io.specs.Counts.{one_more}
use Rattle.avs_told.specs.declared.kept.KeptLine.TheInside as inside

-- the bytes that are kept of a line: one more than a statement may have
abbrev pub kept_limit : ℕ
kept_limit = 4097

pub record Kept : Type 0 where
  -- its first bytes, with the line feed where that is among them
  pub line : List ℕ
  -- its number, counted from 1
  pub number : ℕ
  -- whether it was given whole, so that the next byte begins another
  pub fed : Bool

abbrev pub kept_of : inside.Inside → Kept
kept_of k = record { line = take k.len k.bytes; number = k.number; fed = k.fed }

-- no line was begun
abbrev pub none_kept : Kept
none_kept = record { line = []; number = 0; fed = true }

-- the next line is begun where the last one was given whole
abbrev pub begun : Kept → Kept
begun kept = if kept.fed then record { line = []; number = one_more kept.number; fed = true } else kept

-- some bytes more were given
abbrev pub grown : Kept → List ℕ → Kept
grown kept piece = record {
  line = take kept_limit ((begun kept).line ++ piece);
  number = (begun kept).number;
  fed = slice_index piece (length piece - 1) == line_feed;
}

-- the bytes without a line feed at their end
abbrev pub without_feed : List ℕ → List ℕ
without_feed line = if nat_lt 0 (length line) && slice_index line (length line - 1) == line_feed then take (length line - 1) line else line

-- a line feed stands at most at the end
pub record IsOfOneLine (piece : List ℕ) : Type 0 where
  pub before : HasNoFeed (take (length piece - 1) piece)

-- these bytes were given, none or some of one line
pub record Follows (old new : Kept) (piece : List ℕ) : Type 0 where
  pub none : length piece ≡ 0 → new ≡ old
  pub some : 0 < length piece → new ≡ grown old piece
  pub one_line : IsOfOneLine piece
