-- A reader of lines as its caller sees it.
use Rattle.std.specs.Prelude.{ℕ, ◌-◌, ◌≡◌, Bool, false, Option, List, take, drop}
use Rattle.std.specs.Borrow.{MutBor}
use Rattle.std.specs.Io.KnownBytes.{prepend_known}
use Rattle.avs_io.specs.declared.stream.Source.{Ghosts}
use Rattle.avs_io.specs.declared.lines.Lines.{Lines}

-- what a reader of lines has given and has left
pub record Reader : Type 0 where
  -- how many lines it has given
  pub given : ℕ
  -- the bytes that it has not given yet, where its source tells what it has left
  pub rest : Option (List ℕ)
  -- what its source has left
  pub left : Option (List ℕ)
  -- whether its source has said that it is at its end
  pub ended : Bool

-- the bytes that were taken from the source and not given yet
abbrev pub held : {S : Type 0} {ghosts : Ghosts S} → Lines S ghosts → List ℕ
held lines = take (lines.end - lines.start) (drop lines.start lines.buffer)

abbrev pub reader_of : {S : Type 0} {ghosts : Ghosts S} → Lines S ghosts → Reader
reader_of {S} {ghosts} lines = record {
  given = lines.given;
  rest = prepend_known (held lines) (ghosts.left lines.source.now);
  left = ghosts.left lines.source.now;
  ended = lines.ended;
}

-- its source, as it is now
abbrev pub source_of : {S : Type 0} {ghosts : Ghosts S} → Lines S ghosts → S
source_of lines = lines.source.now

-- it reads what was lent to it there
abbrev pub Borrows : {S : Type 0} {ghosts : Ghosts S} → Lines S ghosts → MutBor S → Type 0
Borrows lines source = lines.source.ghost_name ≡ source.ghost_name

-- it still reads what was lent to it
abbrev pub KeepsSource : {S : Type 0} {ghosts : Ghosts S} → Lines S ghosts → Lines S ghosts → Type 0
KeepsSource old new = new.source.ghost_name ≡ old.source.ghost_name

-- how often its source has failed
abbrev pub faults_of : {S : Type 0} {ghosts : Ghosts S} → Lines S ghosts → ℕ
faults_of {S} {ghosts} lines = ghosts.faults lines.source.now

-- a reader of a source that nothing was read of
abbrev pub fresh : Option (List ℕ) → Reader
fresh left = record { given = 0; rest = left; left = left; ended = false }
