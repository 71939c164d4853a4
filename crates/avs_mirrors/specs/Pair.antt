-- Two halves of a mirror group, the session that both entered last, and messages.
use Rattle.std.specs.Prelude.{ℕ, ◌+◌, ◌-◌, ◌==◌, ◌&&◌, if◌then◌else◌, Bool, List, [], ◌∷◌, ◌++◌, length, slice_index_or}
use Rattle.avs_model.specs.declared.entry.Entry.{Entry}
use Rattle.avs_mirrors.specs.Entries.{Images, a_mark}
use Rattle.avs_mirrors.specs.Due.{nothing_due}
use Rattle.avs_mirrors.specs.Half.{Sets, no_sets, Message, HalfState, Lone, Logging}

-- a session: its number; the sets that both halves had when it began, and how many blocks a write may have at most; the entries
-- in order of place (place K is item K - 1); the place of the mark, 0 before there is one; and the images of the sender when it
-- was placed
pub record Session : Type 0 where
  pub number : ℕ
  pub sets : Sets
  pub most : ℕ
  pub order : List Entry
  pub mark : ℕ
  pub candidate : Images

-- the half that sends in the session that both entered last, the half that receives in it, that session, and each message that
-- was ever sent and each answer that was ever given: loss, lateness and repetition need no event
pub record PairState : Type 0 where
  pub source : HalfState
  pub target : HalfState
  pub session : Session
  pub messages : List Message

abbrev pub new_session : ℕ → Sets → ℕ → Session
new_session number sets most = record { number = number; sets = sets; most = most; order = []; mark = 0; candidate = λ set. [] }

abbrev pub no_session : Session
no_session = new_session 0 no_sets 0

-- a session that a half of this number is still of, else none
abbrev pub session_for : Session → ℕ → Session
session_for s number = if number == s.number then s else no_session

-- the session with one entry more
abbrev pub with_entry : Session → Entry → Session
with_entry s e = record s { order = s.order ++ e ∷ [] }

abbrev pub next_place : Session → ℕ
next_place s = length s.order + 1

-- the entry of a place
abbrev pub entry_at : Session → ℕ → Entry
entry_at s place = slice_index_or s.order (place - 1) a_mark

-- whether segments wait to be copied in this session
abbrev pub is_copying : Session → Bool
is_copying s = s.mark == 0

-- a set of both halves
abbrev pub on_both : HalfState → HalfState → ℕ → Bool
on_both x y set = x.on set && y.on set

-- a half without sets, over any blocks, and two of them
abbrev pub fresh : Images → HalfState
fresh images = record {
  on = no_sets;
  here = no_sets;
  contents = no_sets;
  images = images;
  number = 0;
  role = Lone;
  state = Logging;
  last = 0;
  known = 0;
  taken = 0;
  applied = 0;
  due = nothing_due;
  held = [];
  kept = no_sets;
}

abbrev pub start : Images → Images → PairState
start a b = record { source = fresh a; target = fresh b; session = no_session; messages = [] }
