-- What can happen to two halves: each event is a list of moves, and a fault stops it between two of them.
use Rattle.std.specs.Prelude.{ℕ, Bool, List, [], ◌∷◌, None, Some}
use Rattle.avs_seg.specs.Image.{Image}
use Rattle.avs_mirrors.specs.Entries.{copy_of, a_mark, written}
use Rattle.avs_mirrors.specs.Due.{Segments, Keys}
use Rattle.avs_mirrors.specs.Half.{Message, HalfState, with_bits, with_change, joined, parted, moved, removed, drawn, begun, with_place, with_copy, with_mark, with_taken, with_freed, with_reached, turned, resumed, left_sender, queued, forgotten, weighed, asked, with_held, applied_to, left_receiver, rejoined}
use Rattle.avs_mirrors.specs.Pair.{PairState, Session, new_session, session_for, with_entry, next_place, entry_at, is_copying}

pub data Move : Type 0 where
  -- bits of segments are set
  NoteSource : Keys → Move
  NoteTarget : Keys → Move
  -- a half that is in no session has another image of a set: by a write, a torn one, a restored image
  ChangeSource : ℕ → Image → Move
  ChangeTarget : ℕ → Image → Move
  -- the next place is a write (set, first block, blocks), the copy of a segment, the mark
  PlaceWrite : ℕ → ℕ → Image → Move
  PlaceCopy : ℕ → ℕ → Move
  PlaceMark : Move
  -- a worker takes a place
  Take : ℕ → Move
  -- the target holds a message's entry, applies one that it holds, and answers with the place applied last
  Hold : Message → Move
  Apply : Message → Move
  Reply : Message → Move
  -- segments that places up to one free are no longer due; that place is known; the mark is known; and so at a resumption
  Free : ℕ → Keys → Move
  Know : ℕ → Move
  Turn : Move
  GoOn : Move
  -- at a recovery in queuing each segment has the greatest place above the known one that touches it
  Weigh : Move
  -- a half leaves its session; the source keeps it in its queue; what the source gave and knows is forgotten
  LeaveSource : Move
  LeaveTarget : Move
  Queue : Move
  Forget : Move
  -- a half that is in no session takes a number, as the sender of a session that nobody has entered
  DrawSource : ℕ → Move
  DrawTarget : ℕ → Move
  -- both halves enter that session, with so many blocks a write at most: the same way as before, or the other way round
  Enter : ℕ → Move
  EnterReversed : ℕ → Move
  -- the target is again in the session that it left
  Rejoin : Move
  -- a set joins a half, with these bits, and with contents or without; it goes to another group, or comes back; it parts; and a
  -- half's group is gone from its host
  JoinSource : ℕ → Segments → Bool → Move
  JoinTarget : ℕ → Segments → Bool → Move
  MoveSource : ℕ → Bool → Move
  MoveTarget : ℕ → Bool → Move
  PartSource : ℕ → Move
  PartTarget : ℕ → Move
  EndSource : Move
  EndTarget : Move

abbrev pub with_source : PairState → HalfState → PairState
with_source p x = record p { source = x }

abbrev pub with_target : PairState → HalfState → PairState
with_target p y = record p { target = y }

-- the session with the mark as its next entry, and the images of the source there
abbrev pub marked : Session → HalfState → Session
marked s x = record (with_entry s a_mark) { mark = next_place s; candidate = x.images }

-- a message that a worker takes, and one that brings a place back
abbrev pub taken_message : PairState → ℕ → Message
taken_message p place = record { number = p.source.number; place = place; entry = entry_at p.session place; got = None }

abbrev pub answered : Message → ℕ → Message
answered m place = record m { got = Some place }

-- what a move makes of the two halves. It looks at nothing else: what has to hold before it is said beside it
abbrev pub after : PairState → Move → PairState
after p (NoteSource keys) = with_source p (with_bits p.source keys)
after p (NoteTarget keys) = with_target p (with_bits p.target keys)
after p (ChangeSource set image) = with_source p (with_change p.source set image)
after p (ChangeTarget set image) = with_target p (with_change p.target set image)
after p (PlaceWrite set at bytes) = record p {
  source = with_place p.source (written set at bytes) (next_place p.session) (is_copying p.session);
  session = with_entry p.session (written set at bytes);
}
after p (PlaceCopy set seg) = record p {
  source = with_copy p.source set seg (next_place p.session);
  session = with_entry p.session (copy_of p.source.images set seg);
}
after p PlaceMark = record p { source = with_mark p.source (next_place p.session); session = marked p.session p.source }
after p (Take place) = record p { source = with_taken p.source place; messages = taken_message p place ∷ p.messages }
after p (Hold m) = with_target p (with_held p.target m)
after p (Apply m) = with_target p (applied_to p.target m.entry)
after p (Reply m) = record p { messages = answered m p.target.applied ∷ p.messages }
after p (Free upto keys) = with_source p (with_freed p.source keys)
after p (Know upto) = with_source p (with_reached p.source upto)
after p Turn = with_source p (turned p.source)
after p GoOn = with_source p (resumed p.source)
after p Weigh = with_source p (weighed p.source p.session.order)
after p LeaveSource = with_source p (left_sender p.source)
after p LeaveTarget = with_target p (left_receiver p.target)
after p Queue = with_source p (queued p.source)
after p Forget = with_source p (forgotten p.source)
after p (DrawSource number) = with_source p (drawn p.source number)
after p (DrawTarget number) = with_target p (drawn p.target number)
after p (Enter most) = record p {
  source = begun p.source p.target;
  target = asked p.target p.source.number;
  session = new_session p.source.number p.source.here most;
}
after p (EnterReversed most) = record p {
  source = begun p.target p.source;
  target = asked p.source p.target.number;
  session = new_session p.target.number p.target.here most;
}
after p Rejoin = with_target p (rejoined p.target)
after p (JoinSource set keys filled) = with_source p (joined p.source set keys filled)
after p (JoinTarget set keys filled) = with_target p (joined p.target set keys filled)
after p (MoveSource set there) = with_source p (moved p.source set there)
after p (MoveTarget set there) = with_target p (moved p.target set there)
after p (PartSource set) = with_source p (parted p.source set)
after p (PartTarget set) = with_target p (parted p.target set)
after p EndSource = record p { source = removed p.source; session = session_for p.session p.target.number; messages = [] }
after p EndTarget = record p { target = removed p.target; session = session_for p.session p.source.number; messages = [] }

-- what a run of moves makes of them
abbrev pub after_all : PairState → List Move → PairState
after_all p [] = p
after_all p (m ∷ ms) = after_all (after p m) ms
