-- The session of a half of the machine, and what the machine's steps make of it.
use Rattle.std.specs.Prelude.{◌≡◌, ℕ, ◌+◌, Bool, true, false, not, if◌then◌else◌}
use Rattle.avs_model.specs.declared.entry.Entry.{Entry}
use Rattle.avs_model.specs.declared.half.State.TheVariants.{Logging, Replicating, Queuing}
use Rattle.avs_mirrors.specs.Entries.{is_mark}
use Rattle.avs_mirrors.specs.Due.{Keys}
use Rattle.avs_mirrors.specs.Half.{HalfState, is_sender, is_receiver, begun_with, asked, with_place, with_copy, with_mark, with_known, resumed_at, left_sender, queued, left_receiver, rejoined, applied_to}
use Rattle.avs_sync.specs.declared.session.Session.{Session}
use Rattle.avs_sync.specs.Session.{begin, placed, marked, ticked, left}

-- the session of a half, with the direction and the mark that are kept beside it; `last` of a receiver is its applied place
abbrev pub session_of : HalfState → Bool → ℕ → Session
session_of h reverse mark = record {
  sender = not (is_receiver h.role);
  number = h.number;
  reverse = reverse;
  last = if is_receiver h.role then h.applied else h.last;
  known = h.known;
  mark = mark;
  state = h.state;
}

-- both halves begin
pub record BeginsAlike : Type 0 where
  pub sender : (a : HalfState) (keys : Keys) (number : ℕ) (reverse : Bool) → session_of (begun_with a keys number) reverse 0 ≡ begin true number reverse
  pub receiver : (b : HalfState) (number : ℕ) (reverse : Bool) → session_of (asked b number) reverse 0 ≡ begin false number reverse

-- a write or a copy of a sender has the next place, or a receiver applies it
pub record PlacesAlike : Type 0 where
  pub write : (x : HalfState) (e : Entry) (copying reverse : Bool) (mark : ℕ) → is_sender x.role ≡ true → session_of (with_place x e (x.last + 1) copying) reverse mark ≡ placed (session_of x reverse mark)
  pub copy : (x : HalfState) (set seg : ℕ) (reverse : Bool) (mark : ℕ) → is_sender x.role ≡ true → session_of (with_copy x set seg (x.last + 1)) reverse mark ≡ placed (session_of x reverse mark)
  pub applied : (y : HalfState) (e : Entry) (reverse : Bool) (mark : ℕ) → is_receiver y.role ≡ true → is_mark e.kind ≡ false → session_of (applied_to y e) reverse mark ≡ placed (session_of y reverse mark)

-- a sender places the mark, or a receiver applies it
pub record MarksAlike : Type 0 where
  pub sender : (x : HalfState) (reverse : Bool) (mark : ℕ) → is_sender x.role ≡ true → session_of (with_mark x (x.last + 1)) reverse (x.last + 1) ≡ marked (session_of x reverse mark)
  pub receiver : (y : HalfState) (e : Entry) (reverse : Bool) (mark : ℕ) → is_receiver y.role ≡ true → is_mark e.kind ≡ true → session_of (applied_to y e) reverse (y.applied + 1) ≡ marked (session_of y reverse mark)

-- a sender learns a place, also where the receiver comes back at it
pub record LearnsAlike : Type 0 where
  pub told : (x : HalfState) (upto : ℕ) (reverse : Bool) (mark : ℕ) → session_of (with_known x upto mark) reverse mark ≡ ticked (session_of x reverse mark) upto
  pub resumed : (x : HalfState) (upto : ℕ) (reverse : Bool) (mark : ℕ) → session_of (resumed_at x upto) reverse mark ≡ left (ticked (session_of x reverse mark) upto) Replicating

-- a half leaves to logging or to queuing, or comes back
pub record LeavesAlike : Type 0 where
  pub sender : (x : HalfState) (reverse : Bool) (mark : ℕ) → session_of (left_sender x) reverse mark ≡ left (session_of x reverse mark) Logging
  pub queuing : (x : HalfState) (reverse : Bool) (mark : ℕ) → session_of (queued x) reverse mark ≡ left (session_of x reverse mark) Queuing
  pub receiver : (y : HalfState) (reverse : Bool) (mark : ℕ) → session_of (left_receiver y) reverse mark ≡ left (session_of y reverse mark) Logging
  pub back : (y : HalfState) (reverse : Bool) (mark : ℕ) → session_of (rejoined y) reverse mark ≡ left (session_of y reverse mark) Replicating
