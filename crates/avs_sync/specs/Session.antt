-- What each call makes of a session.
use Rattle.std.specs.Prelude.{◌≡◌, ℕ, ◌+◌, ◌≤◌, max, nat_lt, nat_le, Bool, true, false, ◌&&◌, if◌then◌else◌}
use Rattle.avs_model.specs.declared.half.State.{State}
use Rattle.avs_model.specs.declared.half.State.TheVariants.{Logging, Syncing, Receiving, Replicating, Queuing}
use Rattle.avs_sync.specs.declared.session.Session.{Session}

-- syncing for a sender, receiving for a receiver, the other numbers 0
abbrev pub begin : Bool → ℕ → Bool → Session
begin sender number reverse = record {
  sender = sender;
  number = number;
  reverse = reverse;
  last = 0;
  known = 0;
  mark = 0;
  state = if sender then Syncing else Receiving;
}

-- `last` is one more
abbrev pub placed : Session → Session
placed s = record s { last = s.last + 1 }

-- as `placed`, and the mark is the new `last`; a receiver replicates
abbrev pub marked : Session → Session
marked s = record s { last = s.last + 1; mark = s.last + 1; state = if s.sender then s.state else Replicating }

-- there is a mark, and it is at or below a known place
abbrev pub knows_mark : Session → ℕ → Bool
knows_mark s known = nat_lt 0 s.mark && nat_le s.mark known

-- `known` is the greater one; where it reaches the mark the state is replicating
abbrev pub ticked : Session → ℕ → Session
ticked s applied = record s {
  known = max s.known applied;
  state = if knows_mark s (max s.known applied) then Replicating else s.state;
}

-- that state
abbrev pub left : Session → State → Session
left s state = record s { state = state }

abbrev pub hears_ticks : State → Bool
hears_ticks Logging = false
hears_ticks Syncing = true
hears_ticks Receiving = false
hears_ticks Replicating = true
hears_ticks Queuing = false

-- a sender in syncing or replicating, and a place that it gave
pub record MayTick (s : Session) (applied : ℕ) : Type 0 where
  pub sender : s.sender ≡ true
  pub state : hears_ticks s.state ≡ true
  pub given : applied ≤ s.last
