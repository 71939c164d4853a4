-- A half learns that a place was applied; or a disk failed, and it is in no session any more.
use Rattle.std.specs.Prelude.{◌≡◌, ℕ, ◌==◌, max, Bool, true, false, not, ◌&&◌, List, Result, Ok, Err}
use Rattle.avs_mqueue.specs.Queue.{Queue, Advances}
use Rattle.avs_mirrors.specs.Due.{Keys, frees, freed_due}
use Rattle.avs_mirrors.specs.Half.{State, Logging, Syncing, Receiving, Replicating, Queuing}
use Rattle.avs_sync.specs.Session.{ticked, left}
use Rattle.avs_sync.specs.declared.session.Session.{Session}
use Rattle.avs_halves.specs.SetBits.{SetBits, has_bit, set_at}
use Rattle.avs_halves.specs.Changing.{ChangesSets}
use Rattle.avs_sender.specs.Held.{SetPlaces, SenderHalf}
use Rattle.avs_sender.specs.Meaning.{due_of}
use Rattle.avs_sender.specs.Freeing.{freed_keys}

-- the place that is known then
abbrev pub known_then : Session → ℕ → ℕ
known_then s applied = max s.known applied

-- the segments that it frees
abbrev pub learned_keys : SenderHalf → ℕ → Keys
learned_keys h applied = freed_keys (h.session.mark == 0) h.places (known_then h.session applied)

-- a half with these sets, places, session and queue
abbrev pub half_with : SenderHalf → List SetBits → List SetPlaces → Session → Queue → SenderHalf
half_with h sets places session queue = record h { sets = sets; places = places; session = session; queue = queue }

-- it has left, and gave its entries up; its note is as it was
abbrev pub half_stopped : SenderHalf → Queue → SenderHalf
half_stopped h queue = record h { session = left h.session Logging; queue = queue }

pub record IsStopped (old new : SenderHalf) : Type 0 where
  pub rest : new ≡ half_stopped old new.queue
  pub limits : new.queue.limits ≡ old.queue.limits

-- a sender has gone from syncing to another state
abbrev pub is_syncing : State → Bool
is_syncing Logging = false
is_syncing Syncing = true
is_syncing Receiving = false
is_syncing Replicating = false
is_syncing Queuing = false

abbrev pub turns : State → State → Bool
turns before after = is_syncing before && not (is_syncing after)

-- its state has changed, to replicating, or it is as it was
abbrev pub IsTurned : Bool → SenderHalf → SenderHalf → Type 0
IsTurned true old new = new.session.state ≡ Replicating
IsTurned false old new = new.session.state ≡ old.session.state

-- the place is known: the bits of what it frees are cleared, and the entries up to it are gone
pub record HasLearned (old : SenderHalf) (applied : ℕ) (turns : Bool) (new : SenderHalf) : Type 0 where
  pub rest : new ≡ half_with old new.sets new.places (ticked old.session applied) new.queue
  pub bits : ChangesSets {T = Unit {0}} {E = Unit {0}} (learned_keys old applied) false old.sets (Ok tt) new.sets
  pub queue : Advances old.queue (known_then old.session applied) new.queue
  pub turned : IsTurned turns old new
  pub due : due_of new ≡ freed_due (due_of old) (frees (due_of old) applied)
  pub number : old.session.number ≡ old.note.session

-- the disk of a bitmap failed at one of them
pub record LearnsInPart {E : Type 0} (old : SenderHalf) (applied : ℕ) (e : E) (new : SenderHalf) : Type 0 where
  pub rest : new ≡ half_with old new.sets new.places (left old.session Logging) new.queue
  pub bits : ChangesSets {T = Unit {0}} (learned_keys old applied) false old.sets (Err e) new.sets
  pub limits : new.queue.limits ≡ old.queue.limits
  pub keys : (set seg : ℕ) → has_bit (set_at old.sets set) seg ≡ true → learned_keys old applied set seg ≡ true → frees (due_of old) applied set seg ≡ true
  pub number : old.session.number ≡ old.note.session

abbrev pub Learns : {E : Type 0} → SenderHalf → ℕ → Result Bool E → SenderHalf → Type 0
Learns old applied (Ok turns) new = HasLearned old applied turns new
Learns old applied (Err e) new = LearnsInPart old applied e new
