-- An entry has the next place in a half: a write with its bits, the copy of a segment, or the mark.
use Rattle.std.specs.Prelude.{◌≡◌, ℕ, ◌+◌, ◌*◌, ◌<◌, ◌≤◌, ◌==◌, ◌^◌, false, true, List, Result, Ok, Err, length}
use Rattle.avs_model.specs.declared.entry.Entry.{Entry}
use Rattle.avs_mqueue.specs.Queue.{Pushes, is_full}
use Rattle.avs_mirrors.specs.Due.{copied_due, placed_due}
use Rattle.avs_mirrors.specs.Entries.{a_mark, touches}
use Rattle.avs_mirrors.specs.Half.{Logging, is_session}
use Rattle.avs_sync.specs.Session.{left, marked, placed}
use Rattle.avs_halves.specs.SetBits.{set_at}
use Rattle.avs_halves.specs.Changing.{ChangesSets}
use Rattle.avs_sender.specs.Held.{SenderHalf, SetPlaces}
use Rattle.avs_sender.specs.Learning.{half_with}
use Rattle.avs_sender.specs.Meaning.{due_of}
use Rattle.avs_sender.specs.Places.{places_in}
use Rattle.avs_sender.specs.Waits.{IsLeastWaiting, waits_at}

-- one more place may be given to an entry: in a session, and in the queue
pub record HasRoom (h : SenderHalf) (e : Entry) : Type 0 where
  pub session : is_session h.session.state ≡ true
  pub last : h.session.last < 2 ^ 62
  pub room : is_full h.queue e ≡ false

-- the blocks of an entry are those of a range of its set
pub record IsEntryOver (h : SenderHalf) (e : Entry) (at len : ℕ) : Type 0 where
  pub there : e.set < length h.sets
  pub at_is : e.at ≡ at
  pub count : length e.bytes ≡ len
  pub some : 0 < len
  pub inside : at + len ≤ 64 * (set_at h.sets e.set).bits.segs
  pub small : at + len ≤ 2 ^ 31

-- a write has its bits, and the next place
pub record HasPlaced (old : SenderHalf) (e : Entry) (new : SenderHalf) : Type 0 where
  pub rest : new ≡ half_with old new.sets new.places (placed old.session) new.queue
  pub bits : ChangesSets {T = Unit {0}} {E = Unit {0}} (touches e) true old.sets (Ok tt) new.sets
  pub queue : Pushes old.queue (old.session.last + 1) e new.queue
  pub due : due_of new ≡ placed_due (due_of old) (old.session.mark == 0) e (old.session.last + 1)
  pub number : old.session.number ≡ old.note.session

-- the disk of a bitmap failed: it has left
pub record PlacesInPart {E : Type 0} (old : SenderHalf) (e : Entry) (why : E) (new : SenderHalf) : Type 0 where
  pub rest : new ≡ half_with old new.sets old.places (left old.session Logging) new.queue
  pub bits : ChangesSets {T = Unit {0}} (touches e) true old.sets (Err why) new.sets
  pub limits : new.queue.limits ≡ old.queue.limits
  pub number : old.session.number ≡ old.note.session

abbrev pub Places : {E : Type 0} → SenderHalf → Entry → Result (Unit {0}) E → SenderHalf → Type 0
Places old e (Ok u) new = HasPlaced old e new
Places old e (Err why) new = PlacesInPart old e why new

-- ---- copies, and the mark

-- a segment waits, of the sets in order the least; or none waits
pub record IsFirstWaiting (places : List SetPlaces) (set seg : ℕ) : Type 0 where
  pub there : set < length places
  pub least : IsLeastWaiting (places_in places set).waiting seg
  pub before : (t s : ℕ) → t < set → waits_at (places_in places t).waiting s ≡ false

abbrev pub NoneIsWaiting : List SetPlaces → Type 0
NoneIsWaiting places = (set seg : ℕ) → waits_at (places_in places set).waiting seg ≡ false

-- the entry has the blocks of a segment of its set that waits
pub record IsCopyOf (h : SenderHalf) (e : Entry) (seg : ℕ) : Type 0 where
  pub unmarked : h.session.mark ≡ 0
  pub waits : waits_at (places_in h.places e.set).waiting seg ≡ true
  pub at_is : e.at ≡ 64 * seg
  pub short : length e.bytes ≤ 64

-- the copy has the next place, and its segment waits no more
pub record HasCopied (old : SenderHalf) (e : Entry) (seg : ℕ) (new : SenderHalf) : Type 0 where
  pub rest : new ≡ half_with old old.sets new.places (placed old.session) new.queue
  pub queue : Pushes old.queue (old.session.last + 1) e new.queue
  pub due : due_of new ≡ copied_due (due_of old) e.set seg (old.session.last + 1)

-- the mark has the next place
pub record HasMarked (old : SenderHalf) (new : SenderHalf) : Type 0 where
  pub rest : new ≡ half_with old old.sets old.places (marked old.session) new.queue
  pub queue : Pushes old.queue (old.session.last + 1) a_mark new.queue
  pub due : due_of new ≡ due_of old
