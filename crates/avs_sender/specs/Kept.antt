-- What the memory of a sender keeps.
use Rattle.std.specs.Prelude.{◌≡◌, ℕ, ◌+◌, ◌-◌, ◌^◌, ◌<◌, ◌≤◌, true, false, not, List, [], length, All}
use Rattle.avs_refs.specs.Places.{IsAbove, IsDrained, greatest_at}
use Rattle.avs_mqueue.specs.Queue.{Queue, next_place}
use Rattle.avs_model.specs.declared.half.HalfRole.TheVariants.{Sender}
use Rattle.avs_mirrors.specs.Half.{is_session, is_acting_state, is_receiver}
use Rattle.avs_sync.specs.Note.{NoteKeeps, NoteFits}
use Rattle.avs_sync.specs.declared.note.Note.{Note}
use Rattle.avs_sync.specs.declared.session.Session.{Session}
use Rattle.avs_halves.specs.SetBits.{SetBits, set_at, has_bit}
use Rattle.avs_sender.specs.Held.{SetPlaces, SenderHalf}
use Rattle.avs_sender.specs.Meaning.{places_at, waits}

-- each segment of a set has a place and may wait, and there is room for as many places as the queue may hold
pub record ArePlacesOf (m : SetBits) (writes : ℕ) (p : SetPlaces) : Type 0 where
  pub segs : length p.touched.greatest ≡ m.bits.segs
  pub waiting : length p.waiting ≡ m.bits.segs
  pub room : p.touched.room ≡ writes

-- the session is that of the note, and can be noted; places are in order; a half that is in a session is its sender, which
-- syncs or replicates, and one that
-- received last gave no place
pub record IsSessionOf (n : Note) (s : Session) : Type 0 where
  pub number : s.number ≡ n.session
  pub reverse : s.reverse ≡ n.reverse
  pub sender : s.sender ≡ not (is_receiver n.role)
  pub last : s.last ≤ 2 ^ 62
  pub known : s.known ≤ s.last
  pub mark : s.mark ≤ 2 ^ 62
  pub role : is_session s.state ≡ true → n.role ≡ Sender
  pub acting : is_session s.state ≡ true → is_acting_state s.state ≡ true
  pub idle : is_receiver n.role ≡ true → s.last ≡ 0

-- the entries above the known place are held, and no other
pub record HoldsAbove (s : Session) (queue : Queue) : Type 0 where
  pub count : length queue.entries ≡ s.last - s.known
  pub next : 0 < length queue.entries → next_place queue ≡ s.last + 1

-- the places of a set's segments are those of the session: none is above the last, none at or below the known one is outstanding,
-- and each segment that it freed was given
pub record ArePlacesIn (s : Session) (p : SetPlaces) : Type 0 where
  pub above : IsAbove (s.last + 1) p.touched
  pub few : length p.touched.outstanding ≤ s.last - s.known
  pub later : All (λ place. s.known < place) p.touched.outstanding
  pub drained : IsDrained p.touched

-- a segment that waits to be copied has a bit, and one with a bit waits or has a place
pub record IsDueIn (s : Session) (m : SetBits) (p : SetPlaces) (seg : ℕ) : Type 0 where
  pub waiting : waits s p seg ≡ true → has_bit m seg ≡ true
  pub placed : has_bit m seg ≡ true → waits s p seg ≡ false → 0 < greatest_at p.touched seg

-- a half in a session holds its entries, and knows what frees each bit
pub record IsInSession (h : SenderHalf) : Type 0 where
  pub queue : HoldsAbove h.session h.queue
  pub places : (set : ℕ) → set < length h.sets → ArePlacesIn h.session (places_at h set)
  pub due : (set seg : ℕ) → set < length h.sets → IsDueIn h.session (set_at h.sets set) (places_at h set) seg

-- the slots of the sets are those of a note, and no two sets have one
pub record HaveSlots (sets : List SetBits) : Type 0 where
  pub low : (set : ℕ) → set < length sets → (set_at sets set).slot < 16
  pub apart : (set other : ℕ) → set < length sets → other < length sets → (set_at sets other).slot ≡ (set_at sets set).slot → other ≡ set

pub record IsKept (h : SenderHalf) : Type 0 where
  pub count : length h.places ≡ length h.sets
  pub few : length h.sets ≤ 16
  pub slots : HaveSlots h.sets
  pub places : (set : ℕ) → set < length h.sets → ArePlacesOf (set_at h.sets set) h.queue.limits.writes (places_at h set)
  pub note : NoteKeeps h.note
  pub fits : NoteFits h.note
  pub session : IsSessionOf h.note h.session
  pub sends : is_session h.session.state ≡ true → IsInSession h
  pub away : is_session h.session.state ≡ false → h.queue.entries ≡ []
