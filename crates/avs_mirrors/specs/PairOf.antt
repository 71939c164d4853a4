-- Which two halves the mirrors of two hosts are: those of one group, whose sets the two halves know by numbers.
use Rattle.std.specs.Prelude.{◌≡◌, ℕ, ◌==◌, true, false, Option, Some, List, map, drop, [], if◌then◌else◌}
use Rattle.std.specs.Str.{bytes_eq}
use Rattle.avs_model.specs.Hosts.{Name}
use Rattle.avs_model.specs.HostPlaces.{image_of}
use Rattle.avs_model.specs.BothHosts.{other_of}
use Rattle.avs_model.specs.declared.event.Host.{Host}
use Rattle.avs_model.specs.declared.entry.Entry.{Entry}
use Rattle.avs_mirrors.specs.Entries.{is_mark}
use Rattle.avs_mirrors.specs.Due.{zero_of}
use Rattle.avs_mirrors.specs.Half.{Message, HalfState, is_sending}
use Rattle.avs_mirrors.specs.Pair.{Session, PairState}
use Rattle.avs_mirrors.specs.Allowed.{IsAmong}
use Rattle.avs_mirrors.specs.Reached.{IsReached}
use Rattle.avs_mirrors.specs.MirrorHosts.{NamedEntry, NamedMessage, PairSet, Seat, Sent, MirrorHost, mirror_set_of, is_set_in, half_at}
use Rattle.avs_mirrors.specs.MirrorStates.{MirrorState, mirror_host, BothStandFor}

-- the group; the name of each number; and the host whose half sends in the session that both halves entered last
pub record View : Type 0 where
  pub group : Name
  pub names : ℕ → Name
  pub sender : Host

-- two numbers are of one name only where they are the same, and each name has a number
pub record HaveOwnNames (names : ℕ → Name) : Type 0 where
  pub each : (a b : ℕ) → bytes_eq (names a) (names b) ≡ (a == b)
  pub all : (name : Name) → (key : ℕ) × (names key ≡ name)

-- ---- entries and messages by names: the mark is of no set

abbrev pub named_entry : (ℕ → Name) → Entry → NamedEntry
named_entry names e = record { kind = e.kind; set = if is_mark e.kind then [] else names e.set; at = e.at; bytes = e.bytes }

abbrev pub named_message : (ℕ → Name) → Message → NamedMessage
named_message names m = record { number = m.number; place = m.place; entry = named_entry names m.entry; got = m.got }

-- ---- one half

-- where a half stands, by names
abbrev pub seat_of : (ℕ → Name) → HalfState → Seat
seat_of names h = record {
  number = h.number;
  role = h.role;
  state = h.state;
  last = h.last;
  known = h.known;
  taken = h.taken;
  applied = h.applied;
  held = map (named_message names) h.held;
}

-- a set of a half is the set of its name on the host: the blocks are those of its volume, wherever the host has that volume
pub record IsOneSet (names : ℕ → Name) (host : MirrorHost) (h : HalfState) (key : ℕ) : Type 0 where
  pub set : PairSet
  pub found : mirror_set_of host (names key) ≡ Some set
  pub named : set.name ≡ names key
  pub image : h.images key ≡ image_of host.own set.volume
  pub contents : h.contents key ≡ set.contents
  pub due : (seg : ℕ) → h.due key seg ≡ set.due seg

-- A half is that of the group on a host: its sets here are the host's sets of the group; a set that was moved to another group is the
-- half's still, until the other half follows; it stands where the host says; and of a half that does not send no place frees a segment.
pub record IsHalfOf (names : ℕ → Name) (group : Name) (host : MirrorHost) (h : HalfState) : Type 0 where
  pub here : (key : ℕ) → h.here key ≡ is_set_in host group (names key)
  pub sets : (key : ℕ) → h.on key ≡ true → IsOneSet names host h key
  pub seat : (half_at host group).seat ≡ seat_of names h
  pub plain : is_sending h ≡ false → (key seg : ℕ) → zero_of (h.due key seg) ≡ h.due key seg

-- ---- the session and the messages

-- a sender has of its session the mark, the length of writes, and the entries above the place that it knows
pub record IsSentOf (names : ℕ → Name) (sent : Sent) (x : HalfState) (s : Session) : Type 0 where
  pub mark : sent.mark ≡ s.mark
  pub most : sent.most ≡ s.most
  pub entries : sent.entries ≡ map (named_entry names) (drop x.known s.order)

-- each worker's message is one that was sent
pub record HasSent (names : ℕ → Name) (workers : ℕ → Option NamedMessage) (messages : List Message) : Type 0 where
  pub each : (worker : ℕ) (m : NamedMessage) → workers worker ≡ Some m
      → (sent : Message) × IsAmong sent messages × (m ≡ named_message names sent)

-- ---- both halves

abbrev pub sender_host : View → MirrorState → MirrorHost
sender_host view state = mirror_host state view.sender

abbrev pub other_host : View → MirrorState → MirrorHost
other_host view state = mirror_host state (other_of view.sender)

-- two halves are those of a group on two hosts. What is the pair's alone is all that was ever sent, the whole order of the session, its
-- images at the mark, and of which sets the blocks changed by entries alone
pub record IsPairOf (view : View) (state : MirrorState) (p : PairState) : Type 0 where
  pub apart : HaveOwnNames view.names
  pub source : IsHalfOf view.names view.group (sender_host view state) p.source
  pub target : IsHalfOf view.names view.group (other_host view state) p.target
  pub sent : is_sending p.source ≡ true → IsSentOf view.names (half_at (sender_host view state) view.group).sent p.source p.session
  pub workers : HasSent view.names (state.workers view.group) p.messages

-- such halves are reached
pub record IsReachedOf (view : View) (state : MirrorState) (p : PairState) : Type 0 where
  pub is : IsPairOf view state p
  pub reached : IsReached p

-- Whatever a fault has left of what a host that lies still was about to do, the mirrors of a group are two halves that are reached.
pub record HasPair (group : Name) (state : MirrorState) : Type 0 where
  pub each : (left : MirrorState) → BothStandFor state left → (view : View) × (p : PairState) × (view.group ≡ group) × IsReachedOf view left p
