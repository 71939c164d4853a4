-- Stages of a host with its mirrors: what each makes of its sets and of its half of a group.
use Rattle.std.specs.Prelude.{◌≡◌, ℕ, ◌+◌, ◌-◌, ◌==◌, ◌&&◌, ◌||◌, not, max, if◌then◌else◌, Bool, true, Option, None, Some, List, [], ◌∷◌, ◌++◌, length, map, filter, drop, is_some}
use Rattle.std.specs.Str.{bytes_eq}
use Rattle.avs_seg.specs.Image.{is_inside}
use Rattle.avs_seg.specs.Segment.{first_segment, touch_count}
use Rattle.avs_seg.specs.Staged.{Stages, run}
use Rattle.avs_model.specs.Hosts.{Name, HostStage, HostState}
use Rattle.avs_model.specs.HostStages.{in_host, after_host_stage, InHostStage}
use Rattle.avs_model.specs.declared.entry.EntryKind.{EntryKind}
use Rattle.avs_model.specs.declared.entry.EntryKind.TheVariants.{Write, Copied, Mark}
use Rattle.avs_mirrors.specs.Entries.{is_mark}
use Rattle.avs_mirrors.specs.Due.{placed_one, zero_of}
use Rattle.avs_mirrors.specs.Half.{Sender, Receiver, Logging, Syncing, Receiving, Replicating, Queuing}
use Rattle.avs_mirrors.specs.MirrorHosts.{SetDue, NamedKeys, NamedEntry, NamedMessage, PairSet, Seat, Sent, MirrorHalf, HalfStage, Notes, Fills, Places, Takes, Frees, Knows, Turns, GoesOn, Weighs, Leaves, Queues, Forgets, LeavesReceiver, Draws, Begins, Asks, Rejoins, Holds, Applies, Joins, Regroups, Parts, Ends, MirrorStage, OfHost, OfHalf, AtOnce, MirrorHost, is_set_named, half_at, without_half, nothing_sent, with_seat}

-- ---- what is due of a set

-- the entry touches the segment of that set
abbrev pub touches_named : NamedEntry → Name → ℕ → Bool
touches_named e name seg = bytes_eq e.set name && is_inside (first_segment e.at) (touch_count e.at (length e.bytes)) seg

-- the greatest place that touches it, of entries of which the first has the place `from + 1`; 0 where none does
unfoldable pub greatest_named : ℕ → List NamedEntry → Name → ℕ → ℕ
greatest_named from [] name seg = 0
greatest_named from (e ∷ es) name seg = max (if touches_named e name seg then from + 1 else 0) (greatest_named (from + 1) es name seg)

-- with some segments more
abbrev pub noted_one : Bool → Option ℕ → Option ℕ
noted_one key old = if is_some old then old else (if key then Some 0 else None)

-- with an entry at a place: a write's segments have it, but one that waits to be copied stays so; a copied segment has it
abbrev pub placed_set : EntryKind → NamedEntry → Bool → ℕ → PairSet → SetDue
placed_set Write e copying place set seg = if touches_named e set.name seg then placed_one copying (set.due seg) place else set.due seg
placed_set Copied e copying place set seg = if bytes_eq e.set set.name && seg == first_segment e.at then Some place else set.due seg
placed_set Mark e copying place set seg = set.due seg

abbrev pub freed_one : Bool → Option ℕ → Option ℕ
freed_one key old = if key then None else old

abbrev pub weighed_one : ℕ → Option ℕ → Option ℕ
weighed_one place old = if is_some old then Some place else None

-- the segments of both halves, once a session begins
abbrev pub begun_one : Bool → Option ℕ → Option ℕ
begun_one key old = if is_some old then Some 0 else (if key then Some 0 else None)

-- of a set of the group one thing, else another
abbrev pub of_group_or : {X : Type 0} → Name → PairSet → X → X → X
of_group_or group set inside outside = if bytes_eq group set.group then inside else outside

abbrev pub due_after : Name → MirrorHalf → HalfStage → PairSet → SetDue
due_after group half (Notes keys) set seg = noted_one (keys set.name seg) (set.due seg)
due_after group half (Places e) set seg = placed_set e.kind e (half.sent.mark == 0) (half.seat.last + 1) set seg
due_after group half (Frees keys) set seg = freed_one (keys set.name seg) (set.due seg)
due_after group half Weighs set seg =
    of_group_or group set (weighed_one (greatest_named half.seat.known half.sent.entries set.name seg) (set.due seg)) (set.due seg)
due_after group half Leaves set seg = of_group_or group set (zero_of (set.due seg)) (set.due seg)
due_after group half (Begins most keys) set seg = of_group_or group set (begun_one (keys set.name seg) (set.due seg)) (set.due seg)
due_after group half (Asks number) set seg = of_group_or group set (zero_of (set.due seg)) (set.due seg)
due_after group half (Applies e) set seg = if is_mark e.kind && bytes_eq group set.group then None else set.due seg
due_after group half stage set seg = set.due seg

-- ---- which sets have contents

abbrev pub contents_after : Name → HalfStage → PairSet → Bool
contents_after group (Fills name) set = is_set_named name set || set.contents
contents_after group (Asks number) set = not (bytes_eq group set.group) && set.contents
contents_after group (Applies e) set = (is_mark e.kind && bytes_eq group set.group) || set.contents
contents_after group stage set = set.contents

-- ---- the sets of a host

abbrev pub set_after : Name → MirrorHalf → HalfStage → PairSet → PairSet
set_after group half stage set = record set { contents = contents_after group stage set; due = due_after group half stage set }

-- a set of another group comes to this one, with its bits
abbrev pub regrouped : Name → Name → PairSet → PairSet
regrouped group name set = record set { group = if is_set_named name set then group else set.group }

abbrev pub sets_after : Name → MirrorHalf → HalfStage → List PairSet → List PairSet
sets_after group half (Joins set) sets = sets ++ set ∷ []
sets_after group half (Regroups name) sets = map (λ set. regrouped group name set) sets
sets_after group half (Parts name) sets = filter (λ set. not (is_set_named name set)) sets
sets_after group half stage sets = map (λ set. set_after group half stage set) sets

-- ---- where the half stands

abbrev pub seat_forgets : Seat → Seat
seat_forgets seat = record seat { last = 0; known = 0; taken = 0 }

-- in the messages that it holds a place is there no more
abbrev pub without_held : ℕ → List NamedMessage → List NamedMessage
without_held place held = filter (λ m. not (m.place == place)) held

abbrev pub seat_after : Seat → HalfStage → Seat
seat_after seat (Places e) = record seat { last = seat.last + 1 }
seat_after seat (Takes place) = record seat { taken = place }
seat_after seat (Knows upto) = record seat { known = max seat.known upto }
seat_after seat Turns = record seat { state = Replicating }
seat_after seat GoesOn = record seat { state = Replicating; taken = seat.known }
seat_after seat Leaves = record seat { state = Logging; held = [] }
seat_after seat Queues = record seat { state = Queuing; taken = seat.known }
seat_after seat Forgets = seat_forgets seat
seat_after seat LeavesReceiver = record seat { state = Logging; held = [] }
seat_after seat (Draws number) = record seat { number = number; role = Sender; last = 0; known = 0; taken = 0; applied = 0; held = [] }
seat_after seat (Begins most keys) = record seat { state = Syncing; last = 0; known = 0; taken = 0; applied = 0; held = [] }
seat_after seat (Asks number) = record { number = number; role = Receiver; state = Receiving; last = 0; known = 0; taken = 0; applied = 0; held = [] }
seat_after seat Rejoins = record seat { state = Replicating; held = [] }
seat_after seat (Holds m) = record seat { held = m ∷ seat.held }
seat_after seat (Applies e) = record seat {
  state = if is_mark e.kind then Replicating else seat.state;
  applied = seat.applied + 1;
  held = without_held (seat.applied + 1) seat.held;
}
seat_after seat (Joins set) = seat_forgets seat
seat_after seat (Regroups name) = seat_forgets seat
seat_after seat (Parts name) = seat_forgets seat
seat_after seat stage = seat

-- ---- what it sent: it goes with the session

abbrev pub sent_after : Seat → Sent → HalfStage → Sent
sent_after seat sent (Places e) =
    record sent { mark = if is_mark e.kind then seat.last + 1 else sent.mark; entries = sent.entries ++ e ∷ [] }
sent_after seat sent (Knows upto) = record sent { entries = drop (max seat.known upto - seat.known) sent.entries }
sent_after seat sent (Begins most keys) = record { mark = 0; most = most; entries = [] }
sent_after seat sent Leaves = nothing_sent
sent_after seat sent (Asks number) = nothing_sent
sent_after seat sent stage = sent

-- ---- all of it

-- the halves of a host: one whose group is gone is there no more
abbrev pub with_half_after : MirrorHost → Name → HalfStage → MirrorHost
with_half_after host group Ends = record host { halves = without_half group host.halves }
with_half_after host group stage =
    let half = half_at host group in with_seat host group (seat_after half.seat stage) (sent_after half.seat half.sent stage)

abbrev pub after_half_stage : MirrorHost → Name → HalfStage → MirrorHost
after_half_stage host group stage = record (with_half_after host group stage) { sets = sets_after group (half_at host group) stage host.sets }

-- the host behind stages of its own
abbrev pub with_own : MirrorHost → List HostStage → MirrorHost
with_own host stages = record host { own = run in_host host.own stages }

abbrev pub after_mirror_stage : MirrorHost → MirrorStage → MirrorHost
after_mirror_stage host (OfHost stage) = record host { own = after_host_stage host.own stage }
after_mirror_stage host (OfHalf group stage) = after_half_stage host group stage
after_mirror_stage host (AtOnce stages group stage) = after_half_stage (with_own host stages) group stage

-- some of these segments
pub record AreSome (part keys : NamedKeys) : Type 0 where
  pub within : (name : Name) (seg : ℕ) → part name seg ≡ true → keys name seg ≡ true

-- a host in the midst of a stage: of bits there is any part; all else is done or not
abbrev pub InHalfStage : MirrorHost → Name → HalfStage → MirrorHost → Type 0
InHalfStage host group (Notes keys) new = (part : NamedKeys) × AreSome part keys × (new ≡ after_half_stage host group (Notes part))
InHalfStage host group (Frees keys) new = (part : NamedKeys) × AreSome part keys × (new ≡ after_half_stage host group (Frees part))
InHalfStage host group stage new = ⊥

abbrev pub InMirrorStage : MirrorHost → MirrorStage → MirrorHost → Type 0
InMirrorStage host (OfHost stage) new = (left : HostState) × (InHostStage host.own stage left × (new ≡ record host { own = left }))
InMirrorStage host (OfHalf group stage) new = InHalfStage host group stage new
InMirrorStage host (AtOnce stages group stage) new = ⊥

-- what the stages of a host do
abbrev pub in_mirrors : Stages MirrorHost MirrorStage
in_mirrors = record { after = after_mirror_stage; In = InMirrorStage }
