-- A half of a mirror group, and what the steps of its calls make of it.
use Rattle.std.specs.Prelude.{ℕ, ◌+◌, ◌==◌, ◌&&◌, ◌||◌, not, nat_lt, nat_le, max, if◌then◌else◌, Bool, true, false, List, [], ◌∷◌, filter, Option}
use Rattle.avs_seg.specs.Image.{Image, put}
use Rattle.avs_model.specs.declared.entry.Entry.{Entry}
pub use Rattle.avs_model.specs.declared.half.HalfRole.{HalfRole}
pub use Rattle.avs_model.specs.declared.half.HalfRole.TheVariants.{Lone, Sender, Receiver}
pub use Rattle.avs_model.specs.declared.half.State.{State}
pub use Rattle.avs_model.specs.declared.half.State.TheVariants.{Logging, Syncing, Receiving, Replicating, Queuing}
use Rattle.avs_mirrors.specs.Entries.{Images, with_image, after_entry, is_mark, touches}
use Rattle.avs_mirrors.specs.Due.{Segments, Keys, Due, nothing_due, noted, placed_due, copied_due, frees, freed_due, zeros, both_due, weighed_due, set_due}

-- a worker's message: its session, its place, the entry, and the place that it brings back
pub record Message : Type 0 where
  pub number : ℕ
  pub place : ℕ
  pub entry : Entry
  pub got : Option ℕ

-- sets of a group
abbrev pub Sets : Type 0
Sets = ℕ → Bool

-- a half: its sets, and which of them are in this group still (one that was moved to another group stays a set of the half until
-- the other half follows); which sets have contents, and the blocks that lie below; the number of its session, its role and its
-- state there; as a sender the place it gave last, the one it knows applied, and the one taken last; as a receiver the place it
-- applied last; what is due; the messages it holds; and which sets' blocks nothing but entries came to since it was asked
pub record HalfState : Type 0 where
  pub on : Sets
  pub here : Sets
  pub contents : Sets
  pub images : Images
  pub number : ℕ
  pub role : HalfRole
  pub state : State
  pub last : ℕ
  pub known : ℕ
  pub taken : ℕ
  pub applied : ℕ
  pub due : Due
  pub held : List Message
  pub kept : Sets

abbrev pub no_sets : Sets
no_sets set = false

abbrev pub with_set : Sets → ℕ → Bool → Sets
with_set sets set there t = if t == set then there else sets t

-- ---- where a half stands

abbrev pub is_sender : HalfRole → Bool
is_sender Lone = false
is_sender Sender = true
is_sender Receiver = false

abbrev pub is_receiver : HalfRole → Bool
is_receiver Lone = false
is_receiver Sender = false
is_receiver Receiver = true

abbrev pub is_session : State → Bool
is_session Logging = false
is_session Syncing = true
is_session Receiving = true
is_session Replicating = true
is_session Queuing = true

-- the mark was applied, or is known
abbrev pub is_marked : State → Bool
is_marked Logging = false
is_marked Syncing = false
is_marked Receiving = false
is_marked Replicating = true
is_marked Queuing = true

abbrev pub is_acting_state : State → Bool
is_acting_state Logging = false
is_acting_state Syncing = true
is_acting_state Receiving = false
is_acting_state Replicating = true
is_acting_state Queuing = false

-- whether a half is in a session as its sender, also while it queues, and as its receiver
abbrev pub is_sending : HalfState → Bool
is_sending h = is_sender h.role && is_session h.state

abbrev pub is_receiving : HalfState → Bool
is_receiving h = is_receiver h.role && is_session h.state

-- whether a half sends and does not queue
abbrev pub is_acting : HalfState → Bool
is_acting h = is_sender h.role && is_acting_state h.state

-- ---- any half

-- bits are set
abbrev pub with_bits : HalfState → Keys → HalfState
with_bits h keys = record h { due = noted h.due keys }

-- a set has other blocks, by a write of its own host or a restored image: with contents
abbrev pub with_change : HalfState → ℕ → Image → HalfState
with_change h set image = record h {
  images = with_image h.images set image;
  contents = with_set h.contents set true;
  kept = with_set h.kept set false;
}

-- a write in logging: its bits, and its blocks
abbrev pub with_write : HalfState → Entry → HalfState
with_write h e = with_change (with_bits h (touches e)) e.set (put (h.images e.set) e.at e.bytes)

-- a set joins, with bits and with contents or without; parts; goes to another group or comes back
abbrev pub joined : HalfState → ℕ → Segments → Bool → HalfState
joined h set keys filled = record h {
  on = with_set h.on set true;
  here = with_set h.here set true;
  contents = with_set h.contents set filled;
  due = set_due h.due set keys;
  last = 0;
  known = 0;
  taken = 0;
  kept = with_set h.kept set false;
}

abbrev pub parted : HalfState → ℕ → HalfState
parted h set = record h {
  on = with_set h.on set false;
  here = with_set h.here set false;
  due = set_due h.due set no_sets;
  last = 0;
  known = 0;
  taken = 0;
  kept = with_set h.kept set false;
}

abbrev pub moved : HalfState → ℕ → Bool → HalfState
moved h set there = record h { here = with_set h.here set there; last = 0; known = 0; taken = 0 }

-- its group is gone
abbrev pub removed : HalfState → HalfState
removed h = record h { number = 0; role = Lone; last = 0; known = 0; taken = 0; applied = 0; held = []; kept = no_sets }

-- it takes a number, as the sender of a session that nobody has entered
abbrev pub drawn : HalfState → ℕ → HalfState
drawn h number = record h { role = Sender; number = number; last = 0; known = 0; taken = 0; applied = 0; held = []; kept = no_sets }

-- ---- a sender

-- it enters the session, with the bits of the other half
abbrev pub begun : HalfState → HalfState → HalfState
begun a b = record a {
  on = a.here;
  state = Syncing;
  last = 0;
  known = 0;
  taken = 0;
  applied = 0;
  due = both_due a.due b.due;
  held = [];
  kept = no_sets;
}

-- all that its host does at a beginning: it leaves, sets these bits besides (those of the other half, or all), and enters a session
-- of this number
abbrev pub begun_with : HalfState → Keys → ℕ → HalfState
begun_with a keys number = record a {
  on = a.here;
  number = number;
  role = Sender;
  state = Syncing;
  last = 0;
  known = 0;
  taken = 0;
  applied = 0;
  due = zeros (noted a.due keys);
  held = [];
  kept = no_sets;
}

-- a write has a place; the copy of a segment; the mark; a worker takes a place
abbrev pub with_place : HalfState → Entry → ℕ → Bool → HalfState
with_place x e place copying = record x { images = after_entry x.images e; due = placed_due x.due copying e place; last = place }

abbrev pub with_copy : HalfState → ℕ → ℕ → ℕ → HalfState
with_copy x set seg place = record x { due = copied_due x.due set seg place; last = place }

abbrev pub with_mark : HalfState → ℕ → HalfState
with_mark x place = record x { last = place }

abbrev pub with_taken : HalfState → ℕ → HalfState
with_taken x place = record x { taken = place }

-- segments are no longer due; a place is known; the mark is known
abbrev pub with_freed : HalfState → Keys → HalfState
with_freed x keys = record x { due = freed_due x.due keys }

abbrev pub with_reached : HalfState → ℕ → HalfState
with_reached x upto = record x { known = max x.known upto }

abbrev pub turned : HalfState → HalfState
turned x = record x { state = Replicating }

-- all three: it learns that a place was applied, in a session with the mark at that place
abbrev pub knows_mark : ℕ → ℕ → Bool
knows_mark mark known = nat_lt 0 mark && nat_le mark known

abbrev pub with_known : HalfState → ℕ → ℕ → HalfState
with_known x upto mark = record x {
  due = freed_due x.due (frees x.due upto);
  known = max x.known upto;
  state = if knows_mark mark (max x.known upto) then Replicating else x.state;
}

-- after a resumption workers go on behind the known place
abbrev pub resumed : HalfState → HalfState
resumed x = record x { state = Replicating; taken = x.known }

-- all of it: it learns the place at which the target has come back
abbrev pub resumed_at : HalfState → ℕ → HalfState
resumed_at x upto = record x {
  due = freed_due x.due (frees x.due upto);
  known = max x.known upto;
  state = Replicating;
  taken = max x.known upto;
}

-- it leaves to logging; it keeps its session in a queue; it forgets what it gave and knows; each segment has its place again
abbrev pub left_sender : HalfState → HalfState
left_sender x = record x { state = Logging; due = zeros x.due; held = [] }

abbrev pub queued : HalfState → HalfState
queued x = record x { state = Queuing; taken = x.known }

abbrev pub forgotten : HalfState → HalfState
forgotten x = record x { last = 0; known = 0; taken = 0 }

abbrev pub weighed : HalfState → List Entry → HalfState
weighed x order = record x { due = weighed_due x.due x.known order }

-- ---- a receiver

-- it is asked into a session: no contents from then on, and the blocks below stay
abbrev pub asked : HalfState → ℕ → HalfState
asked b number = record b {
  on = b.here;
  contents = λ set. not (b.here set) && b.contents set;
  number = number;
  role = Receiver;
  state = Receiving;
  last = 0;
  known = 0;
  taken = 0;
  applied = 0;
  due = zeros b.due;
  held = [];
  kept = b.here;
}

abbrev pub with_held : HalfState → Message → HalfState
with_held y m = record y { held = m ∷ y.held }

abbrev pub without_place : ℕ → List Message → List Message
without_place place held = filter (λ m. not (m.place == place)) held

-- it applies the next place; the mark gives contents, and its own bits leave
abbrev pub applied_to : HalfState → Entry → HalfState
applied_to y e = record y {
  contents = λ set. (is_mark e.kind && y.on set) || y.contents set;
  images = after_entry y.images e;
  state = if is_mark e.kind then Replicating else y.state;
  applied = y.applied + 1;
  due = if is_mark e.kind then nothing_due else y.due;
  held = without_place (y.applied + 1) y.held;
}

-- it leaves to logging, and gives up what it holds; it is again in the session that it left
abbrev pub left_receiver : HalfState → HalfState
left_receiver y = record y { state = Logging; held = [] }

abbrev pub rejoined : HalfState → HalfState
rejoined y = record y { on = y.here; state = Replicating; held = []; kept = y.here }
