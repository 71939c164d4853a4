-- What a host has of mirror groups, beside its volumes and its groups of shadow sets: its mirror sets, and its half of each group.
use Rattle.std.specs.Prelude.{ℕ, Bool, false, not, Option, None, List, [], ◌∷◌, filter, find, is_some, if◌then◌else◌}
use Rattle.std.specs.Option.{option_map_or}
use Rattle.std.specs.Str.{bytes_eq}
use Rattle.avs_seg.specs.Image.{Image}
use Rattle.avs_model.specs.Hosts.{Name, HostStage, HostState}
use Rattle.avs_model.specs.declared.entry.EntryKind.{EntryKind}
use Rattle.avs_mirrors.specs.Half.{HalfRole, State, Lone, Logging}

-- of each segment of a set the place that frees it: 0 where no place does yet, None where the segment is not due
abbrev pub SetDue : Type 0
SetDue = ℕ → Option ℕ

-- segments of sets, by the names of the sets
abbrev pub NamedKeys : Type 0
NamedKeys = Name → ℕ → Bool

-- an entry of a session: its kind, its set, its first block, and its blocks
pub record NamedEntry : Type 0 where
  pub kind : EntryKind
  pub set : Name
  pub at : ℕ
  pub bytes : Image

-- a worker's message: its session, its place, the entry, and the place that it brings back
pub record NamedMessage : Type 0 where
  pub number : ℕ
  pub place : ℕ
  pub entry : NamedEntry
  pub got : Option ℕ

-- a mirror set on a host: its name, which it has on the other host too; the group that it is in; its volume and its bitmap here; whether
-- the volume has contents (its image is the blocks below, also where it has none); and which segments are due
pub record PairSet : Type 0 where
  pub name : Name
  pub group : Name
  pub volume : Name
  pub bitmap : Name
  pub contents : Bool
  pub due : SetDue

-- where a half stands: the number of its session, its role and its state there; as a sender the place it gave last, the one it knows
-- applied, and the one taken last; as a receiver the place it applied last; and the messages it holds
pub record Seat : Type 0 where
  pub number : ℕ
  pub role : HalfRole
  pub state : State
  pub last : ℕ
  pub known : ℕ
  pub taken : ℕ
  pub applied : ℕ
  pub held : List NamedMessage

-- what a sender keeps of its session: the place of the mark, 0 before there is one; how many blocks a write may have at most; and its
-- entries above the known place
pub record Sent : Type 0 where
  pub mark : ℕ
  pub most : ℕ
  pub entries : List NamedEntry

-- a half of a group on a host: the group, and its queue volume where it has one
pub record MirrorHalf : Type 0 where
  pub group : Name
  pub queue : Option Name
  pub seat : Seat
  pub sent : Sent

-- what an event does to a half of a group, part by part
pub data HalfStage : Type 0 where
  -- bits of segments are set
  Notes : NamedKeys → HalfStage
  -- a set has contents
  Fills : Name → HalfStage
  -- the next place is this entry
  Places : NamedEntry → HalfStage
  -- a worker takes a place
  Takes : ℕ → HalfStage
  -- segments are no longer due; a place is known; the mark is known; workers go on behind the known place
  Frees : NamedKeys → HalfStage
  Knows : ℕ → HalfStage
  Turns : HalfStage
  GoesOn : HalfStage
  -- each segment has the greatest place above the known one that touches it
  Weighs : HalfStage
  -- a sender leaves to logging; keeps its session in its queue; forgets what it gave and knows; a receiver leaves to logging
  Leaves : HalfStage
  Queues : HalfStage
  Forgets : HalfStage
  LeavesReceiver : HalfStage
  -- it takes a number as a sender; it enters the session of its number, in which a write has so many blocks at most, with these bits of
  -- the other half; it is asked into a session; it is again in the session that it left
  Draws : ℕ → HalfStage
  Begins : ℕ → NamedKeys → HalfStage
  Asks : ℕ → HalfStage
  Rejoins : HalfStage
  -- it holds a message; it applies an entry, which is its next place
  Holds : NamedMessage → HalfStage
  Applies : NamedEntry → HalfStage
  -- a set is enabled; a set of another group comes to this one; a set is disabled; the group is gone from the host
  Joins : PairSet → HalfStage
  Regroups : Name → HalfStage
  Parts : Name → HalfStage
  Ends : HalfStage

-- what an event does to a host: a stage of the host; a stage of its half of a group; or stages of the host together with one of a half,
-- all at once
pub data MirrorStage : Type 0 where
  OfHost : HostStage → MirrorStage
  OfHalf : Name → HalfStage → MirrorStage
  AtOnce : List HostStage → Name → HalfStage → MirrorStage

-- A host with its mirrors: its volumes and groups; its mirror sets; its halves; and, while it lies still, what it was about to do when a
-- fault stopped it. All else then stands as before that event, but that a half which does not keep its session has left it.
pub record MirrorHost : Type 0 where
  pub own : HostState
  pub sets : List PairSet
  pub halves : List MirrorHalf
  pub stopped : List MirrorStage

-- ---- sets by name

abbrev pub is_set_named : Name → PairSet → Bool
is_set_named name set = bytes_eq name set.name

abbrev pub mirror_set_of : MirrorHost → Name → Option PairSet
mirror_set_of host name = find (λ set. is_set_named name set) host.sets

-- whether a host has a set of that name, and in that group
abbrev pub has_mirror_set : MirrorHost → Name → Bool
has_mirror_set host name = is_some (mirror_set_of host name)

abbrev pub is_set_in : MirrorHost → Name → Name → Bool
is_set_in host group name = option_map_or (λ set. bytes_eq group set.group) (mirror_set_of host name) false

-- ---- halves by the name of the group: one that is not there was in no session yet

abbrev pub no_seat : Seat
no_seat = record { number = 0; role = Lone; state = Logging; last = 0; known = 0; taken = 0; applied = 0; held = [] }

abbrev pub nothing_sent : Sent
nothing_sent = record { mark = 0; most = 0; entries = [] }

abbrev pub no_half : Name → MirrorHalf
no_half group = record { group = group; queue = None; seat = no_seat; sent = nothing_sent }

abbrev pub is_half_of : Name → MirrorHalf → Bool
is_half_of group half = bytes_eq group half.group

abbrev pub half_at : MirrorHost → Name → MirrorHalf
half_at host group = option_map_or (λ half. half) (find (λ half. is_half_of group half) host.halves) (no_half group)

abbrev pub without_half : Name → List MirrorHalf → List MirrorHalf
without_half group halves = filter (λ half. not (is_half_of group half)) halves

-- with that half of its group: in its spot, or behind all where there was none
abbrev pub put_half : MirrorHalf → List MirrorHalf → List MirrorHalf
put_half new [] = new ∷ []
put_half new (half ∷ halves) = if is_half_of new.group half then new ∷ halves else half ∷ put_half new halves

-- the host with another half of a group: where it stands, and what it sent
abbrev pub with_seat : MirrorHost → Name → Seat → Sent → MirrorHost
with_seat host group seat sent = record host {
  halves = put_half (record { group = group; queue = (half_at host group).queue; seat = seat; sent = sent }) host.halves;
}
