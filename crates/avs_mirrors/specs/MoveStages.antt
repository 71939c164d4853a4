-- The stages that each move of two halves is, on the hosts that they are on.
use Rattle.std.specs.Prelude.{◌≡◌, ◌⊎◌, ℕ, Bool, true, false, None, Some, List, [], ◌∷◌, ◌++◌, map, if◌then◌else◌}
use Rattle.std.specs.Str.{bytes_eq}
use Rattle.avs_seg.specs.Image.{Image, put}
use Rattle.avs_seg.specs.Staged.{run}
use Rattle.avs_model.specs.Hosts.{Name, HostStage, has_volume}
use Rattle.avs_model.specs.HostStages.{in_host}
use Rattle.avs_model.specs.HostPlaces.{Own, where_is, image_of}
use Rattle.avs_model.specs.BothHosts.{other_of}
use Rattle.avs_model.specs.declared.event.Host.{Host}
use Rattle.avs_model.specs.declared.entry.Entry.{Entry}
use Rattle.avs_mirrors.specs.Entries.{copy_of, a_mark, written}
use Rattle.avs_mirrors.specs.Due.{Segments, Keys, has}
use Rattle.avs_mirrors.specs.Half.{Sets, Message, HalfState}
use Rattle.avs_mirrors.specs.Pair.{PairState}
use Rattle.avs_mirrors.specs.Moves.{Move, NoteSource, NoteTarget, ChangeSource, ChangeTarget, PlaceWrite, PlaceCopy, PlaceMark, Take, Hold, Apply, Reply, Free, Know, Turn, GoOn, Weigh, LeaveSource, LeaveTarget, Queue, Forget, DrawSource, DrawTarget, Enter, EnterReversed, Rejoin, JoinSource, JoinTarget, MoveSource, MoveTarget, PartSource, PartTarget, EndSource, EndTarget, after, taken_message, answered}
use Rattle.avs_mirrors.specs.MirrorHosts.{NamedKeys, NamedEntry, PairSet, HalfStage, Notes, Fills, Places, Takes, Frees, Knows, Turns, GoesOn, Weighs, Leaves, Queues, Forgets, LeavesReceiver, Draws, Begins, Asks, Rejoins, Holds, Applies, Joins, Regroups, Parts, Ends, OfHost, OfHalf, AtOnce, MirrorHost, mirror_set_of, has_mirror_set}
use Rattle.avs_mirrors.specs.MirrorStates.{MirrorState, mirror_host, PairStage, AtHost, AtWorker, EndsWorkers, in_pair}
use Rattle.avs_mirrors.specs.PairOf.{View, named_entry, named_message}

-- where a half is: its names, its group, its host, and what that host has
pub record Spot : Type 0 where
  pub names : ℕ → Name
  pub group : Name
  pub at : Host
  pub host : MirrorHost

abbrev pub source_spot : View → MirrorState → Spot
source_spot view state = record { names = view.names; group = view.group; at = view.sender; host = mirror_host state view.sender }

abbrev pub other_spot : View → MirrorState → Spot
other_spot view state =
    record { names = view.names; group = view.group; at = other_of view.sender; host = mirror_host state (other_of view.sender) }

-- one stage of the half there
abbrev pub half_does : Spot → HalfStage → List PairStage
half_does spot stage = AtHost spot.at (OfHalf spot.group stage) ∷ []

abbrev pub at_once : Spot → List HostStage → HalfStage → List PairStage
at_once spot own stage = AtHost spot.at (AtOnce own spot.group stage) ∷ []

abbrev pub host_does : Spot → List HostStage → List PairStage
host_does spot own = map (λ one. AtHost spot.at (OfHost one)) own

-- ---- images: by the host's own stages, wherever it has the volume

-- these stages make of the volume of each mirror set of a host the image that is said of it
pub record MakesImages (host : MirrorHost) (own : List HostStage) (image : PairSet → Image) : Type 0 where
  pub each : (set : PairSet) → mirror_set_of host set.name ≡ Some set → image_of (run in_host host.own own) set.volume ≡ image set

-- one set's volume has another image, or an entry is put on its set's volume; those of all other sets stay
abbrev pub image_changed_to : MirrorHost → Name → Image → PairSet → Image
image_changed_to host name image set = if bytes_eq name set.name then image else image_of host.own set.volume

abbrev pub entry_image : MirrorHost → NamedEntry → PairSet → Image
entry_image host e set = if bytes_eq e.set set.name then put (image_of host.own set.volume) e.at e.bytes else image_of host.own set.volume

-- a volume that no group of the host holds, and that is of one mirror set alone
pub record IsAtRest (host : MirrorHost) (name volume : Name) : Type 0 where
  pub there : has_volume host.own volume ≡ true
  pub at_rest : where_is host.own volume ≡ Own
  pub alone : (set : PairSet) → mirror_set_of host set.name ≡ Some set → bytes_eq volume set.volume ≡ bytes_eq name set.name

-- ---- bits

-- the same segments of these sets, by numbers and by names
pub record SameKeys (names : ℕ → Name) (on : Sets) (keys : Keys) (named : NamedKeys) : Type 0 where
  pub each : (key seg : ℕ) → on key ≡ true → named (names key) seg ≡ keys key seg

pub record NotesAt (spot : Spot) (h : HalfState) (keys : Keys) (stages : List PairStage) : Type 0 where
  pub named : NamedKeys
  pub same : SameKeys spot.names h.on keys named
  pub is : stages ≡ half_does spot (Notes named)

pub record FreesAt (spot : Spot) (h : HalfState) (keys : Keys) (stages : List PairStage) : Type 0 where
  pub named : NamedKeys
  pub same : SameKeys spot.names h.on keys named
  pub is : stages ≡ half_does spot (Frees named)

-- ---- a set has another image: by a write of its host, or, with contents, by a restore

pub record PutsAt (spot : Spot) (h : HalfState) (set : ℕ) (image : Image) (stages : List PairStage) : Type 0 where
  pub own : List HostStage
  pub makes : MakesImages spot.host own (image_changed_to spot.host (spot.names set) image)
  pub contents : h.contents set ≡ true
  pub is : stages ≡ host_does spot own

pub record RestoresAt (spot : Spot) (set : ℕ) (image : Image) (stages : List PairStage) : Type 0 where
  pub own : List HostStage
  pub makes : MakesImages spot.host own (image_changed_to spot.host (spot.names set) image)
  pub is : stages ≡ at_once spot own (Fills (spot.names set))

-- a volume that is no set of this half yet has the image that it has
pub record FindsAt (spot : Spot) (h : HalfState) (set : ℕ) (stages : List PairStage) : Type 0 where
  pub off : h.on set ≡ false
  pub is : stages ≡ []

abbrev pub ChangesAt : Spot → HalfState → ℕ → Image → List PairStage → Type 0
ChangesAt spot h set image stages = PutsAt spot h set image stages ⊎ (RestoresAt spot set image stages ⊎ FindsAt spot h set stages)

-- ---- places and messages

-- a write has the next place: it is put on the sender's volume at once
pub record PlacesAt (spot : Spot) (e : Entry) (stages : List PairStage) : Type 0 where
  pub own : List HostStage
  pub makes : MakesImages spot.host own (entry_image spot.host (named_entry spot.names e))
  pub is : stages ≡ at_once spot own (Places (named_entry spot.names e))

pub record AppliesAt (spot : Spot) (e : Entry) (stages : List PairStage) : Type 0 where
  pub own : List HostStage
  pub makes : MakesImages spot.host own (entry_image spot.host (named_entry spot.names e))
  pub is : stages ≡ at_once spot own (Applies (named_entry spot.names e))

-- a worker of the group holds that message
abbrev pub worker_holds : Spot → ℕ → Message → List PairStage
worker_holds spot worker m = AtWorker spot.group worker (Some (named_message spot.names m)) ∷ []

pub record TakesAt (spot : Spot) (m : Message) (place : ℕ) (stages : List PairStage) : Type 0 where
  pub worker : ℕ
  pub is : stages ≡ half_does spot (Takes place) ++ worker_holds spot worker m

pub record RepliesAt (spot : Spot) (m : Message) (stages : List PairStage) : Type 0 where
  pub worker : ℕ
  pub is : stages ≡ worker_holds spot worker m

-- ---- sessions

-- the first half begins with the bits of the second, which it asks
pub record EntersAt (one other : Spot) (a b : HalfState) (most : ℕ) (stages : List PairStage) : Type 0 where
  pub bits : NamedKeys
  pub same : SameKeys one.names b.here (has b.due) bits
  pub is : stages ≡ half_does one (Begins most bits) ++ half_does other (Asks a.number)

-- ---- sets

-- a new set of the host: its volume has the image that the half has of it
pub record IsNewSet (spot : Spot) (h : HalfState) (key : ℕ) (keys : Segments) (filled : Bool) (set : PairSet) : Type 0 where
  pub new : has_mirror_set spot.host (spot.names key) ≡ false
  pub name : set.name ≡ spot.names key
  pub group : set.group ≡ spot.group
  pub image : h.images key ≡ image_of spot.host.own set.volume
  pub contents : set.contents ≡ filled
  pub due : (seg : ℕ) → set.due seg ≡ (if keys seg then Some 0 else None)

pub record JoinsAt (spot : Spot) (h : HalfState) (key : ℕ) (keys : Segments) (filled : Bool) (stages : List PairStage) : Type 0 where
  pub set : PairSet
  pub new : IsNewSet spot h key keys filled set
  pub is : stages ≡ half_does spot (Joins set)

-- a set of the host that comes from another group, as it is there
pub record IsOldSet (spot : Spot) (h : HalfState) (key : ℕ) (keys : Segments) (filled : Bool) (set : PairSet) : Type 0 where
  pub found : mirror_set_of spot.host (spot.names key) ≡ Some set
  pub name : set.name ≡ spot.names key
  pub image : h.images key ≡ image_of spot.host.own set.volume
  pub contents : set.contents ≡ filled
  pub due : (seg : ℕ) → set.due seg ≡ (if keys seg then Some 0 else None)

pub record ComesAt (spot : Spot) (h : HalfState) (key : ℕ) (keys : Segments) (filled : Bool) (stages : List PairStage) : Type 0 where
  pub set : PairSet
  pub old : IsOldSet spot h key keys filled set
  pub is : stages ≡ half_does spot (Regroups (spot.names key))

-- a set goes to another group of the host, and what this half gave and knows is forgotten; or it comes back
pub record GoesAt (spot : Spot) (key : ℕ) (stages : List PairStage) : Type 0 where
  pub group : Name
  pub other : bytes_eq spot.group group ≡ false
  pub there : has_mirror_set spot.host (spot.names key) ≡ true
  pub is : stages ≡ AtHost spot.at (OfHalf group (Regroups (spot.names key))) ∷ half_does spot Forgets

pub record ReturnsAt (spot : Spot) (key : ℕ) (stages : List PairStage) : Type 0 where
  pub is : stages ≡ half_does spot (Regroups (spot.names key))

abbrev pub MovesAt : Spot → ℕ → Bool → List PairStage → Type 0
MovesAt spot key true stages = ReturnsAt spot key stages
MovesAt spot key false stages = GoesAt spot key stages

-- a set is disabled; or goes where the other half has gone; or the other half goes where this one has gone: of the set nothing is done here,
-- and what this half gave and knows is forgotten
pub record StaysAt (spot : Spot) (h : HalfState) (key : ℕ) (stages : List PairStage) : Type 0 where
  pub away : h.here key ≡ false
  pub is : stages ≡ half_does spot Forgets

abbrev pub PartsAt : Spot → HalfState → ℕ → List PairStage → Type 0
PartsAt spot h key stages = (stages ≡ half_does spot (Parts (spot.names key))) ⊎ (GoesAt spot key stages ⊎ StaysAt spot h key stages)

-- a group is gone from its host, and its workers are
abbrev pub ends : Spot → List PairStage
ends spot = half_does spot Ends ++ EndsWorkers spot.group ∷ []

-- ---- all moves

abbrev pub AreStages : View → MirrorState → PairState → Move → List PairStage → Type 0
AreStages view state p (NoteSource keys) stages = NotesAt (source_spot view state) p.source keys stages
AreStages view state p (NoteTarget keys) stages = NotesAt (other_spot view state) p.target keys stages
AreStages view state p (ChangeSource set image) stages = ChangesAt (source_spot view state) p.source set image stages
AreStages view state p (ChangeTarget set image) stages = ChangesAt (other_spot view state) p.target set image stages
AreStages view state p (PlaceWrite set at bytes) stages = PlacesAt (source_spot view state) (written set at bytes) stages
AreStages view state p (PlaceCopy set seg) stages =
    stages ≡ half_does (source_spot view state) (Places (named_entry view.names (copy_of p.source.images set seg)))
AreStages view state p PlaceMark stages = stages ≡ half_does (source_spot view state) (Places (named_entry view.names a_mark))
AreStages view state p (Take place) stages = TakesAt (source_spot view state) (taken_message p place) place stages
AreStages view state p (Hold m) stages = stages ≡ half_does (other_spot view state) (Holds (named_message view.names m))
AreStages view state p (Apply m) stages = AppliesAt (other_spot view state) m.entry stages
AreStages view state p (Reply m) stages = RepliesAt (other_spot view state) (answered m p.target.applied) stages
AreStages view state p (Free upto keys) stages = FreesAt (source_spot view state) p.source keys stages
AreStages view state p (Know upto) stages = stages ≡ half_does (source_spot view state) (Knows upto)
AreStages view state p Turn stages = stages ≡ half_does (source_spot view state) Turns
AreStages view state p GoOn stages = stages ≡ half_does (source_spot view state) GoesOn
AreStages view state p Weigh stages = stages ≡ half_does (source_spot view state) Weighs
AreStages view state p LeaveSource stages = stages ≡ half_does (source_spot view state) Leaves
AreStages view state p LeaveTarget stages = stages ≡ half_does (other_spot view state) LeavesReceiver
AreStages view state p Queue stages = stages ≡ half_does (source_spot view state) Queues
AreStages view state p Forget stages = stages ≡ half_does (source_spot view state) Forgets
AreStages view state p (DrawSource number) stages = stages ≡ half_does (source_spot view state) (Draws number)
AreStages view state p (DrawTarget number) stages = stages ≡ half_does (other_spot view state) (Draws number)
AreStages view state p (Enter most) stages = EntersAt (source_spot view state) (other_spot view state) p.source p.target most stages
AreStages view state p (EnterReversed most) stages = EntersAt (other_spot view state) (source_spot view state) p.target p.source most stages
AreStages view state p Rejoin stages = stages ≡ half_does (other_spot view state) Rejoins
AreStages view state p (JoinSource set keys filled) stages =
    JoinsAt (source_spot view state) p.source set keys filled stages ⊎ ComesAt (source_spot view state) p.source set keys filled stages
AreStages view state p (JoinTarget set keys filled) stages =
    JoinsAt (other_spot view state) p.target set keys filled stages ⊎ ComesAt (other_spot view state) p.target set keys filled stages
AreStages view state p (MoveSource set there) stages = MovesAt (source_spot view state) set there stages
AreStages view state p (MoveTarget set there) stages = MovesAt (other_spot view state) set there stages
AreStages view state p (PartSource set) stages = PartsAt (source_spot view state) p.source set stages
AreStages view state p (PartTarget set) stages = PartsAt (other_spot view state) p.target set stages
AreStages view state p EndSource stages = stages ≡ ends (source_spot view state)
AreStages view state p EndTarget stages = stages ≡ ends (other_spot view state)

-- where a session begins the other way round, the other host's half is the source from then on
abbrev pub is_reversing : Move → Bool
is_reversing (EnterReversed most) = true
is_reversing m = false

abbrev pub view_after : View → Move → View
view_after view m = record view { sender = if is_reversing m then other_of view.sender else view.sender }

-- the stages of several moves, one after another
abbrev pub AreAllStages : View → MirrorState → PairState → List Move → List PairStage → Type 0
AreAllStages view state p [] stages = stages ≡ []
AreAllStages view state p (m ∷ ms) stages =
    (first : List PairStage) × (more : List PairStage) × AreStages view state p m first
    × AreAllStages (view_after view m) (run in_pair state first) (after p m) ms more
    × (stages ≡ first ++ more)

abbrev pub views_after : View → List Move → View
views_after view [] = view
views_after view (m ∷ ms) = views_after (view_after view m) ms
