-- What has to hold before a move. It is what the laws need; what a program accepts is said of events.
use Rattle.std.specs.Prelude.{◌≡◌, ◌⊎◌, ℕ, ◌+◌, ◌-◌, ◌*◌, ◌/◌, ◌<◌, ◌≤◌, Bool, true, false, List, [], ◌∷◌, length, Some, slice_get}
use Rattle.avs_seg.specs.Image.{Image, block_at}
use Rattle.avs_seg.specs.Segment.{seg_count}
use Rattle.avs_model.specs.declared.entry.Entry.{Entry}
use Rattle.avs_mirrors.specs.Entries.{block_in, touches, SameSize}
use Rattle.avs_mirrors.specs.Due.{Segments, Keys, has, is_zero}
use Rattle.avs_mirrors.specs.Half.{Sender, Receiver, Logging, Queuing, Message, HalfState, is_marked, is_acting, is_sending, is_receiving}
use Rattle.avs_mirrors.specs.Pair.{PairState}
use Rattle.avs_mirrors.specs.Moves.{Move, NoteSource, NoteTarget, ChangeSource, ChangeTarget, PlaceWrite, PlaceCopy, PlaceMark, Take, Hold, Apply, Reply, Free, Know, Turn, GoOn, Weigh, LeaveSource, LeaveTarget, Queue, Forget, DrawSource, DrawTarget, Enter, EnterReversed, Rejoin, JoinSource, JoinTarget, MoveSource, MoveTarget, PartSource, PartTarget, EndSource, EndTarget, after}

-- a set's image changes inside segments with bits alone; a volume that is no set may change as it likes
pub record ChangesInside (h : HalfState) (set : ℕ) (image : Image) : Type 0 where
  pub size : h.on set ≡ true → length image ≡ length (h.images set)
  pub outside : h.on set ≡ true → (i : ℕ) → has h.due set (i / 64) ≡ false → block_at image i ≡ block_in h.images set i

-- ---- places

-- a write of one block or more, inside a set of the session, and not longer than the session allows
pub record CanPlace (p : PairState) (set at : ℕ) (bytes : Image) : Type 0 where
  pub sends : is_sending p.source ≡ true
  pub set_there : p.session.sets set ≡ true
  pub some : 0 < length bytes
  pub inside : at + length bytes ≤ length (p.source.images set)
  pub short : length bytes ≤ p.session.most

pub record CanCopy (p : PairState) (set seg : ℕ) : Type 0 where
  pub sends : is_sending p.source ≡ true
  pub set_there : p.session.sets set ≡ true
  pub copying : p.session.mark ≡ 0
  pub waits : p.source.due set seg ≡ Some 0
  pub inside : 64 * seg < length (p.source.images set)

pub record CanMark (p : PairState) : Type 0 where
  pub sends : is_sending p.source ≡ true
  pub copying : p.session.mark ≡ 0
  pub none : (set seg : ℕ) → p.source.on set ≡ true → is_zero (p.source.due set seg) ≡ false

pub record CanTake (p : PairState) (place : ℕ) : Type 0 where
  pub sends : is_sending p.source ≡ true
  pub some : 0 < place
  pub there : place ≤ length p.session.order

-- ---- messages

-- a message is one of these
pub record IsAmong (m : Message) (messages : List Message) : Type 0 where
  pub at : ℕ
  pub there : slice_get messages at ≡ Some m

-- a message of the target's session comes to it
pub record IsHeldFrom (p : PairState) (m : Message) : Type 0 where
  pub here : is_receiving p.target ≡ true
  pub number : m.number ≡ p.target.number
  pub among : IsAmong m p.messages

-- it is the next one that the target holds
pub record IsNext (m : Message) (y : HalfState) : Type 0 where
  pub here : is_receiving y ≡ true
  pub number : m.number ≡ y.number
  pub held : IsAmong m y.held
  pub place : m.place ≡ y.applied + 1

-- a message of the source's session brings back this place
pub record BringsBack (p : PairState) (upto : ℕ) : Type 0 where
  pub acts : is_acting p.source ≡ true
  pub message : Message
  pub among : IsAmong message p.messages
  pub number : message.number ≡ p.source.number
  pub got : message.got ≡ Some upto

-- the target tells it at its return
pub record TellsApplied (p : PairState) (upto : ℕ) : Type 0 where
  pub sends : is_sending p.source ≡ true
  pub same : p.source.number ≡ p.target.number
  pub reached : upto ≡ p.target.applied

abbrev pub IsTold : PairState → ℕ → Type 0
IsTold p upto = BringsBack p upto ⊎ TellsApplied p upto

-- ---- what is known

-- each of the segments is freed by a place that is told
pub record CanFree (p : PairState) (upto : ℕ) (keys : Keys) : Type 0 where
  pub told : IsTold p upto
  pub each : (set seg : ℕ) → keys set seg ≡ true → (place : ℕ) × (p.source.due set seg ≡ Some place) × (0 < place) × (place ≤ upto)

-- all that the place frees was freed
pub record CanKnow (p : PairState) (upto : ℕ) : Type 0 where
  pub told : IsTold p upto
  pub freed : (set seg place : ℕ) → p.source.due set seg ≡ Some place → 0 < place → upto < place

pub record CanTurn (p : PairState) : Type 0 where
  pub sends : is_sending p.source ≡ true
  pub marked : 0 < p.session.mark
  pub known : p.session.mark ≤ p.source.known
  pub same : (is_acting p.source ≡ true) ⊎ (p.source.number ≡ p.target.number)

-- the place that frees a segment is not known yet, touches it, and is the last that does
pub record IsLast (order : List Entry) (known set seg place : ℕ) : Type 0 where
  pub unknown : known < place
  pub low : place ≤ length order
  pub touched : (e : Entry) → slice_get order (place - 1) ≡ Some e → touches e set seg ≡ true
  pub last : (j : ℕ) (e : Entry) → place ≤ j → slice_get order j ≡ Some e → touches e set seg ≡ false

-- ---- sessions

pub record CanWeigh (p : PairState) : Type 0 where
  pub sends : is_sending p.source ≡ true
  pub marked : 0 < p.session.mark

pub record CanQueue (p : PairState) : Type 0 where
  pub sends : is_sending p.source ≡ true
  pub marked : is_marked p.source.state ≡ true

pub record CanDraw (p : PairState) (h : HalfState) (number : ℕ) : Type 0 where
  pub away : h.state ≡ Logging
  pub above_source : p.source.number < number
  pub above_target : p.target.number < number

-- the first half enters its session with the second: no session had this number or one above it, they have the same sets, and the
-- sender's have contents
pub record CanEnter (newest : ℕ) (a b : HalfState) : Type 0 where
  pub fresh : newest < a.number
  pub sender : a.role ≡ Sender
  pub away : a.state ≡ Logging
  pub above : b.number < a.number
  pub same_sets : (set : ℕ) → a.here set ≡ b.here set
  pub contents : (set : ℕ) → a.here set ≡ true → a.contents set ≡ true

-- the source queues what the target, which left the same session, has not: the target has contents and no bits
pub record CanRejoin (p : PairState) : Type 0 where
  pub sender : p.source.role ≡ Sender
  pub queues : p.source.state ≡ Queuing
  pub same : p.source.number ≡ p.target.number
  pub role : p.target.role ≡ Receiver
  pub same_sets : (set : ℕ) → p.source.here set ≡ p.target.here set
  pub contents : (set : ℕ) → p.target.here set ≡ true → p.target.contents set ≡ true
  pub none : (set seg : ℕ) → p.target.here set ≡ true → has p.target.due set seg ≡ false

-- ---- sets

-- all segments of so many blocks
pub record AreAll (keys : Segments) (blocks : ℕ) : Type 0 where
  pub each : (seg : ℕ) → seg < seg_count blocks → keys seg ≡ true

-- outside these segments of a set, and outside what is due of the other half, both have the same blocks
pub record SameBeside (a b : HalfState) (set : ℕ) (keys : Segments) : Type 0 where
  pub each : (i : ℕ) → keys (i / 64) ≡ false → has b.due set (i / 64) ≡ false → block_in a.images set i ≡ block_in b.images set i

-- a set joins a half. Where the other half has it, it has as many blocks there, and all its segments have bits; or the other half
-- is in no session, and both have the same blocks outside the segments with bits
pub record CanJoin (a b : HalfState) (in_session : Bool) (set : ℕ) (keys : Segments) : Type 0 where
  pub away : a.state ≡ Logging
  pub size : b.on set ≡ true → SameSize a.images b.images set
  pub covered : b.on set ≡ true → AreAll keys (length (a.images set)) ⊎ ((in_session ≡ false) × SameBeside a b set keys)

pub record CanMove (h : HalfState) (set : ℕ) (there : Bool) : Type 0 where
  pub away : h.state ≡ Logging
  pub on : there ≡ true → h.on set ≡ true

-- ---- all moves

abbrev pub Allowed : PairState → Move → Type 0
Allowed p (NoteSource keys) = Unit {0}
Allowed p (NoteTarget keys) = Unit {0}
Allowed p (ChangeSource set image) = (is_sending p.source ≡ false) × ChangesInside p.source set image
Allowed p (ChangeTarget set image) = (is_receiving p.target ≡ false) × ChangesInside p.target set image
Allowed p (PlaceWrite set at bytes) = CanPlace p set at bytes
Allowed p (PlaceCopy set seg) = CanCopy p set seg
Allowed p PlaceMark = CanMark p
Allowed p (Take place) = CanTake p place
Allowed p (Hold m) = IsHeldFrom p m
Allowed p (Apply m) = IsNext m p.target
Allowed p (Reply m) = IsHeldFrom p m
Allowed p (Free upto keys) = CanFree p upto keys
Allowed p (Know upto) = CanKnow p upto
Allowed p Turn = CanTurn p
Allowed p GoOn = CanTurn p
Allowed p Weigh = CanWeigh p
Allowed p LeaveSource = Unit {0}
Allowed p LeaveTarget = Unit {0}
Allowed p Queue = CanQueue p
Allowed p Forget = is_sending p.source ≡ false
Allowed p (DrawSource number) = CanDraw p p.source number
Allowed p (DrawTarget number) = (is_acting p.source ≡ false) × CanDraw p p.target number
Allowed p (Enter most) = CanEnter p.session.number p.source p.target
Allowed p (EnterReversed most) = CanEnter p.session.number p.target p.source
Allowed p Rejoin = CanRejoin p
Allowed p (JoinSource set keys filled) = CanJoin p.source p.target (is_receiving p.target) set keys
Allowed p (JoinTarget set keys filled) = CanJoin p.target p.source (is_sending p.source) set keys
Allowed p (MoveSource set there) = CanMove p.source set there
Allowed p (MoveTarget set there) = CanMove p.target set there
Allowed p (PartSource set) = p.source.state ≡ Logging
Allowed p (PartTarget set) = p.target.state ≡ Logging
Allowed p EndSource = p.source.state ≡ Logging
Allowed p EndTarget = p.target.state ≡ Logging

abbrev pub AllAllowed : PairState → List Move → Type 0
AllAllowed p [] = Unit {0}
AllAllowed p (m ∷ ms) = Allowed p m × AllAllowed (after p m) ms
