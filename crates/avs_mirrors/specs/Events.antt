-- The events of a mirror group, and the moves that each of them is where nothing refuses it. An event here is one outcome: whether
-- an `-u` resumes or begins, which segment is the next to be copied, and which worker holds which message, is decided above.
use Rattle.std.specs.Prelude.{ℕ, zero, suc, ◌+◌, ◌==◌, ◌&&◌, ◌||◌, not, max, nat_lt, nat_le, Bool, true, false, if◌then◌else◌, List, [], ◌∷◌, ◌++◌, length, Option, None, Some, find}
use Rattle.std.specs.List.{list_any}
use Rattle.avs_seg.specs.Image.{Image, put}
use Rattle.avs_seg.specs.Segment.{seg_count}
use Rattle.avs_mirrors.specs.Entries.{Images, touches, written}
use Rattle.avs_mirrors.specs.Due.{Segments, Keys, has, frees}
use Rattle.avs_mirrors.specs.Half.{no_sets, Message, HalfState, is_marked, is_sending, is_receiving, knows_mark, without_place}
use Rattle.avs_mirrors.specs.Pair.{PairState, next_place}
use Rattle.avs_mirrors.specs.Moves.{Move, NoteSource, NoteTarget, ChangeSource, ChangeTarget, PlaceWrite, PlaceCopy, PlaceMark, Take, Hold, Apply, Reply, Free, Know, Turn, GoOn, Weigh, LeaveSource, LeaveTarget, Queue, Forget, DrawSource, DrawTarget, Enter, EnterReversed, Rejoin, JoinSource, JoinTarget, MoveSource, MoveTarget, PartSource, PartTarget, EndSource, EndTarget}

-- a set with another image
abbrev pub Restored : Type 0
Restored = ℕ × Image

-- events of the half that sends in the session that both entered last end in `Source`, those of the other half in `Target`
pub data PairEvent : Type 0 where
  -- a write (set, first block, blocks); one that meets a full queue which does not block
  WriteSource : ℕ → ℕ → Image → PairEvent
  WriteTarget : ℕ → ℕ → Image → PairEvent
  WriteFull : ℕ → ℕ → Image → PairEvent
  -- `sync` places the copy of a segment, or the mark, or meets a full queue which does not block
  SyncCopy : ℕ → ℕ → PairEvent
  SyncMark : PairEvent
  SyncFull : PairEvent
  -- a worker takes the next place, carries its message, brings a place back
  TakeNext : PairEvent
  Carry : Message → PairEvent
  Back : ℕ → PairEvent
  -- a thread admits a write and takes its place, and applies the message that comes next
  PlaceTake : ℕ → ℕ → Image → PairEvent
  ApplyOne : Message → PairEvent
  -- the sender drops its session: a message was lost, or met a link that is down, or a receiver that is down or has left
  Drop : PairEvent
  -- `-l`
  LogSource : PairEvent
  LogTarget : PairEvent
  -- `-u` and with `true` `-m`, with so many blocks a write at most; the other way round; and an `-u` that resumes
  Begin : Bool → ℕ → PairEvent
  BeginReversed : Bool → ℕ → PairEvent
  Resume : PairEvent
  -- sets of a half are restored, with these bits
  RestoreSource : Keys → List Restored → PairEvent
  RestoreTarget : Keys → List Restored → PairEvent
  -- a set with this image is enabled, with `true` by `-e`, else by `-E`; disabled; and a half's group is gone from its host
  EnableSource : ℕ → Image → Bool → PairEvent
  EnableTarget : ℕ → Image → Bool → PairEvent
  DisableSource : ℕ → PairEvent
  DisableTarget : ℕ → PairEvent
  RemoveSource : PairEvent
  RemoveTarget : PairEvent
  -- a set comes from another group, with its image, its bits, and with contents or without; it goes to another group; it comes back
  -- before the other half has followed
  MoveInSource : ℕ → Image → Segments → Bool → PairEvent
  MoveInTarget : ℕ → Image → Segments → Bool → PairEvent
  MoveAwaySource : ℕ → PairEvent
  MoveAwayTarget : ℕ → PairEvent
  MoveBackSource : ℕ → PairEvent
  MoveBackTarget : ℕ → PairEvent
  -- the parameters of the group change, or its host is upgraded
  ForgetKnown : PairEvent
  -- a host goes down between events; a host is back, behind what a stopped event left
  Crash : PairEvent
  RecoverSource : PairEvent
  RecoverTarget : PairEvent

-- ---- writes

abbrev pub write_away : (Keys → Move) → (ℕ → Image → Move) → Images → ℕ → ℕ → Image → List Move
write_away note change images set at bytes = note (touches (written set at bytes)) ∷ change set (put (images set) at bytes) ∷ []

abbrev pub write_source : PairState → ℕ → ℕ → Image → List Move
write_source p set at bytes =
    if is_sending p.source then PlaceWrite set at bytes ∷ [] else write_away NoteSource ChangeSource p.source.images set at bytes

abbrev pub write_full : PairState → ℕ → ℕ → Image → List Move
write_full p set at bytes = LeaveSource ∷ write_away NoteSource ChangeSource p.source.images set at bytes

-- ---- messages

-- the target has the message's place already
abbrev pub has_place : HalfState → ℕ → Bool
has_place y place = nat_le place y.applied || list_any (λ m. m.place == place) y.held

-- the held messages that come next, one after another
abbrev pub is_next : ℕ → ℕ → Message → Bool
is_next number place m = m.number == number && m.place == place

abbrev pub apply_found : Option Message → List Move → List Move
apply_found None more = []
apply_found (Some m) more = Apply m ∷ more

abbrev pub applies : ℕ → List Message → ℕ → ℕ → List Move
applies zero held number applied = []
applies (suc fuel) held number applied =
    apply_found (find (is_next number (applied + 1)) held) (applies fuel (without_place (applied + 1) held) number (applied + 1))

-- a message comes to the target: what it does before it answers
abbrev pub brought : PairState → Message → List Move
brought p m = if has_place p.target m.place then [] else
    Hold m ∷ applies (length p.target.held + 1) (m ∷ p.target.held) p.target.number p.target.applied

abbrev pub carried : PairState → Message → List Move
carried p m = brought p m ++ Reply m ∷ []

-- the source learns a place
abbrev pub turn_where : Bool → List Move
turn_where marked = if marked then Turn ∷ [] else []

abbrev pub learn : PairState → ℕ → List Move
learn p upto = Free upto (frees p.source.due upto) ∷ Know upto ∷ turn_where (knows_mark p.session.mark (max p.source.known upto))

-- ---- leaving

-- whether the source goes to queuing when it leaves other than by `-l` or by a full queue
abbrev pub keeps_queue : Bool → HalfState → Bool
keeps_queue queued x = queued && is_sending x && is_marked x.state

abbrev pub dropped : Bool → PairState → List Move
dropped queued p = if keeps_queue queued p.source then Queue ∷ [] else LeaveSource ∷ []

abbrev pub logged_source : PairState → List Move
logged_source p = if is_sending p.source then LeaveSource ∷ [] else []

abbrev pub logged_target : PairState → List Move
logged_target p = if is_receiving p.target then LeaveTarget ∷ [] else []

-- a host has only its disks
abbrev pub recovered_source : Bool → PairState → List Move
recovered_source queued p = if keeps_queue queued p.source then Queue ∷ Weigh ∷ [] else LeaveSource ∷ Forget ∷ []

-- ---- sessions

-- all segments of an image, and of the sets of a half
abbrev pub all_segments : Image → Segments
all_segments image seg = nat_lt seg (seg_count (length image))

abbrev pub all_of : HalfState → Keys
all_of h set seg = h.here set && all_segments (h.images set) seg

-- the bits that a sender sets when it begins: those of the receiver, or all
abbrev pub bits_for : Bool → HalfState → HalfState → Keys
bits_for full a b set seg = has b.due set seg || (full && all_of a set seg)

abbrev pub next_number : PairState → ℕ
next_number p = max p.source.number p.target.number + 1

-- the sender's part: its bits first, and then in one stage its leaving and its number
abbrev pub asks : PairState → Bool → List Move
asks p full = NoteSource (bits_for full p.source p.target) ∷ LeaveSource ∷ DrawSource (next_number p) ∷ []

abbrev pub asks_reversed : PairState → Bool → List Move
asks_reversed p full = NoteTarget (bits_for full p.target p.source) ∷ DrawTarget (next_number p) ∷ []

abbrev pub resumes : PairState → ℕ → List Move
resumes p applied = Free applied (frees p.source.due applied) ∷ Know applied ∷ GoOn ∷ []

-- ---- sets

abbrev pub restored : (ℕ → Image → Move) → List Restored → List Move
restored change [] = []
restored change (r ∷ rs) = change r.0 r.1 ∷ restored change rs

abbrev pub bits_of : Bool → Image → Segments
bits_of full image = if full then all_segments image else no_sets

-- a set that the other half has moved away leaves both
abbrev pub parts_with : (ℕ → Move) → HalfState → ℕ → List Move
parts_with part other set = if other.on set && not (other.here set) then part set ∷ [] else []

-- a set goes to another group: it stays a set of the half until the other half follows
abbrev pub moves_away : (ℕ → Bool → Move) → (ℕ → Move) → (ℕ → Move) → HalfState → ℕ → List Move
moves_away move part part_other other set = if other.here set then move set false ∷ [] else part set ∷ parts_with part_other other set

-- ---- all events; `queued` says whether the source has a disk queue

abbrev pub moves : Bool → PairState → PairEvent → List Move
moves queued p (WriteSource set at bytes) = write_source p set at bytes
moves queued p (WriteTarget set at bytes) = write_away NoteTarget ChangeTarget p.target.images set at bytes
moves queued p (WriteFull set at bytes) = write_full p set at bytes
moves queued p (SyncCopy set seg) = PlaceCopy set seg ∷ []
moves queued p SyncMark = PlaceMark ∷ []
moves queued p SyncFull = LeaveSource ∷ []
moves queued p TakeNext = Take (p.source.taken + 1) ∷ []
moves queued p (Carry m) = carried p m
moves queued p (Back upto) = learn p upto
moves queued p (PlaceTake set at bytes) = PlaceWrite set at bytes ∷ Take (next_place p.session) ∷ []
moves queued p (ApplyOne m) = Hold m ∷ Apply m ∷ Reply m ∷ []
moves queued p Drop = dropped queued p
moves queued p LogSource = logged_source p
moves queued p LogTarget = logged_target p
moves queued p (Begin full most) = asks p full ++ Enter most ∷ []
moves queued p (BeginReversed full most) = asks_reversed p full ++ EnterReversed most ∷ []
moves queued p Resume = Rejoin ∷ resumes p p.target.applied
moves queued p (RestoreSource keys rs) = NoteSource keys ∷ restored ChangeSource rs
moves queued p (RestoreTarget keys rs) = NoteTarget keys ∷ restored ChangeTarget rs
moves queued p (EnableSource set image full) = ChangeSource set image ∷ JoinSource set (bits_of full image) true ∷ []
moves queued p (EnableTarget set image full) = ChangeTarget set image ∷ JoinTarget set (bits_of full image) true ∷ []
moves queued p (DisableSource set) = PartSource set ∷ parts_with PartTarget p.target set
moves queued p (DisableTarget set) = PartTarget set ∷ parts_with PartSource p.source set
moves queued p RemoveSource = EndSource ∷ []
moves queued p RemoveTarget = EndTarget ∷ []
moves queued p (MoveInSource set image keys filled) = ChangeSource set image ∷ JoinSource set keys filled ∷ []
moves queued p (MoveInTarget set image keys filled) = ChangeTarget set image ∷ JoinTarget set keys filled ∷ []
moves queued p (MoveAwaySource set) = moves_away MoveSource PartSource PartTarget p.target set
moves queued p (MoveAwayTarget set) = moves_away MoveTarget PartTarget PartSource p.source set
moves queued p (MoveBackSource set) = MoveSource set true ∷ []
moves queued p (MoveBackTarget set) = MoveTarget set true ∷ []
moves queued p ForgetKnown = Forget ∷ []
moves queued p Crash = []
moves queued p RecoverSource = recovered_source queued p
moves queued p RecoverTarget = logged_target p
