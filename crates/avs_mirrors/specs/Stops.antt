-- What a fault leaves of an event: one of these lists of moves, all made when the fault comes. What the half that went down leaves
-- besides is made when its host is back, by its recovery.
use Rattle.std.specs.Prelude.{◌≡◌, ◌⊎◌, ℕ, Bool, true, false, List, [], ◌∷◌, ◌++◌, take}
use Rattle.avs_seg.specs.Image.{Image, IsMix}
use Rattle.avs_model.specs.declared.entry.Entry.{Entry}
use Rattle.avs_mirrors.specs.Entries.{Images, touches, written}
use Rattle.avs_mirrors.specs.Due.{Keys, frees}
use Rattle.avs_mirrors.specs.Half.{is_sending}
use Rattle.avs_mirrors.specs.Pair.{PairState}
use Rattle.avs_mirrors.specs.Moves.{Move, NoteSource, NoteTarget, ChangeSource, ChangeTarget, PlaceWrite, Hold, Apply, Free, LeaveSource, Forget, Enter, EnterReversed, Rejoin}
use Rattle.avs_mirrors.specs.Events.{PairEvent, WriteSource, WriteTarget, WriteFull, SyncCopy, SyncMark, SyncFull, TakeNext, Carry, Back, PlaceTake, ApplyOne, Drop, LogSource, LogTarget, Begin, BeginReversed, Resume, RestoreSource, RestoreTarget, EnableSource, EnableTarget, DisableSource, DisableTarget, RemoveSource, RemoveTarget, MoveInSource, MoveInTarget, MoveAwaySource, MoveAwayTarget, MoveBackSource, MoveBackTarget, ForgetKnown, Crash, RecoverSource, RecoverTarget, keeps_queue, bits_for, brought, learn, asks, asks_reversed, resumes, moves}

-- nothing, or all of it
abbrev pub IsNoneOrAll : List Move → List Move → Type 0
IsNoneOrAll ms whole = (ms ≡ []) ⊎ (ms ≡ whole)

-- the first of them
pub record IsFront (ms whole : List Move) : Type 0 where
  pub count : ℕ
  pub is : ms ≡ take count whole

-- some of the bits are set
pub record IsPartNoted (note : Keys → Move) (keys : Keys) (ms : List Move) : Type 0 where
  pub part : Keys
  pub within : (set seg : ℕ) → part set seg ≡ true → keys set seg ≡ true
  pub is : ms ≡ note part ∷ []

-- all bits are set, and each block of the range is old or new
pub record IsTorn (note : Keys → Move) (change : ℕ → Image → Move) (images : Images) (e : Entry) (ms : List Move) : Type 0 where
  pub image : Image
  pub mix : IsMix (images e.set) e.at e.bytes image
  pub is : ms ≡ note (touches e) ∷ change e.set image ∷ []

-- ---- writes

abbrev pub StopsAway : (Keys → Move) → (ℕ → Image → Move) → Images → Entry → List Move → Type 0
StopsAway note change images e ms = IsPartNoted note (touches e) ms ⊎ IsTorn note change images e ms

-- a session that has no queue on disk, or whose mark is not known, ends with the fault: what the write did, it did in logging
pub record StopsDropped (p : PairState) (e : Entry) (ms : List Move) : Type 0 where
  pub more : List Move
  pub stops : StopsAway NoteSource ChangeSource p.source.images e more
  pub is : ms ≡ LeaveSource ∷ Forget ∷ more

-- with a queue on disk the entry is there or not; where it is, the recovery does the rest
pub record StopsQueued (e : Entry) (ms : List Move) : Type 0 where
  pub either : IsPartNoted NoteSource (touches e) ms ⊎ (ms ≡ PlaceWrite e.set e.at e.bytes ∷ [])

pub record StopsWrite (queued : Bool) (p : PairState) (e : Entry) (ms : List Move) : Type 0 where
  pub away : is_sending p.source ≡ false → StopsAway NoteSource ChangeSource p.source.images e ms
  pub dropped : is_sending p.source ≡ true → keeps_queue queued p.source ≡ false → StopsDropped p e ms
  pub kept : keeps_queue queued p.source ≡ true → StopsQueued e ms

pub record StopsLeft (p : PairState) (e : Entry) (ms : List Move) : Type 0 where
  pub more : List Move
  pub stops : StopsAway NoteSource ChangeSource p.source.images e more
  pub is : ms ≡ LeaveSource ∷ more

-- at a full queue the leaving comes first
abbrev pub StopsFull : PairState → Entry → List Move → Type 0
StopsFull p e ms = (ms ≡ []) ⊎ StopsLeft p e ms

-- ---- learning a place

-- some of the segments that the place frees are no longer due
pub record IsPartFreed (p : PairState) (upto : ℕ) (ms : List Move) : Type 0 where
  pub part : Keys
  pub within : (set seg : ℕ) → part set seg ≡ true → frees p.source.due upto set seg ≡ true
  pub is : ms ≡ Free upto part ∷ []

abbrev pub StopsBack : PairState → ℕ → List Move → List Move → Type 0
StopsBack p upto whole ms = IsPartFreed p upto ms ⊎ IsFront ms whole

-- ---- sessions

-- at a beginning: in the sender's bits; behind its number; or at the receiver, whose note may be the new one, and then the sender
-- has left again
abbrev pub StopsBegin : PairState → Bool → ℕ → List Move → Type 0
StopsBegin p full most ms =
    IsPartNoted NoteSource (bits_for full p.source p.target) ms
    ⊎ ((ms ≡ asks p full) ⊎ (ms ≡ asks p full ++ Enter most ∷ LeaveSource ∷ []))

abbrev pub StopsReversed : PairState → Bool → ℕ → List Move → Type 0
StopsReversed p full most ms =
    IsPartNoted NoteTarget (bits_for full p.target p.source) ms
    ⊎ ((ms ≡ asks_reversed p full) ⊎ (ms ≡ asks_reversed p full ++ EnterReversed most ∷ LeaveSource ∷ []))

-- at a resumption: at the receiver, or behind it at the sender
pub record StopsRejoined (p : PairState) (ms : List Move) : Type 0 where
  pub more : List Move
  pub stops : StopsBack p p.target.applied (resumes p p.target.applied) more
  pub is : ms ≡ Rejoin ∷ more

abbrev pub StopsResume : PairState → List Move → Type 0
StopsResume p ms = (ms ≡ []) ⊎ StopsRejoined p ms

-- ---- all events: one that uses no disk is not stopped; a copy is read from its volume, and a taken entry from a queue on disk: where
-- that fails, nothing was done

abbrev pub Stops : Bool → PairState → PairEvent → List Move → Type 0
Stops queued p (WriteSource set at bytes) ms = StopsWrite queued p (written set at bytes) ms
Stops queued p (WriteTarget set at bytes) ms = StopsAway NoteTarget ChangeTarget p.target.images (written set at bytes) ms
Stops queued p (WriteFull set at bytes) ms = StopsFull p (written set at bytes) ms
Stops queued p (SyncCopy set seg) ms = ms ≡ []
Stops queued p SyncMark ms = (queued ≡ true) × (ms ≡ [])
Stops queued p SyncFull ms = IsNoneOrAll ms (moves queued p SyncFull)
Stops queued p TakeNext ms = (queued ≡ true) × (ms ≡ [])
Stops queued p (Carry m) ms = IsFront ms (brought p m)
Stops queued p (Back upto) ms = StopsBack p upto (learn p upto) ms
Stops queued p (PlaceTake set at bytes) ms = StopsWrite queued p (written set at bytes) ms
Stops queued p (ApplyOne m) ms = IsFront ms (Hold m ∷ Apply m ∷ [])
Stops queued p Drop ms = IsNoneOrAll ms (moves queued p Drop)
Stops queued p LogSource ms = IsNoneOrAll ms (moves queued p LogSource)
Stops queued p LogTarget ms = IsNoneOrAll ms (moves queued p LogTarget)
Stops queued p (Begin full most) ms = StopsBegin p full most ms
Stops queued p (BeginReversed full most) ms = StopsReversed p full most ms
Stops queued p Resume ms = StopsResume p ms
Stops queued p (RestoreSource keys rs) ms = IsPartNoted NoteSource keys ms ⊎ (ms ≡ moves queued p (RestoreSource keys rs))
Stops queued p (RestoreTarget keys rs) ms = IsPartNoted NoteTarget keys ms ⊎ (ms ≡ moves queued p (RestoreTarget keys rs))
Stops queued p (EnableSource set image full) ms = IsNoneOrAll ms (moves queued p (EnableSource set image full))
Stops queued p (EnableTarget set image full) ms = IsNoneOrAll ms (moves queued p (EnableTarget set image full))
Stops queued p (DisableSource set) ms = IsNoneOrAll ms (moves queued p (DisableSource set))
Stops queued p (DisableTarget set) ms = IsNoneOrAll ms (moves queued p (DisableTarget set))
Stops queued p RemoveSource ms = IsNoneOrAll ms (moves queued p RemoveSource)
Stops queued p RemoveTarget ms = IsNoneOrAll ms (moves queued p RemoveTarget)
Stops queued p (MoveInSource set image keys filled) ms = IsNoneOrAll ms (moves queued p (MoveInSource set image keys filled))
Stops queued p (MoveInTarget set image keys filled) ms = IsNoneOrAll ms (moves queued p (MoveInTarget set image keys filled))
Stops queued p (MoveAwaySource set) ms = IsNoneOrAll ms (moves queued p (MoveAwaySource set))
Stops queued p (MoveAwayTarget set) ms = IsNoneOrAll ms (moves queued p (MoveAwayTarget set))
Stops queued p (MoveBackSource set) ms = IsNoneOrAll ms (moves queued p (MoveBackSource set))
Stops queued p (MoveBackTarget set) ms = IsNoneOrAll ms (moves queued p (MoveBackTarget set))
Stops queued p ForgetKnown ms = IsNoneOrAll ms (moves queued p ForgetKnown)
Stops queued p Crash ms = ⊥
Stops queued p RecoverSource ms = IsFront ms (moves queued p RecoverSource)
Stops queued p RecoverTarget ms = IsFront ms (moves queued p RecoverTarget)
