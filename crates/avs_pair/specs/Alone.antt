-- Events of one half that read nothing of the other one, or that do the same to their own half whatever the other one is: what a host
-- does while the other is down does not rest on what a fault left there.
use Rattle.std.specs.Prelude.{◌≡◌, ℕ, ◌==◌, Bool, true, false}
use Rattle.avs_mirrors.specs.Half.{HalfState}
use Rattle.avs_mirrors.specs.Pair.{Session, PairState}
use Rattle.avs_mirrors.specs.Moves.{with_target, after_all}
use Rattle.avs_mirrors.specs.Events.{PairEvent, WriteSource, WriteTarget, WriteFull, SyncCopy, SyncMark, SyncFull, TakeNext, Carry, Back, PlaceTake, ApplyOne, Drop, LogSource, LogTarget, RestoreSource, RestoreTarget, DisableSource, DisableTarget, RemoveSource, RemoveTarget, MoveAwaySource, MoveAwayTarget, MoveBackSource, MoveBackTarget, ForgetKnown, RecoverSource, RecoverTarget, moves}
use Rattle.avs_mirrors.specs.Accepts.{Accepts}

-- of the source
abbrev pub is_source_alone : PairEvent → Bool
is_source_alone (WriteSource set at bytes) = true
is_source_alone (WriteFull set at bytes) = true
is_source_alone (SyncCopy set seg) = true
is_source_alone SyncMark = true
is_source_alone SyncFull = true
is_source_alone TakeNext = true
is_source_alone (Back upto) = true
is_source_alone (PlaceTake set at bytes) = true
is_source_alone Drop = true
is_source_alone LogSource = true
is_source_alone (RestoreSource keys rs) = true
is_source_alone (MoveBackSource set) = true
is_source_alone ForgetKnown = true
is_source_alone RecoverSource = true
is_source_alone e = false

-- of the target: a message of a worker is carried also while its sender is down
abbrev pub is_target_alone : PairEvent → Bool
is_target_alone (WriteTarget set at bytes) = true
is_target_alone (Carry m) = true
is_target_alone (ApplyOne m) = true
is_target_alone LogTarget = true
is_target_alone (RestoreTarget keys rs) = true
is_target_alone (MoveBackTarget set) = true
is_target_alone RecoverTarget = true
is_target_alone e = false

-- those that need no other host, but look at what the other half has: a set is disabled, and a half's group goes from its host
abbrev pub is_source_own : PairEvent → Bool
is_source_own (DisableSource set) = true
is_source_own RemoveSource = true
is_source_own e = false

abbrev pub is_target_own : PairEvent → Bool
is_target_own (DisableTarget set) = true
is_target_own RemoveTarget = true
is_target_own e = false

-- two halves with another target, and with another source, of another session
abbrev pub with_receiver : PairState → HalfState → Session → PairState
with_receiver p y s = record p { target = y; session = s }

abbrev pub with_sender : PairState → HalfState → Session → PairState
with_sender p x s = record p { source = x; session = s }

-- with another target the same is accepted, the same moves are made, and they make the same of all but the target
pub record IsSourceAlone (queued : Bool) (p : PairState) (y : HalfState) (e : PairEvent) : Type 0 where
  pub accepts : Accepts p e → Accepts (with_target p y) e
  pub same : moves queued (with_target p y) e ≡ moves queued p e
  pub after : after_all (with_target p y) (moves queued p e) ≡ with_target (after_all p (moves queued p e)) y

-- and so of a source that is in no session with another target, of another session
pub record IsSourceAway (queued : Bool) (p : PairState) (y : HalfState) (s : Session) (e : PairEvent) : Type 0 where
  pub accepts : Accepts (with_receiver p y s) e
  pub same : moves queued (with_receiver p y s) e ≡ moves queued p e
  pub after : after_all (with_receiver p y s) (moves queued p e) ≡ with_receiver (after_all p (moves queued p e)) y s

-- and so with another source, of another session
pub record IsTargetAlone (queued : Bool) (p : PairState) (x : HalfState) (s : Session) (e : PairEvent) : Type 0 where
  pub accepts : Accepts p e → Accepts (with_sender p x s) e
  pub same : moves queued (with_sender p x s) e ≡ moves queued p e
  pub after : after_all (with_sender p x s) (moves queued p e) ≡ with_sender (after_all p (moves queued p e)) x s

-- with another target, of another session, the same is accepted, and it makes the same of the source
pub record IsSourceOwn (queued : Bool) (p : PairState) (y : HalfState) (s : Session) (e : PairEvent) : Type 0 where
  pub accepts : Accepts p e → Accepts (with_receiver p y s) e
  pub own : (after_all (with_receiver p y s) (moves queued (with_receiver p y s) e)).source ≡ (after_all p (moves queued p e)).source

-- and so of the target
pub record IsTargetOwn (queued : Bool) (p : PairState) (x : HalfState) (s : Session) (e : PairEvent) : Type 0 where
  pub accepts : Accepts p e → Accepts (with_sender p x s) e
  pub own : (after_all (with_sender p x s) (moves queued (with_sender p x s) e)).target ≡ (after_all p (moves queued p e)).target

-- two halves are the same but for what they still have of one set
pub record IsSameBut (set : ℕ) (a b : HalfState) : Type 0 where
  pub rest : b ≡ record a { on = b.on; due = b.due; kept = b.kept }
  pub on : (t : ℕ) → (t == set) ≡ false → b.on t ≡ a.on t
  pub due : (t seg : ℕ) → (t == set) ≡ false → b.due t seg ≡ a.due t seg
  pub kept : (t : ℕ) → (t == set) ≡ false → b.kept t ≡ a.kept t

-- a set that goes to another group stays one of its old half where the other half has it there still: but for that, the same is made
-- of the source whatever the other half is, and so of the target
pub record IsSourceLeft (queued : Bool) (p : PairState) (y : HalfState) (s : Session) (set : ℕ) : Type 0 where
  pub accepts : Accepts p (MoveAwaySource set) → Accepts (with_receiver p y s) (MoveAwaySource set)
  pub own : IsSameBut set (after_all p (moves queued p (MoveAwaySource set))).source
      (after_all (with_receiver p y s) (moves queued (with_receiver p y s) (MoveAwaySource set))).source

pub record IsTargetLeft (queued : Bool) (p : PairState) (x : HalfState) (s : Session) (set : ℕ) : Type 0 where
  pub accepts : Accepts p (MoveAwayTarget set) → Accepts (with_sender p x s) (MoveAwayTarget set)
  pub own : IsSameBut set (after_all p (moves queued p (MoveAwayTarget set))).target
      (after_all (with_sender p x s) (moves queued (with_sender p x s) (MoveAwayTarget set))).target
