-- What nothing refuses, as far as two halves can tell: hosts, the link, names, workers and queues are looked at above.
use Rattle.std.specs.Prelude.{◌≡◌, ◌⊎◌, ℕ, ◌+◌, ◌/◌, ◌<◌, ◌≤◌, Bool, true, false, List, [], ◌∷◌, length}
use Rattle.avs_seg.specs.Image.{Image, block_at}
use Rattle.avs_mirrors.specs.Entries.{block_in}
use Rattle.avs_mirrors.specs.Due.{Segments, Keys, has}
use Rattle.avs_mirrors.specs.Half.{Logging, Queuing, Message, HalfState, is_acting, is_sending, is_receiving}
use Rattle.avs_mirrors.specs.Pair.{PairState}
use Rattle.avs_mirrors.specs.Allowed.{CanCopy, CanMark, IsHeldFrom, BringsBack, CanRejoin}
use Rattle.avs_mirrors.specs.Events.{Restored, PairEvent, WriteSource, WriteTarget, WriteFull, SyncCopy, SyncMark, SyncFull, TakeNext, Carry, Back, PlaceTake, ApplyOne, Drop, LogSource, LogTarget, Begin, BeginReversed, Resume, RestoreSource, RestoreTarget, EnableSource, EnableTarget, DisableSource, DisableTarget, RemoveSource, RemoveTarget, MoveInSource, MoveInTarget, MoveAwaySource, MoveAwayTarget, MoveBackSource, MoveBackTarget, ForgetKnown, Crash, RecoverSource, RecoverTarget}

-- a set with contents is written inside its volume
pub record CanWrite (h : HalfState) (set at : ℕ) (bytes : Image) : Type 0 where
  pub on : h.on set ≡ true
  pub contents : h.contents set ≡ true
  pub some : 0 < length bytes
  pub inside : at + length bytes ≤ length (h.images set)

pub record AcceptsWrite (p : PairState) (set at : ℕ) (bytes : Image) : Type 0 where
  pub write : CanWrite p.source set at bytes
  pub short : is_sending p.source ≡ true → length bytes ≤ p.session.most

pub record AcceptsTake (p : PairState) : Type 0 where
  pub acts : is_acting p.source ≡ true
  pub left : p.source.taken < p.source.last

-- the message is the one that comes next
pub record AcceptsNext (p : PairState) (m : Message) : Type 0 where
  pub comes : IsHeldFrom p m
  pub next : m.place ≡ p.target.applied + 1

-- a sender-to-be is in logging or queuing, has the sets of the other half, and contents; and the other half does not act as a sender
pub record AcceptsBegin (a b : HalfState) : Type 0 where
  pub away : (a.state ≡ Logging) ⊎ (a.state ≡ Queuing)
  pub idle : is_acting b ≡ false
  pub same_sets : (set : ℕ) → a.here set ≡ b.here set
  pub contents : (set : ℕ) → a.here set ≡ true → a.contents set ≡ true

pub record AcceptsReversed (a b : HalfState) : Type 0 where
  pub away : a.state ≡ Logging
  pub idle : is_acting b ≡ false
  pub same_sets : (set : ℕ) → a.here set ≡ b.here set
  pub contents : (set : ℕ) → a.here set ≡ true → a.contents set ≡ true

-- a set's restored image differs inside these segments alone
pub record IsRestored (h : HalfState) (keys : Keys) (r : Restored) : Type 0 where
  pub size : h.on r.0 ≡ true → length r.1 ≡ length (h.images r.0)
  pub outside : h.on r.0 ≡ true → (i : ℕ) → keys r.0 (i / 64) ≡ false → block_at r.1 i ≡ block_in h.images r.0 i

abbrev pub AreRestored : HalfState → Keys → List Restored → Type 0
AreRestored h keys [] = Unit {0}
AreRestored h keys (r ∷ rs) = IsRestored h keys r × AreRestored h keys rs

pub record AcceptsRestore (h : HalfState) (keys : Keys) (rs : List Restored) : Type 0 where
  pub away : h.state ≡ Logging
  pub sets : AreRestored h keys rs

-- a set is enabled in one half. Where the other half has it, it has as many blocks there; and where no bit is to be set, that half is
-- in logging, with contents, and has the same blocks
pub record AcceptsEnable (a b : HalfState) (set : ℕ) (image : Image) (full : Bool) : Type 0 where
  pub away : a.state ≡ Logging
  pub new : a.on set ≡ false
  pub size : b.on set ≡ true → length image ≡ length (b.images set)
  pub equal : b.on set ≡ true → full ≡ false → (b.state ≡ Logging) × (b.contents set ≡ true) × (image ≡ b.images set)

-- a set comes from another group. Where the other half has it here, that half followed before or went first: it is in logging, and
-- outside the bits of both they have the same blocks
pub record AcceptsMoveIn (a b : HalfState) (set : ℕ) (image : Image) (keys : Segments) : Type 0 where
  pub away : a.state ≡ Logging
  pub new : a.on set ≡ false
  pub size : b.on set ≡ true → length image ≡ length (b.images set)
  pub idle : b.on set ≡ true → b.state ≡ Logging
  pub covered : b.on set ≡ true → (i : ℕ) → keys (i / 64) ≡ false → has b.due set (i / 64) ≡ false → block_at image i ≡ block_in b.images set i

pub record AcceptsPart (h : HalfState) (set : ℕ) : Type 0 where
  pub away : h.state ≡ Logging
  pub on : h.on set ≡ true

pub record AcceptsMove (h : HalfState) (set : ℕ) (there : Bool) : Type 0 where
  pub away : h.state ≡ Logging
  pub on : h.on set ≡ true
  pub here : h.here set ≡ there

pub record AcceptsRemove (h : HalfState) : Type 0 where
  pub away : h.state ≡ Logging
  pub none : (set : ℕ) → h.here set ≡ false

abbrev pub Accepts : PairState → PairEvent → Type 0
Accepts p (WriteSource set at bytes) = AcceptsWrite p set at bytes
Accepts p (WriteTarget set at bytes) = (is_receiving p.target ≡ false) × CanWrite p.target set at bytes
Accepts p (WriteFull set at bytes) = (is_sending p.source ≡ true) × AcceptsWrite p set at bytes
Accepts p (SyncCopy set seg) = (is_acting p.source ≡ true) × CanCopy p set seg
Accepts p SyncMark = (is_acting p.source ≡ true) × CanMark p
Accepts p SyncFull = (is_acting p.source ≡ true) × (p.session.mark ≡ 0)
Accepts p TakeNext = AcceptsTake p
Accepts p (Carry m) = IsHeldFrom p m
Accepts p (Back upto) = BringsBack p upto
Accepts p (PlaceTake set at bytes) = (is_acting p.source ≡ true) × AcceptsWrite p set at bytes
Accepts p (ApplyOne m) = AcceptsNext p m
Accepts p Drop = is_acting p.source ≡ true
Accepts p LogSource = Unit {0}
Accepts p LogTarget = Unit {0}
Accepts p (Begin full most) = AcceptsBegin p.source p.target
Accepts p (BeginReversed full most) = AcceptsReversed p.target p.source
Accepts p Resume = CanRejoin p
Accepts p (RestoreSource keys rs) = AcceptsRestore p.source keys rs
Accepts p (RestoreTarget keys rs) = AcceptsRestore p.target keys rs
Accepts p (EnableSource set image full) = AcceptsEnable p.source p.target set image full
Accepts p (EnableTarget set image full) = AcceptsEnable p.target p.source set image full
Accepts p (DisableSource set) = AcceptsPart p.source set
Accepts p (DisableTarget set) = AcceptsPart p.target set
Accepts p RemoveSource = AcceptsRemove p.source
Accepts p RemoveTarget = AcceptsRemove p.target
Accepts p (MoveInSource set image keys filled) = AcceptsMoveIn p.source p.target set image keys
Accepts p (MoveInTarget set image keys filled) = AcceptsMoveIn p.target p.source set image keys
Accepts p (MoveAwaySource set) = AcceptsMove p.source set true
Accepts p (MoveAwayTarget set) = AcceptsMove p.target set true
Accepts p (MoveBackSource set) = AcceptsMove p.source set false
Accepts p (MoveBackTarget set) = AcceptsMove p.target set false
Accepts p ForgetKnown = p.source.state ≡ Logging
Accepts p Crash = Unit {0}
Accepts p RecoverSource = Unit {0}
Accepts p RecoverTarget = Unit {0}
