-- What a load makes of a receiver that it has found: what has landed of its session is done once more, the bits that are left of before
-- its mark go, and it leaves.
use Rattle.std.specs.Prelude.{◌≡◌, ◌⊎◌, ℕ, ◌&&◌, Bool, true, false, if◌then◌else◌, List, Result, Ok, Err, IsOk}
use Rattle.avs_dev.specs.declared.back.Why.{Why}
use Rattle.avs_dev.specs.declared.back.Why.TheVariants.{BadRecord, NoMemory, Fault}
use Rattle.avs_mirrors.specs.Entries.{is_mark}
use Rattle.avs_mirrors.specs.Half.{HalfState, Sets, is_marked}
use Rattle.avs_halves.specs.Changing.{ChangesSets, every}
use Rattle.avs_halves.specs.Loading.{between}
use Rattle.avs_land.specs.Landed.{entry_kind}
use Rattle.avs_land.specs.Redo.{IsRoom, Redoes, Redoing, RewritesOnce, RewritesRest}
use Rattle.avs_receiver.specs.Held.{ReceiverHalf, ReceiverHeld, ReceiverParts, parts_of}
use Rattle.avs_receiver.specs.Meaning.{Finds, IsReceiverFound, IsReceiverInStep, found_by, is_redone, lies_on, receiver_of, redone, state_in, vols_of}
use Rattle.avs_receiver.specs.Marking.{Marks}
use Rattle.avs_receiver.specs.Going.{NoneFailed, OneFailed, ReceiverStays, SessionStays}

-- what has landed is to be done once more
abbrev pub IsToRedo : ReceiverHalf → Type 0
IsToRedo h = is_redone h.note h.land.header ≡ true

-- the half that lies on the disks of a receiver, and that with what has landed done
abbrev pub lies_of : Sets → ReceiverHeld → HalfState
lies_of kept h = lies_on kept h.half.note h.half.land.header (parts_of h)

abbrev pub caught_up : Sets → ReceiverHeld → HalfState
caught_up kept h = if is_redone h.half.note h.half.land.header then redone (lies_of kept h) h.half.land.header h.half.land.disk.image else lies_of kept h

-- the half that a load finds there
abbrev pub found_of : Sets → ReceiverHeld → HalfState
found_of kept h = found_by kept h.half.note h.half.land.header (parts_of h)

-- a load of these parts finds what one of those finds
abbrev pub FindsAgain : ReceiverParts → ReceiverParts → Type 0
FindsAgain p q = (x : HalfState) → Finds p x → Finds q x

-- the mark that it has then
abbrev pub mark_caught : ReceiverHalf → ℕ
mark_caught h = if is_redone h.note h.land.header && is_mark (entry_kind h.land.header.kind) then h.applied else h.note.mark

-- ---- what has landed is done once more

abbrev pub redoing : ReceiverHeld → Redoing
redoing h = record { land = h.half.land; below = h.below }

-- its blocks go below, or it is the mark
pub record RedoesLanded {E : Type 0} (sound : Type 0) (old : ReceiverHeld) (result : Result (Unit {0}) E) (new : ReceiverHeld) : Type 0 where
  pub mark : is_mark (entry_kind old.half.land.header.kind) ≡ true → Marks sound old old.half.applied result new
  pub blocks : is_mark (entry_kind old.half.land.header.kind) ≡ false → Redoes sound (vols_of old.half.sets) (redoing old) result (redoing new)
  pub half : is_mark (entry_kind old.half.land.header.kind) ≡ false → new.half ≡ record old.half { land = new.half.land }

-- in step, but for bits that are left of before its mark
pub record IsCaughtUp (sound : Type 0) (h : ReceiverHeld) : Type 0 where
  pub memory : IsReceiverFound sound h
  pub again : (kept : Sets) → IsToRedo h.half → redone (lies_of kept h) h.half.land.header h.half.land.disk.image ≡ lies_of kept h

pub record HasCaughtUp (sound sound_new : Type 0) (old new : ReceiverHeld) : Type 0 where
  pub stays : ReceiverStays sound old new
  pub session : SessionStays old.half new.half old.half.applied (mark_caught old.half)
  pub spared : NoneFailed old new
  pub room : IsToRedo old.half → IsRoom old.half.land.header (vols_of old.half.sets) old.below
  pub done : IsReceiverFound sound old → (kept : Sets) → lies_of kept new ≡ caught_up kept old
  pub step : IsReceiverFound sound old → IsCaughtUp sound_new new

-- of what is kept besides below: no write came to it, and nothing was done once more but a mark
pub record WroteNoneAgain {R : Type 0} (rest : R) (old : ReceiverHeld) (ok : Bool) (new : R) : Type 0 where
  pub same : new ≡ rest
  pub unless : ok ≡ true → IsToRedo old.half → (is_mark (entry_kind old.half.land.header.kind) ≡ true) ⊎ (old.half.land.header.len ≡ 0)

-- or one did, of the blocks of what is done once more; whether that was done
pub record WroteAgain {R : Type 0} (wrote : R → ℕ → ℕ → List ℕ → Bool → R → Type 0) (rest : R) (old : ReceiverHeld) (ok : Bool) (new : R) : Type 0 where
  pub redone : IsToRedo old.half
  pub done : Bool
  pub all : ok ≡ true → done ≡ true
  pub once : RewritesOnce wrote (vols_of old.half.sets) old.half.land rest done new

abbrev pub RestCaught : {R : Type 0} → (R → ℕ → ℕ → List ℕ → Bool → R → Type 0) → R → ReceiverHeld → Bool → R → Type 0
RestCaught wrote rest old ok new = WroteNoneAgain rest old ok new ⊎ WroteAgain wrote rest old ok new

-- the one write of the landed blocks, or none of a mark
pub record RestRedone {R : Type 0} (wrote : R → ℕ → ℕ → List ℕ → Bool → R → Type 0) (rest : R) (old : ReceiverHeld) (ok : Bool) (new : R) : Type 0 where
  pub mark : is_mark (entry_kind old.half.land.header.kind) ≡ true → new ≡ rest
  pub blocks : is_mark (entry_kind old.half.land.header.kind) ≡ false → RewritesRest wrote (vols_of old.half.sets) old.half.land rest ok new

-- ---- why it is not

-- there was no memory for the volumes of its sets, or what has landed has no place in them
abbrev pub HasNoVols : ReceiverHeld → Why → Type 0
HasNoVols h why = (why ≡ NoMemory) ⊎ ((why ≡ BadRecord between) × (IsRoom h.half.land.header (vols_of h.half.sets) h.below → ⊥))

-- there was no memory
pub record HadNoMemory (old : ReceiverHeld) (why : Why) (new : ReceiverHeld) : Type 0 where
  pub answer : why ≡ NoMemory
  pub kept : new ≡ old

-- its set or its range is not there
pub record HasNoPlace (old : ReceiverHeld) (why : Why) (new : ReceiverHeld) : Type 0 where
  pub answer : why ≡ BadRecord between
  pub redone : IsToRedo old.half
  pub none : IsRoom old.half.land.header (vols_of old.half.sets) old.below → ⊥
  pub kept : new ≡ old

-- a device failed: a load finds the same half again
pub record IsStoppedSo (sound : Type 0) (old : ReceiverHeld) (why : Why) (new : ReceiverHeld) : Type 0 where
  pub answer : why ≡ Fault
  pub stays : ReceiverStays sound old new
  pub failed : OneFailed old new
  pub room : IsToRedo old.half → IsRoom old.half.land.header (vols_of old.half.sets) old.below
  pub stopped : IsReceiverFound sound old → FindsAgain (parts_of old) (parts_of new)

abbrev pub SettleRefused : Type 0 → ReceiverHeld → Why → ReceiverHeld → Type 0
SettleRefused sound old why new = HadNoMemory old why new ⊎ (HasNoPlace old why new ⊎ IsStoppedSo sound old why new)

abbrev pub CatchesUp : Type 0 → Type 0 → ReceiverHeld → Result (Unit {0}) Why → ReceiverHeld → Type 0
CatchesUp sound sound_new old (Ok u) new = HasCaughtUp sound sound_new old new
CatchesUp sound sound_new old (Err why) new = SettleRefused sound old why new

-- ---- and then it leaves

-- the bits of one that replicates go
pub record WipesLeft {T E : Type 0} (old : ReceiverHalf) (result : Result T E) (new : ReceiverHalf) : Type 0 where
  pub marked : is_marked (state_in old.note) ≡ true → ChangesSets (every old.sets) false old.sets result new.sets
  pub half : new ≡ record old { sets = new.sets }
  pub unmarked : is_marked (state_in old.note) ≡ false → IsOk result × (new ≡ old)

-- it has left, in step, with what has landed done
pub record HasSettled (sound sound_new : Type 0) (old new : ReceiverHeld) : Type 0 where
  pub stays : ReceiverStays sound old new
  pub session : SessionStays old.half new.half old.half.applied (mark_caught old.half)
  pub spared : NoneFailed old new
  pub room : IsToRedo old.half → IsRoom old.half.land.header (vols_of old.half.sets) old.below
  pub done : IsReceiverFound sound old → (kept : Sets) → receiver_of kept new ≡ found_of kept old
  pub step : IsReceiverFound sound old → IsReceiverInStep sound_new new

abbrev pub Settles : Type 0 → Type 0 → ReceiverHeld → Result (Unit {0}) Why → ReceiverHeld → Type 0
Settles sound sound_new old (Ok u) new = HasSettled sound sound_new old new
Settles sound sound_new old (Err why) new = SettleRefused sound old why new
