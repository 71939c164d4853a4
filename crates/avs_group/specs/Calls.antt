-- What each call makes of a group.
use Rattle.std.specs.Prelude.{◌≡◌, ℕ, List, [], ◌∷◌, ◌++◌, Option, None, Some, Result, IfOk, IfErr, Err}
use Rattle.avs_dev.specs.Seen.{Seen, IsTold}
use Rattle.avs_model.specs.GroupStates.{empty_group}
use Rattle.avs_model.specs.GroupStages.{GroupStage, TakesVolume, Commit, Stops, copy_stages, after_stage}
use Rattle.avs_model.specs.GroupWork.{StateDisk, on}
use Rattle.avs_model.specs.declared.answer.Refusal.{Refusal}
use Rattle.avs_model.specs.declared.answer.Refusal.TheVariants as refusal
use Rattle.avs_sets.specs.Says.{SlotSays}
use Rattle.avs_sets.specs.Meaning.{set_of, meaning}
use Rattle.avs_sets.specs.Whole.{IsWhole, IsInStep}
use Rattle.avs_sets.specs.Goes.{KeepsLabels, Goes}
use Rattle.avs_sets.specs.Counting.{CountsWork}
use Rattle.avs_state.specs.StateDisk.{IsStateDisk, Makes}
use Rattle.avs_group.specs.Group.{Group, group_of}
use Rattle.avs_group.specs.Named.{IsNamedAt, refusal_of, next_chunk}

-- a new group has no volumes and no sets
pub record Opens (disk : Seen) (new : Group) : Type 0 where
  pub made : Makes disk new.state
  pub volumes : new.volumes ≡ []
  pub overs : new.overs ≡ []
  pub sets : new.sets ≡ []
  pub means : IsTold disk → meaning (group_of new) ≡ empty_group
  pub whole : IsTold disk → IsWhole (group_of new)
  pub step : IsTold disk → IsInStep (group_of new)

-- a volume joins the group behind the others
pub record Adds (old : Group) (disk : Seen) (new : Group) : Type 0 where
  pub is : new ≡ record old { volumes = old.volumes ++ Some disk ∷ [] }
  pub means : IsTold disk → meaning (group_of new) ≡ after_stage (meaning (group_of old)) (TakesVolume disk.image)
  pub whole : IsTold disk → IsWhole (group_of old) → IsWhole (group_of new)
  pub step : IsInStep (group_of old) → IsInStep (group_of new)

-- A call does these stages. What a load asks of the disks beside, their labels and the block of the state disk, is kept with no premise.
pub record Does {T E : Type 0} (old : Group) (stages : List GroupStage) (result : Result T E) (new : Group) : Type 0 where
  pub goes : Goes (group_of old) stages result (group_of new)
  pub labels : KeepsLabels (group_of old) (group_of new)
  pub state : IsStateDisk old.state.disk → IsStateDisk new.state.disk

-- a command that is a commit alone: its one block is written, and nothing else
pub record DoesCommit {T E : Type 0} (old : Group) (stage : GroupStage) (result : Result T E) (new : Group) : Type 0 where
  pub does : Does old (stage ∷ []) result new
  pub rest : new ≡ record old { state = new.state }
  pub counts : CountsWork (group_of old) (on StateDisk 1) result (group_of new)

-- a call is refused, and nothing changes
pub record IsRefused {T : Type 0} (old : Group) (why : Refusal) (result : Result T Refusal) (new : Group) : Type 0 where
  pub answer : result ≡ Err why
  pub same : new ≡ old

-- Of the set of a slot a call makes this, unless its slot excludes it. Then it fails only by a disk.
pub record OnSet {T : Type 0} (cause : SlotSays → Option Refusal) (old : Group) (slot : ℕ) (does : Type 0) (result : Result T Refusal)
    (new : Group) : Type 0 where
  pub refused : (why : Refusal) → refusal_of cause (group_of old) slot ≡ Some why → IsRefused old why result new
  pub done : refusal_of cause (group_of old) slot ≡ None → does
  pub fault : refusal_of cause (group_of old) slot ≡ None → IfErr result (λ why. why ≡ refusal.Fault)

-- the least chunk that is to be copied is copied, where there is one, and is the answer
pub record CopiesAt {E : Type 0} (old : Group) (place : ℕ) (result : Result (Option ℕ) E) (new : Group) : Type 0 where
  pub chunk : Option ℕ
  pub least : chunk ≡ next_chunk (set_of old.sets place)
  pub does : Does old (copy_stages (set_of old.sets place).slot chunk) result new
  pub answer : IfOk result (λ copied. copied ≡ chunk)

pub record CopiesLeast {E : Type 0} (old : Group) (slot : ℕ) (result : Result (Option ℕ) E) (new : Group) : Type 0 where
  pub place : ℕ
  pub at : IsNamedAt (group_of old) slot place
  pub copies : CopiesAt old place result new

-- copying stops
abbrev pub StopsCopies : {T E : Type 0} → Group → ℕ → Result T E → Group → Type 0
StopsCopies old slot result new = DoesCommit old (Commit ((slot, Stops) ∷ []) None) result new
