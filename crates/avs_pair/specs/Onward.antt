-- What stays true as moves go on.
use Rattle.std.specs.Prelude.{◌≡◌, ◌⊎◌, ℕ, ◌+◌, ◌<◌, ◌≤◌, true, List, [], ◌∷◌, ◌++◌, Some, slice_get}
use Rattle.avs_model.specs.declared.entry.Entry.{Entry}
use Rattle.avs_mirrors.specs.Entries.{after_entry}
use Rattle.avs_mirrors.specs.Half.{is_receiving}
use Rattle.avs_mirrors.specs.Pair.{PairState}
use Rattle.avs_mirrors.specs.Moves.{Move, after}

-- the receiving half's images and place stay, or the next entry of its own session is applied
pub record AppliesNext (old new : PairState) : Type 0 where
  pub next : Entry
  pub there : slice_get old.session.order old.target.applied ≡ Some next
  pub images : new.target.images ≡ after_entry old.target.images next
  pub applied : new.target.applied ≡ old.target.applied + 1

pub record KeepsApplied (old new : PairState) : Type 0 where
  pub images : new.target.images ≡ old.target.images
  pub applied : new.target.applied ≡ old.target.applied

pub record ChangesByNext (old new : PairState) : Type 0 where
  pub each : is_receiving old.target ≡ true → is_receiving new.target ≡ true → new.session.number ≡ old.session.number
      → KeepsApplied old new ⊎ AppliesNext old new

-- no beginning, no removal and no other number of the receiving half stands between
pub record Stays (old new : PairState) : Type 0 where
  pub session : new.session.number ≡ old.session.number
  pub target : new.target.number ≡ old.target.number

abbrev pub AllStay : PairState → List Move → Type 0
AllStay p [] = Unit {0}
AllStay p (m ∷ ms) = Stays p (after p m) × AllStay (after p m) ms

-- the half goes back behind no place that it applied, the order grows at its end, and the mark stays with its images
pub record GoesOn (old new : PairState) : Type 0 where
  pub applied : old.target.applied ≤ new.target.applied
  pub more : List Entry
  pub order : new.session.order ≡ old.session.order ++ more
  pub mark : 0 < old.session.mark → (new.session.mark ≡ old.session.mark) × (new.session.candidate ≡ old.session.candidate)

-- so each place that was once known stays applied, and stays that entry
pub record Remembers (old new : PairState) : Type 0 where
  pub each : old.source.number ≡ old.target.number → (j : ℕ) (e : Entry) → j < old.source.known
      → slice_get old.session.order j ≡ Some e → (slice_get new.session.order j ≡ Some e) × (j < new.target.applied)
