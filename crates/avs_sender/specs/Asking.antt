-- What a sender answers of places.
use Rattle.std.specs.Prelude.{◌≡◌, ◌⊎◌, ℕ, ◌<◌, ◌≤◌, true, false, Some, Result, Ok, Err}
use Rattle.avs_model.specs.declared.answer.Refusal.{Refusal}
use Rattle.avs_model.specs.declared.answer.Refusal.TheVariants as refusal
use Rattle.avs_model.specs.declared.entry.Entry.{Entry}
use Rattle.avs_mirrors.specs.Half.{HalfState, is_session}
use Rattle.avs_mqueue.specs.Queue.{Queue, entry_at}
use Rattle.avs_sender.specs.declared.asking.Settled.{Settled}
use Rattle.avs_sender.specs.declared.asking.Settled.TheVariants.{Remote, Logged, Waiting, NoPlace}

-- a place that was given in the session
pub record IsGiven (x : HalfState) (place : ℕ) : Type 0 where
  pub some : 0 < place
  pub high : place ≤ x.last

-- what `settle` answers, each exactly where this holds: one that is known as applied is settled also where the sender has left;
-- one above it waits, unless the session was left
abbrev pub Settles : HalfState → ℕ → Settled → Type 0
Settles x place Remote = IsGiven x place × (place ≤ x.known)
Settles x place Logged = IsGiven x place × ((x.known < place) × (is_session x.state ≡ false))
Settles x place (Waiting known) = IsGiven x place × ((x.known < place) × ((is_session x.state ≡ true) × (known ≡ x.known)))
Settles x place (NoPlace last) = ((place ≡ 0) ⊎ (x.last < place)) × (last ≡ x.last)

-- a place whose entry may be asked for: 0, which is none, or one above the known place
abbrev pub MayAsk : HalfState → ℕ → Type 0
MayAsk x place = (place ≡ 0) ⊎ (x.known < place)

-- the entry of a place that was given, exactly; else it is told which place was the last
pub record IsEntryOf (x : HalfState) (queue : Queue) (place : ℕ) (entry : Entry) : Type 0 where
  pub given : IsGiven x place
  pub is : entry_at queue place ≡ Some entry

abbrev pub EntryRefused : HalfState → ℕ → Refusal → Type 0
EntryRefused x place why = ((why ≡ refusal.NoPlace x.last) × ((place ≡ 0) ⊎ (x.last < place))) ⊎ ((why ≡ refusal.NoMemory) × IsGiven x place)

abbrev pub GivesEntry : HalfState → Queue → ℕ → Result Entry Refusal → Type 0
GivesEntry x queue place (Ok entry) = IsEntryOf x queue place entry
GivesEntry x queue place (Err why) = EntryRefused x place why
