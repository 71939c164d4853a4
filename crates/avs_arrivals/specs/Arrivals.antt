-- Entries that are held by place.
use Rattle.std.specs.Prelude.{◌≡◌, ◌≢◌, ℕ, ◌+◌, Bool, true, false, ◌==◌, ◌&&◌, not, is_none, is_some, if◌then◌else◌, Option, None, Some, List, [], ◌∷◌, ◌++◌, length, filter}
use Rattle.avs_model.specs.declared.entry.Entry.{Entry}
use Rattle.avs_arrivals.specs.declared.arrivals.Arrival.{Arrival}

-- what is held, in order of arrival, and how many there may be
pub record Waiting : Type 0 where
  pub held : List Arrival
  pub limit : ℕ

abbrev pub has_place : ℕ → Arrival → Bool
has_place place a = a.place == place

abbrev pub entry_among : List Arrival → ℕ → Option Entry
entry_among [] place = None
entry_among (a ∷ more) place = if has_place place a then Some a.entry else entry_among more place

-- the entry of a place
abbrev pub entry_at : Waiting → ℕ → Option Entry
entry_at waiting place = entry_among waiting.held place

-- no place twice
abbrev pub is_distinct : List Arrival → Bool
is_distinct [] = true
is_distinct (a ∷ more) = is_none (entry_among more a.place) && is_distinct more

abbrev pub without_place : ℕ → List Arrival → List Arrival
without_place place held = filter (λ a. not (has_place place a)) held

-- one entry more is held, at this place
pub record Holds (old : Waiting) (place : ℕ) (entry : Entry) (new : Waiting) : Type 0 where
  pub held : new.held ≡ old.held ++ record { place = place; entry = entry } ∷ []
  pub count : length new.held ≡ length old.held + 1
  pub limit : new.limit ≡ old.limit
  -- by place
  pub there : entry_at new place ≡ Some entry
  pub others : (p : ℕ) → p ≢ place → entry_at new p ≡ entry_at old p

-- the entry of a place, if it is held, is answered and held no more
pub record Gives (old : Waiting) (place : ℕ) (found : Option Entry) (new : Waiting) : Type 0 where
  pub answer : found ≡ entry_at old place
  pub held : new.held ≡ without_place place old.held
  pub count : length new.held + (if is_some found then 1 else 0) ≡ length old.held
  pub limit : new.limit ≡ old.limit
  -- by place
  pub gone : entry_at new place ≡ None
  pub others : (p : ℕ) → p ≢ place → entry_at new p ≡ entry_at old p
