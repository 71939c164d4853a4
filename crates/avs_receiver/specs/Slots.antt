-- Slots of sets in a note.
use Rattle.std.specs.Prelude.{◌≡◌, ◌≢◌, ℕ, ◌<◌, ◌≤◌, true, false, List, length}
use Rattle.std.specs.Int.{bit_at}
use Rattle.avs_halves.specs.SetBits.{SetBits, set_at}
use Rattle.avs_halves.specs.Found.{is_filled}

-- the sets are as many as a group may have, each with a slot
pub record HaveSlots (sets : List SetBits) : Type 0 where
  pub few : length sets ≤ 16
  pub each : (set : ℕ) → set < length sets → (set_at sets set).slot < 16

-- a slot is that of no set
abbrev pub IsFree : List SetBits → ℕ → Type 0
IsFree sets slot = (set : ℕ) → set < length sets → (set_at sets set).slot ≢ slot

-- no set has contents, and all other slots are as they were
pub record AreEmpty (sets : List SetBits) (old new : ℕ) : Type 0 where
  pub sets_are : (set : ℕ) → set < length sets → is_filled new (set_at sets set).slot ≡ false
  pub others : (slot : ℕ) → slot < 16 → IsFree sets slot → bit_at new slot ≡ bit_at old slot

-- every set has contents
pub record AreFilled (sets : List SetBits) (old new : ℕ) : Type 0 where
  pub sets_are : (set : ℕ) → set < length sets → is_filled new (set_at sets set).slot ≡ true
  pub others : (slot : ℕ) → slot < 16 → IsFree sets slot → bit_at new slot ≡ bit_at old slot
