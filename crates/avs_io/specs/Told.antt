-- Bytes that may be told.
use Rattle.std.specs.Prelude.{ℕ, ◌≡◌, Option, Some, List}

-- what holds of the bytes before and after, where they are told
abbrev pub WhereTold : Option (List ℕ) → Option (List ℕ) → (List ℕ → List ℕ → Type 0) → Type 0
WhereTold old new P = (before : List ℕ) → old ≡ Some before → (after : List ℕ) × (new ≡ Some after) × P before after
