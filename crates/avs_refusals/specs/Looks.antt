-- Tables in two parts, between which something is looked at: early rows are asked before the look, and late ones behind it, by what it
-- told. Where an early row refuses, nothing is looked at.
use Rattle.std.specs.Prelude.{◌≡◌, IfOk, Option, None, Some, List, ◌++◌, Result, Ok}
use Rattle.avs_seg.specs.declared.fault.Failed.{Failed}
use Rattle.avs_model.specs.declared.answer.Refusal.{Refusal}
use Rattle.avs_model.specs.Rows.{first_row}

-- a look that cannot fail
pub record AsksBetween {S V : Type 0} (early : List (Option Refusal)) (late : V → List (Option Refusal)) (looked : S → V → S → Type 0) (old : S) (result : Option Refusal) (new : S) : Type 0 where
  pub before : (why : Refusal) → first_row early ≡ Some why → (result ≡ Some why) × (new ≡ old)
  pub behind : first_row early ≡ None → (told : V) × looked old told new × (result ≡ first_row (early ++ late told))

-- and one that may
pub record TriesBetween {S V : Type 0} (early : List (Option Refusal)) (late : V → List (Option Refusal)) (looked : S → V → S → Type 0) (old : S) (result : Result (Option Refusal) Failed) (new : S) : Type 0 where
  pub before : (why : Refusal) → first_row early ≡ Some why → (result ≡ Ok (Some why)) × (new ≡ old)
  pub behind : first_row early ≡ None → IfOk result (λ answer. (told : V) × looked old told new × (answer ≡ first_row (early ++ late told)))
