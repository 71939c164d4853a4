-- The refusals of a range on a host that is up.
use Rattle.std.proofs.Common.{◌≡◌, ℕ, Bool, true, Option, Some, None, Result, Ok, Err, IfOk, IfErr, List, sym, ◌∙◌}
use Rattle.avs_dev.specs.Seen.{Seen}
use Rattle.avs_model.specs.State.{State}
use Rattle.avs_model.specs.Refusals.{place_causes, range_causes, first_cause}
use Rattle.avs_model.specs.declared.event.Host.TheVariants.{P}
use Rattle.avs_model.specs.declared.answer.Refusal.{Refusal}
use Rattle.avs_world.specs.declared.world.World.{World}
use Rattle.avs_world.specs.Views.{view_of}
use Rattle.avs_world.specs.Holds.{Holds, IsPhase}
use Rattle.avs_world.specs.World.{Stands}
use Rattle.avs_world.proofs.Ranging.{range_place}
use Rattle.avs_world.proofs.Standing.{up_holds, up_phase}

module _ {D : Type 0} (seen : D → Seen) (world : World D) (name : List ℕ) (at len longest : ℕ) where
  -- the first cause, by what the store finds in each state that it holds, and in each for which the world stands
  abbrev pub FirstHeld : Option Refusal → Type 0
  FirstHeld first =
      (steady : Bool) (state : State) → Holds steady (view_of seen world) state → IsPhase true (view_of seen world).group → first_cause (place_causes state P name at len longest) ≡ first

  abbrev pub FirstStood : Option Refusal → Type 0
  FirstStood first = (steady : Bool) (state : State) → Stands seen steady world state → first_cause (range_causes state P name at len longest) ≡ first

  module _ (up : world.up ≡ true) where
    first_stood : (first : Option Refusal) → FirstHeld first → FirstStood first
    first_stood first held steady s stands =
        range_place s name at len longest (sym stands.up ∙ up) ∙ held steady s (up_holds seen steady world s stands up) (up_phase seen steady world s stands up)

    pub refused_stood : {T : Type 0} (result : Result T Refusal) → IfErr result (λ why. FirstHeld (Some why)) → IfErr result (λ why. FirstStood (Some why))
    refused_stood (Ok x) refused = tt
    refused_stood (Err why) refused = first_stood (Some why) refused

    pub passes_stood : {T : Type 0} (result : Result T Refusal) → IfOk result (λ _. FirstHeld None) → IfOk result (λ _. FirstStood None)
    passes_stood (Ok x) passes = first_stood None passes
    passes_stood (Err why) passes = tt
