-- A set whose states are not looked at yet.
use Rattle.std.specs.Prelude.{◌≡◌, ℕ, ◌<◌, false, Some}
use Rattle.avs_dev.specs.Seen.{Seen}
use Rattle.avs_dev.specs.declared.back.Why.{Why}
use Rattle.avs_dev.specs.declared.back.Why.TheVariants.{Size, BadRecord, NoMemory, Fault}
use Rattle.avs_model.specs.declared.shadow.Kind.{Kind}
use Rattle.avs_chunks.specs.States.{on_master}
use Rattle.avs_chunks.specs.ChunkSet.{ChunkSet, chunks_of, state_of}
use Rattle.avs_chunks.specs.Making.{Fits, IsSmall, StandsOn}

-- nothing is read or written
pub record Finds (kind : Kind) (shadow bitmap : Seen) (blocks : ℕ) (new : ChunkSet) : Type 0 where
  pub stands : StandsOn kind (Some shadow) bitmap blocks false new
  pub fits : Fits (Some shadow) bitmap blocks
  pub states : (c : ℕ) → c < chunks_of new → state_of new c ≡ on_master

abbrev pub FindRefused : Seen → Seen → ℕ → Why → Type 0
FindRefused shadow bitmap blocks (Size need have) = IsSmall (Some shadow) bitmap blocks need have
FindRefused shadow bitmap blocks (BadRecord field) = ⊥
FindRefused shadow bitmap blocks NoMemory = Unit {0}
FindRefused shadow bitmap blocks Fault = ⊥
