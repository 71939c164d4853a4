-- A set whose states are not looked at yet, and the counts of the chunks of a set that stand on one disk alone.
use Rattle.std.specs.Prelude.{◌≡◌, ℕ, ◌<◌, ◌==◌, false, Some, filter, length}
use Rattle.std.specs.List.{range_with_len}
use Rattle.avs_dev.specs.Seen.{Seen}
use Rattle.avs_dev.specs.declared.back.Why.{Why}
use Rattle.avs_dev.specs.declared.back.Why.TheVariants.{Size, BadRecord, NoMemory, Fault}
use Rattle.avs_model.specs.declared.shadow.Kind.{Kind}
use Rattle.avs_model.specs.declared.shadow.Kind.TheVariants.{Ind, Dep, Compact}
use Rattle.avs_chunk.specs.States.{on_master, on_shadow}
use Rattle.avs_chunk.specs.ChunkSet.{ChunkSet, chunks_of, state_of}
use Rattle.avs_chunk.specs.Making.{Fits, IsSmall, areas_on}

-- nothing is read or written
pub record Finds (kind : Kind) (shadow bitmap : Seen) (blocks : ℕ) (new : ChunkSet) : Type 0 where
  pub is : new ≡ record { kind = kind; shadow = Some shadow; areas = areas_on bitmap blocks false; memory = new.memory; blocks = blocks }
  pub kind_is : new.kind ≡ kind
  pub blocks_is : new.blocks ≡ blocks
  pub shadow_same : new.shadow ≡ Some shadow
  pub fits : Fits (Some shadow) bitmap blocks
  pub states : (c : ℕ) → c < chunks_of new → state_of new c ≡ on_master

abbrev pub FindRefused : Seen → Seen → ℕ → Why → Type 0
FindRefused shadow bitmap blocks (Size need have) = IsSmall (Some shadow) bitmap blocks need have
FindRefused shadow bitmap blocks (BadRecord field) = ⊥
FindRefused shadow bitmap blocks NoMemory = Unit {0}
FindRefused shadow bitmap blocks Fault = ⊥

-- how many chunks stand on the shadow alone, by the memory
abbrev pub back_of : ChunkSet → ℕ
back_of s = length (filter (λ c. state_of s c == on_shadow) (range_with_len 0 (chunks_of s)))

-- how many chunks of an independent set stand on the master alone, by the memory
abbrev pub left_by : Kind → ChunkSet → ℕ
left_by Ind s = length (filter (λ c. state_of s c == on_master) (range_with_len 0 (chunks_of s)))
left_by Dep s = 0
left_by Compact s = 0

abbrev pub left_of : ChunkSet → ℕ
left_of s = left_by s.kind s
