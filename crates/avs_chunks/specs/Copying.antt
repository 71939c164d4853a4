-- Copy steps: the least chunk that stands on one disk alone is copied to the other.
use Rattle.std.specs.Prelude.{◌≡◌, ℕ, ◌<◌, ◌==◌, Bool, true, false, Option, None, Some, IfSome, IfNone, Result, IfOk, filter, length}
use Rattle.std.specs.List.{range_with_len}
use Rattle.avs_dev.specs.Seen.{Seen}
use Rattle.avs_model.specs.declared.shadow.Kind.{Kind}
use Rattle.avs_model.specs.declared.shadow.Kind.TheVariants.{Ind, Dep, Compact}
use Rattle.avs_chunks.specs.States.{on_master, on_both, split, on_shadow}
use Rattle.avs_chunks.specs.Due.{is_independent, is_due}
use Rattle.avs_chunks.specs.ChunkSet.{ChunkSet, chunks_of, state_of}
use Rattle.avs_chunks.specs.Calls.{DoesNothing, Settles}

-- the least chunk below an end that is to be copied, and None where there is none
pub record FindsDue (states : ℕ → ℕ) (independent : Bool) (end : ℕ) (result : Option ℕ) : Type 0 where
  pub there : IfSome result (λ c. c < end)
  pub due : IfSome result (λ c. is_due independent (states c) ≡ true)
  pub least : IfSome result (λ c. (d : ℕ) → d < c → is_due independent (states d) ≡ false)
  pub none : IfNone result ((d : ℕ) → d < end → is_due independent (states d) ≡ false)

-- that chunk is settled as the same on both, and without one nothing is done
abbrev pub CopiesDue : {E : Type 0} → ChunkSet → Seen → Option ℕ → Result (Option ℕ) E → ChunkSet → Seen → Type 0
CopiesDue old m None result new m_new = DoesNothing old m result new m_new × IfOk result (λ copied. copied ≡ None)
CopiesDue old m (Some chunk) result new m_new = Settles old m chunk on_both result new m_new × IfOk result (λ copied. copied ≡ Some chunk)

pub record CopiesOne {E : Type 0} (old : ChunkSet) (m : Seen) (result : Result (Option ℕ) E) (new : ChunkSet) (m_new : Seen) : Type 0 where
  pub due : Option ℕ
  pub finds : FindsDue (state_of old) (is_independent old.kind) (chunks_of old) due
  pub copies : CopiesDue old m due result new m_new

-- how many chunks are in a state, by the memory
abbrev pub count_in : ℕ → ChunkSet → ℕ
count_in state s = length (filter (λ c. state_of s c == state) (range_with_len 0 (chunks_of s)))

-- how many stand on the shadow alone, and how many are split
abbrev pub back_of : ChunkSet → ℕ
back_of s = count_in on_shadow s

abbrev pub moved_of : ChunkSet → ℕ
moved_of s = count_in split s

-- how many chunks of an independent set stand on the master alone
abbrev pub left_by : Kind → ChunkSet → ℕ
left_by Ind s = count_in on_master s
left_by Dep s = 0
left_by Compact s = 0

abbrev pub left_of : ChunkSet → ℕ
left_of s = left_by s.kind s
