-- Copy steps: a chunk that stands in its slot alone is copied to the master.
use Rattle.std.specs.Prelude.{◌≡◌, ◌≢◌, ℕ, Option, None, Some, Result, IsOk, IfOk}
use Rattle.avs_dev.specs.Seen.{Seen}
use Rattle.avs_over.specs.Over.{OverSet}
use Rattle.avs_entries.specs.Entries.{on_both, on_shadow, state_by}
pub use Rattle.avs_entries.specs.Counting.{FindsDue}
use Rattle.avs_compact.specs.CompactSet.{CompactSet, chunks_of, entry_of}
use Rattle.avs_compact.specs.Keeping.{Settles, DoesNothing}

-- that chunk is settled as the same on both, and without one nothing is done
abbrev pub CopiesDue : {E : Type 0} → CompactSet → OverSet → Seen → Option ℕ → Result (Option ℕ) E → CompactSet → OverSet → Seen → Type 0
CopiesDue old o m None result new o_new m_new = DoesNothing old o m new o_new m_new × (IsOk result × IfOk result (λ copied. copied ≡ None))
CopiesDue old o m (Some chunk) result new o_new m_new = Settles old o m chunk on_both result new o_new m_new × IfOk result (λ copied. copied ≡ Some chunk)

pub record CopiesOne {E : Type 0} (old : CompactSet) (o : OverSet) (m : Seen) (result : Result (Option ℕ) E) (new : CompactSet) (o_new : OverSet) (m_new : Seen) : Type 0 where
  pub due : Option ℕ
  pub finds : FindsDue (entry_of old) (chunks_of old) due
  pub copies : CopiesDue old o m due result new o_new m_new

-- a chunk that stands in its slot alone is settled as the same on both, and nothing is done for another
pub record BringsBack {T E : Type 0} (old : CompactSet) (o : OverSet) (m : Seen) (chunk : ℕ) (result : Result T E) (new : CompactSet) (o_new : OverSet) (m_new : Seen) : Type 0 where
  pub settles : state_by (entry_of old chunk) ≡ on_shadow → Settles old o m chunk on_both result new o_new m_new
  pub nothing : state_by (entry_of old chunk) ≢ on_shadow → IsOk result × DoesNothing old o m new o_new m_new
