-- Which chunks are to be copied, and those that are known to need no copy.
use Rattle.std.specs.Prelude.{◌≡◌, ℕ, ◌<◌, ◌==◌, Bool, true, false, ◌&&◌, ◌||◌}
use Rattle.avs_model.specs.declared.shadow.Kind.{Kind}
use Rattle.avs_model.specs.declared.shadow.Kind.TheVariants.{Ind, Dep, Compact}
use Rattle.avs_chunks.specs.States.{on_master, on_shadow}

-- whether a set is independent
abbrev pub is_independent : Kind → Bool
is_independent Ind = true
is_independent Dep = false
is_independent Compact = false

-- a chunk in this state is to be copied: it stands on the shadow alone, or is one of an independent set on the master alone
abbrev pub is_due : Bool → ℕ → Bool
is_due independent state = state == on_shadow || (independent && state == on_master)

-- none of the chunks below an end is to be copied
pub record NoneDue (states : ℕ → ℕ) (independent : Bool) (end : ℕ) : Type 0 where
  pub each : (c : ℕ) → c < end → is_due independent (states c) ≡ false
