use Rattle.std.proofs.Common.{◌≡◌, ℕ, ◌-◌, ◌%◌, ◌≤◌, List, length, take}
use Rattle.avs_model.proofs.FillLemmas.{Repeats}
use Rattle.avs_text.proofs.filling.repeat_front.Given as goal

-- the first `len` bytes repeat so far, and whole
pub record RepeatedSoFar (len : ℕ) (old out : List ℕ) (done : ℕ) : Type 0 where
  pub some : len ≤ done
  pub within : done ≤ length out
  pub whole : done % len ≡ 0
  pub front : take len out ≡ take len old
  pub repeats : Repeats len out done

abbrev pub invariant-loop-done : goal.invariant-loop-done
invariant-loop-done l = RepeatedSoFar l.len l.initial.out l.out l.done

abbrev pub decreases-loop-done : goal.decreases-loop-done
decreases-loop-done l = length l.initial.out - l.done
