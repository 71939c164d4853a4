-- The next slot that a set takes.
use Rattle.std.proofs.Common.{◌≡◌, ℕ, ◌+◌, ◌-◌, length, Some, None, refl, subst, arith}
use Rattle.avs_over.specs.Slots.{Owners, FindsFree}
use Rattle.avs_over.specs.Over.{OverSet, Takes}
use Rattle.avs_compact.specs.Steps.{AreUsedFrom, TakesSlot}

module _ (table : Owners) (by : ℕ) (o o' : OverSet) (low : ℕ) where
  pub takes_own : (slot : ℕ) → FindsFree table low (Some slot) → TakesSlot table low by o (Some slot) o
  takes_own slot finds = record {
    own = λ lt. (finds.free, refl);
    least = λ lt. (finds.inside.0, finds.least);
    full = λ past. absurd (omega (arith, past, finds.inside.1));
    over = λ past. absurd (omega (arith, past, finds.inside.1));
    none = tt;
  }

  all_used : FindsFree table low None → AreUsedFrom table low
  all_used finds = record { each = finds.none }

  pub takes_over : (slot : ℕ) → FindsFree table low None → Takes o by (Some slot) o' → TakesSlot table low by o (Some (length table + slot)) o'
  takes_over slot finds t = record {
    own = λ lt. absurd (omega (arith, lt));
    least = λ lt. absurd (omega (arith, lt));
    full = λ past. all_used finds;
    over = λ past. (let e : slot ≡ length table + slot - length table = omega arith in subst (λ (k : ℕ). Takes o by (Some k) o') e t);
    none = tt;
  }

  pub takes_none : FindsFree table low None → Takes o by None o' → TakesSlot table low by o None o'
  takes_none finds t = record {
    own = tt;
    least = tt;
    full = tt;
    over = tt;
    none = (all_used finds, t.none.0);
  }
