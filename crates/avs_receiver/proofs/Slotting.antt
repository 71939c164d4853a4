-- Slots of sets are marked one after another.
use Rattle.std.proofs.Common.{◌≡◌, ◌≢◌, inl, inr, ℕ, ◌+◌, ◌<◌, ◌≤◌, not, eqb, List, length, ◌∙◌, sym, refl, ap, subst, arith}
use Rattle.std.specs.Int.{bit_at}
use Rattle.std.proofs.lemmas.Bool.{cases_lt, cases_eq}
use Rattle.avs_dev.specs.Below.{BelowSeen}
use Rattle.avs_halves.specs.SetBits.{SetBits, set_at}
use Rattle.avs_halves.specs.Over.{IsOver}
use Rattle.avs_receiver.specs.Slots.{HaveSlots, IsFree, AreEmpty, AreFilled}

-- the sets below a place have this bit in their slots, and the slots of no set are as they were
pub record Marked (on : ℕ) (sets : List SetBits) (old i now : ℕ) : Type 0 where
  pub each : (set : ℕ) → set < i → bit_at now (set_at sets set).slot ≡ on
  pub others : (slot : ℕ) → slot < 16 → IsFree sets slot → bit_at now slot ≡ bit_at old slot

pub none_marked : (on : ℕ) (sets : List SetBits) (old : ℕ) → Marked on sets old 0 old
none_marked on sets old = record { each = λ set low. absurd (omega (arith, low)); others = λ slot low free. refl }

module _ (on : ℕ) (sets : List SetBits) (old i now next : ℕ) (have : HaveSlots sets) (so : Marked on sets old i now) (there : i < length sets)
    (here : bit_at next (set_at sets i).slot ≡ on) (apart : (k : ℕ) → k < 16 → k ≢ (set_at sets i).slot → bit_at next k ≡ bit_at now k) where
  at : (set : ℕ) → set < i → bit_at next (set_at sets set).slot ≡ on
  at set low = elim (cases_eq (set_at sets set).slot (set_at sets i).slot) [
    | inl same ↦ ap (λ (k : ℕ). bit_at next k) same ∙ here
    | inr other ↦ apart (set_at sets set).slot (have.each set (omega (arith, low, there))) other ∙ so.each set low
  ]

  pub one_marked : Marked on sets old (i + 1) next
  one_marked = record {
    each = λ set low. elim (cases_lt set i) [
      | inl before ↦ at set before
      | inr from ↦ let e : set ≡ i = omega (arith, low, from) in subst (λ (k : ℕ). bit_at next (set_at sets k).slot ≡ on) (sym e) here
    ];
    others = λ slot low free. apart slot low (λ is. free i there (sym is)) ∙ so.others slot low free;
  }

pub all_empty : (sets : List SetBits) (old i now : ℕ) → length sets ≤ i → Marked 1 sets old i now → AreEmpty sets old now
all_empty sets old i now end so = record {
  sets_are = λ set low. ap (λ (k : ℕ). not (eqb k 1)) (so.each set (omega (arith, low, end)));
  others = so.others;
}

pub all_filled : (sets : List SetBits) (old i now : ℕ) → length sets ≤ i → Marked 0 sets old i now → AreFilled sets old now
all_filled sets old i now end so = record {
  sets_are = λ set low. ap (λ (k : ℕ). not (eqb k 1)) (so.each set (omega (arith, low, end)));
  others = so.others;
}

-- the sets of a half have slots
pub over_slots : (below : BelowSeen) (sets : List SetBits) → IsOver below sets → HaveSlots sets
over_slots below sets over = record { few = over.few; each = λ set there. (over.each set there).slot }
