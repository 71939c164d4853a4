-- Which refusal of a range is the first, by what a store finds.
use Rattle.std.proofs.Common.{◌≡◌, ℕ, ◌+◌, ◌<◌, ◌≤◌, Bool, true, false, not, Option, Some, None, List, [], ◌∷◌, sym, ◌∙◌, ap, inl, inr, arith}
use Rattle.std.specs.Prelude.{◌||◌, nat_lt}
use Rattle.std.specs.Option.{is_some}
use Rattle.std.proofs.lemmas.Bool.{cases_Bool}
use Rattle.std.proofs.lemmas.Bool.Decides.{nat_tests}
use Rattle.avs_model.specs.State.{State, HostState, volume_of, use_of, is_spent, reach_of}
use Rattle.avs_model.specs.Refusals.{place_causes, range_causes, first_cause, is_bitmap}
use Rattle.avs_model.specs.declared.event.Host.TheVariants.{P}
use Rattle.avs_model.specs.declared.answer.Role.TheVariants.{Bitmap}
use Rattle.avs_model.specs.declared.answer.Refusal.{Refusal}
use Rattle.avs_model.specs.declared.answer.Refusal.TheVariants.{Down, NoVolume, BusyVolume, Length, Range, NoContents}

-- by what is found: whether the volume is there, whether it is a bitmap, how many of its blocks can be reached, whether its contents are gone
abbrev causes_by : Bool → Bool → ℕ → Bool → ℕ → ℕ → ℕ → Option Refusal
causes_by there bitmap reach spent at len longest =
    first_cause
    ((not there, NoVolume) ∷ (bitmap, BusyVolume Bitmap) ∷ (nat_lt len 1 || nat_lt longest len, Length len) ∷ (nat_lt reach (at + len), Range reach) ∷ (spent, NoContents) ∷ [])

module _ (reach at len longest : ℕ) (spent : Bool) where
  short : len < 1 → causes_by true false reach spent at len longest ≡ Some (Length len)
  short is = grind (arith, nat_tests)

  long : longest < len → causes_by true false reach spent at len longest ≡ Some (Length len)
  long is = grind (arith, nat_tests)

  over : 0 < len → len ≤ longest → reach < at + len → causes_by true false reach spent at len longest ≡ Some (Range reach)
  over some most is = grind (arith, nat_tests)

  empty : 0 < len → len ≤ longest → at + len ≤ reach → spent ≡ true → causes_by true false reach spent at len longest ≡ Some NoContents
  empty some most fits is = grind (arith, nat_tests)

  passes : 0 < len → len ≤ longest → at + len ≤ reach → spent ≡ false → causes_by true false reach spent at len longest ≡ None
  passes some most fits is = grind (arith, nat_tests)

-- what is found of a volume of a state, where it is no bitmap
pub record IsReady (host : HostState) (name : List ℕ) (reach : ℕ) (spent : Bool) : Type 0 where
  pub there : is_some (volume_of host name) ≡ true
  pub other : is_bitmap (use_of host name) ≡ false
  pub reached : reach_of host name ≡ reach
  pub gone : is_spent host name ≡ spent

module _ (s : State) (name : List ℕ) (at len longest : ℕ) where
  pub place_none : volume_of s.p name ≡ None → first_cause (place_causes s P name at len longest) ≡ Some NoVolume
  place_none none = ap (λ b. causes_by b (is_bitmap (use_of s.p name)) (reach_of s.p name) (is_spent s.p name) at len longest) (ap is_some none)

  pub place_busy : is_some (volume_of s.p name) ≡ true → is_bitmap (use_of s.p name) ≡ true → first_cause (place_causes s P name at len longest) ≡ Some (BusyVolume Bitmap)
  place_busy there busy = λ i. causes_by (there i) (busy i) (reach_of s.p name) (is_spent s.p name) at len longest

  module _ (reach : ℕ) (spent : Bool) (ready : IsReady s.p name reach spent) where
    by_parts : first_cause (place_causes s P name at len longest) ≡ causes_by true false reach spent at len longest
    by_parts = λ i. causes_by (ready.there i) (ready.other i) (ready.reached i) (ready.gone i) at len longest

    pub place_short : len < 1 → first_cause (place_causes s P name at len longest) ≡ Some (Length len)
    place_short is = by_parts ∙ short reach at len longest spent is

    pub place_long : longest < len → first_cause (place_causes s P name at len longest) ≡ Some (Length len)
    place_long is = by_parts ∙ long reach at len longest spent is

    pub place_over : 0 < len → len ≤ longest → reach < at + len → first_cause (place_causes s P name at len longest) ≡ Some (Range reach)
    place_over some most is = by_parts ∙ over reach at len longest spent some most is

    pub place_empty : 0 < len → len ≤ longest → at + len ≤ reach → spent ≡ true → first_cause (place_causes s P name at len longest) ≡ Some NoContents
    place_empty some most fits is = by_parts ∙ empty reach at len longest spent some most fits is

    pub place_passes : 0 < len → len ≤ longest → at + len ≤ reach → spent ≡ false → first_cause (place_causes s P name at len longest) ≡ None
    place_passes some most fits is = by_parts ∙ passes reach at len longest spent some most fits is

  pub range_down : s.p.up ≡ false → first_cause (range_causes s P name at len longest) ≡ Some (Down P)
  range_down down = ap (λ b. first_cause ((not b, Down P) ∷ place_causes s P name at len longest)) down

  -- on a host that is up
  pub range_place : s.p.up ≡ true → first_cause (range_causes s P name at len longest) ≡ first_cause (place_causes s P name at len longest)
  range_place up = ap (λ b. first_cause ((not b, Down P) ∷ place_causes s P name at len longest)) up

  pub range_passed : first_cause (range_causes s P name at len longest) ≡ None → first_cause (place_causes s P name at len longest) ≡ None
  range_passed passes = elim (cases_Bool s.p.up) [
    | inl up ↦ sym (range_place up) ∙ passes
    | inr down ↦ let e : Some (Down P) ≡ None = sym (range_down down) ∙ passes in absurd (cc)
  ]
