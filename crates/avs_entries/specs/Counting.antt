-- How many entries pass a test, and the first that does.
use Rattle.std.specs.Prelude.{◌≡◌, ℕ, ◌-◌, ◌*◌, ◌<◌, ◌==◌, nat_lt, nat_le, Bool, ◌&&◌, not, true, false, List, length, filter, Option, None, ◌≤◌, IfSome, IfNone, ◌≢◌}
use Rattle.std.specs.List.{range_with_len}
use Rattle.avs_bits.specs.Bit.{bit_of}
use Rattle.avs_entries.specs.Entries.{on_shadow, state_by, slot_by}

-- an entry tells that its chunk was touched; that its slot is one of the set's own; that it is one of the overflow volume
abbrev pub is_touched : ℕ → Bool
is_touched entry = not (entry == 0)

abbrev pub is_own : ℕ → ℕ → Bool
is_own own entry = is_touched entry && nat_lt (slot_by entry) own

abbrev pub is_over : ℕ → ℕ → Bool
is_over own entry = is_touched entry && nat_le own (slot_by entry)

-- of the first n chunks, how many have an entry that passes a test
abbrev pub count_of : (ℕ → Bool) → (ℕ → ℕ) → ℕ → ℕ
count_of test entries n = length (filter (λ c. test (entries c)) (range_with_len 0 n))

-- an entry tells a state
abbrev pub is_in : ℕ → ℕ → Bool
is_in state entry = state_by entry == state

-- the least chunk from one on, below an end, that has a slot of the overflow volume, with that slot; none where there is none
pub record FindsOver (entries : ℕ → ℕ) (own from end : ℕ) (found : Option (ℕ × ℕ)) : Type 0 where
  pub there : IfSome found (λ p. (from ≤ p.0) × (p.0 < end))
  pub has : IfSome found (λ p. (is_over own (entries p.0) ≡ true) × (p.1 ≡ slot_by (entries p.0) - own))
  pub least : IfSome found (λ p. (c : ℕ) → from ≤ c → c < p.0 → is_over own (entries c) ≡ false)
  pub none : IfNone found ((c : ℕ) → from ≤ c → c < end → is_over own (entries c) ≡ false)

-- a map has a bit for each of the first n chunks, which tells whether it stands in its slot alone
pub record IsMapped (entries : ℕ → ℕ) (n : ℕ) (map : List ℕ) : Type 0 where
  pub room : n ≤ 8 * length map
  pub each : (c : ℕ) → c < n → bit_of map c ≡ is_in on_shadow (entries c)

-- the least of n chunks that stands in its slot alone, and None where there is none
pub record FindsDue (entries : ℕ → ℕ) (n : ℕ) (result : Option ℕ) : Type 0 where
  pub there : IfSome result (λ c. c < n)
  pub due : IfSome result (λ c. state_by (entries c) ≡ on_shadow)
  pub least : IfSome result (λ c. (d : ℕ) → d < c → state_by (entries d) ≢ on_shadow)
  pub none : IfNone result ((d : ℕ) → d < n → state_by (entries d) ≢ on_shadow)
