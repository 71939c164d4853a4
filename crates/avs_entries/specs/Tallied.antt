-- Sums over the entries of a set: how many tell a state, and how many slots of an overflow volume they reach.
use Rattle.std.specs.Prelude.{◌≡◌, ℕ, ◌+◌, ◌-◌, ◌<◌, ◌≤◌, ◌^◌, max, true, if◌then◌else◌}
use Rattle.avs_entries.specs.Entries.{slot_by, on_shadow, split}
use Rattle.avs_entries.specs.Counting.{is_over, count_of, is_in}
use Rattle.avs_entries.specs.declared.tally.Tally.{Tally}

-- how many slots an overflow volume has at least that has the one of an entry
abbrev pub reach_of : ℕ → ℕ → ℕ
reach_of own entry = if is_over own entry then slot_by entry - own + 1 else 0

-- the most of these, of the first n entries
pub record IsReach (entries : ℕ → ℕ) (own n reach : ℕ) : Type 0 where
  pub within : (c : ℕ) → c < n → reach_of own (entries c) ≤ reach
  pub met : 0 < reach → (c : ℕ) × ((c < n) × (reach_of own (entries c) ≡ reach))

-- the tally is that of the first n entries
pub record AreTallied (entries : ℕ → ℕ) (own n : ℕ) (tally : Tally) : Type 0 where
  pub back : tally.back ≡ count_of (is_in on_shadow) entries n
  pub halves : tally.split ≡ count_of (is_in split) entries n
  pub reach : IsReach entries own n tally.reach

-- one of the entries that are counted tells what this one does
pub record HasOne (tally : Tally) (entry : ℕ) : Type 0 where
  pub back : is_in on_shadow entry ≡ true → 0 < tally.back
  pub halves : is_in split entry ≡ true → 0 < tally.split

-- one more can be counted
pub record AreFew (tally : Tally) : Type 0 where
  pub back : tally.back < 2 ^ 31
  pub halves : tally.split < 2 ^ 31

-- an entry is another
pub record Changes (old : Tally) (own from to : ℕ) (new : Tally) : Type 0 where
  pub back : new.back + (if is_in on_shadow from then 1 else 0) ≡ old.back + (if is_in on_shadow to then 1 else 0)
  pub halves : new.split + (if is_in split from then 1 else 0) ≡ old.split + (if is_in split to then 1 else 0)
  pub reach : new.reach ≡ max old.reach (reach_of own to)
