-- Segments that are listed, each at most once.
use Rattle.std.specs.Prelude.{◌≡◌, ℕ, ◌<◌, ◌≤◌, Bool, true, false, List, length, count_by, slice_index_or, slice_set, All}
use Rattle.avs_refs.specs.Places.{is_among}

-- of each segment whether it is listed, and how many calls it takes at most to take them all
pub record Listed : Type 0 where
  pub has : List Bool
  pub left : ℕ

abbrev pub has_at : List Bool → ℕ → Bool
has_at has seg = slice_index_or has seg false

-- a segment is not listed any more
pub record Takes (old : Listed) (seg : ℕ) (new : Listed) : Type 0 where
  pub inside : seg < length old.has
  pub has : new.has ≡ slice_set old.has seg false
  pub fewer : new.left < old.left

-- the stack has each segment that is listed, and there is room on it for the others
pub record IsStacked (stack : List ℕ) (has : List Bool) : Type 0 where
  pub inside : All (λ seg. seg < length has) stack
  pub listed : (seg : ℕ) → has_at has seg ≡ true → is_among stack seg ≡ true
  pub few : length stack ≤ count_by (λ b. b) has
