-- The segments that a range touches.
use Rattle.std.proofs.Common.{◌≡◌, ◌⊎◌, inl, inr, ℕ, ◌+◌, ◌-◌, ◌*◌, ◌<◌, ◌≤◌, length, get_or, ◌∙◌, sym, arith}
use Rattle.std.specs.List.{Contains}
use Rattle.std.proofs.lemmas.Bool.{cases_lt}
use Rattle.std.proofs.lemmas.List.FromFn.{length-range_with_len, get_or-range_with_len}
use Rattle.avs_seg.specs.Segment.{seg_count, first_segment, touch_count, touch}

-- a segment and a range have a block in common
pub record Meets (at len s : ℕ) : Type 0 where
  pub before_end : 64 * s < at + len
  pub behind_start : at < 64 * s + 64

pub length-touch : (at len : ℕ) → length (touch at len) ≡ touch_count at len
length-touch at len = length-range_with_len (first_segment at) (touch_count at len)

pub get_or-touch : (at len i d : ℕ) → i < touch_count at len → get_or (touch at len) i d ≡ first_segment at + i
get_or-touch at len i d lt = get_or-range_with_len (first_segment at) (touch_count at len) i d lt

-- a range of one block or more touches one segment or more, and none behind the volume's last
pub touch_count_some : (at len : ℕ) → 0 < len → 0 < touch_count at len
touch_count_some at len some = omega arith

pub touch_inside : (at len blocks : ℕ) → 0 < len → at + len ≤ blocks → first_segment at + touch_count at len ≤ seg_count blocks
touch_inside at len blocks some fits = omega arith

-- exactly the segments between the first and the last that the range meets
pub Meets-from_place : (at len s : ℕ) → 0 < len → first_segment at ≤ s → s < first_segment at + touch_count at len → Meets at len s
Meets-from_place at len s some low high = record { before_end = omega arith; behind_start = omega arith }

pub place_from_Meets : (at len s : ℕ) → Meets at len s → (first_segment at ≤ s) × (s < first_segment at + touch_count at len)
place_from_Meets at len s m = (omega arith, omega arith)

-- a segment is in the list exactly where it meets the range
pub Contains-touch : (at len s : ℕ) → Meets at len s → Contains (touch at len) s
Contains-touch at len s m =
    let place = place_from_Meets at len s m in
    let lt : s - first_segment at < touch_count at len = omega arith in
    (s - first_segment at, omega (arith, length-touch at len), get_or-touch at len (s - first_segment at) s lt ∙ omega arith)

pub Meets-touch : (at len s : ℕ) → 0 < len → Contains (touch at len) s → Meets at len s
Meets-touch at len s some found =
    let lt : found.0 < touch_count at len = omega (arith, found.1, length-touch at len) in
    let is : s ≡ first_segment at + found.0 = sym found.2 ∙ get_or-touch at len found.0 s lt in
    Meets-from_place at len s some (omega arith) (omega arith)

-- a range meets each segment that a part of it meets
pub Meets_wider : (at len at' len' s : ℕ) → at' ≤ at → at + len ≤ at' + len' → Meets at len s → Meets at' len' s
Meets_wider at len at' len' s low high m = record { before_end = omega arith; behind_start = omega arith }

-- either the segment meets the range, or it lies apart
pub cases_Meets : (at len s : ℕ) → Meets at len s ⊎ ((at + len ≤ 64 * s) ⊎ (64 * s + 64 ≤ at))
cases_Meets at len s = elim (cases_lt (64 * s) (at + len)) [
  | inr past ↦ inr (inl past)
  | inl low ↦ elim (cases_lt at (64 * s + 64)) [
    | inl high ↦ inl (record { before_end = low; behind_start = high })
    | inr before ↦ inr (inr before)
  ]
]
