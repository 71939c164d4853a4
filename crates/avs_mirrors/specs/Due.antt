-- Which segments are due to be copied, and which place frees each of them.
use Rattle.std.specs.Prelude.{ℕ, ◌==◌, ◌&&◌, nat_lt, nat_le, if◌then◌else◌, Bool, false, List, drop, Option, None, Some, is_some}
use Rattle.std.specs.Option.{option_map_or}
use Rattle.avs_model.specs.declared.entry.Entry.{Entry}
use Rattle.avs_mirrors.specs.Entries.{touches, greatest}

-- segments of one set, and of all sets
abbrev pub Segments : Type 0
Segments = ℕ → Bool

abbrev pub Keys : Type 0
Keys = ℕ → ℕ → Bool

-- of each segment of each set the place that frees it: 0 where no place does yet, None where the segment is not due
abbrev pub Due : Type 0
Due = ℕ → ℕ → Option ℕ

abbrev pub nothing_due : Due
nothing_due set seg = None

-- whether a segment is due
abbrev pub has : Due → ℕ → ℕ → Bool
has due set seg = is_some (due set seg)

-- whether it is, and no place frees it yet
abbrev pub is_zero : Option ℕ → Bool
is_zero None = false
is_zero (Some place) = place == 0

-- with some segments more
abbrev pub noted : Due → Keys → Due
noted due keys set seg = if has due set seg then due set seg else (if keys set seg then Some 0 else None)

-- with the segments of an entry at a place: one that is still to be copied stays so, while `copying`
abbrev pub placed_one : Bool → Option ℕ → ℕ → Option ℕ
placed_one copying old place = if copying && is_zero old then old else Some place

abbrev pub placed_due : Due → Bool → Entry → ℕ → Due
placed_due due copying e place set seg = if touches e set seg then placed_one copying (due set seg) place else due set seg

-- with a segment whose copy has a place
abbrev pub copied_due : Due → ℕ → ℕ → ℕ → Due
copied_due due set seg place t g = if t == set && g == seg then Some place else due t g

-- the segments that places from 1 to `upto` free, and what is due without some segments
abbrev pub frees : Due → ℕ → Keys
frees due upto set seg = option_map_or (λ place. nat_lt 0 place && nat_le place upto) (due set seg) false

abbrev pub freed_due : Due → Keys → Due
freed_due due keys set seg = if keys set seg then None else due set seg

-- no place frees a segment any more
abbrev pub zero_of : Option ℕ → Option ℕ
zero_of None = None
zero_of (Some place) = Some 0

abbrev pub zeros : Due → Due
zeros due set seg = zero_of (due set seg)

-- the segments of both
abbrev pub both_due : Due → Due → Due
both_due a b set seg = if has a set seg then Some 0 else zero_of (b set seg)

-- each segment has the greatest place above the known one that touches it
abbrev pub weighed_due : Due → ℕ → List Entry → Due
weighed_due due known order set seg = if has due set seg then Some (greatest known (drop known order) set seg) else None

-- of one set these segments alone
abbrev pub set_due : Due → ℕ → Segments → Due
set_due due set keys t seg = if t == set then (if keys seg then Some 0 else None) else due t seg
