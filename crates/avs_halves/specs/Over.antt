-- The sets of a half lie over volumes of their sizes.
use Rattle.std.specs.Prelude.{◌≡◌, ℕ, ◌<◌, ◌≤◌, ◌^◌, List, length}
use Rattle.avs_seg.specs.Segment.{seg_count}
use Rattle.avs_dev.specs.Below.{BelowSeen, size_of}
use Rattle.avs_sync.specs.Parts.{MirrorSet}
use Rattle.avs_halves.specs.SetBits.{SetBits, set_at}
use Rattle.avs_halves.specs.Found.{part_at}

-- the volume of a set is there, its bits are as many as its segments, and it has a slot of the note
pub record LiesOver (below : BelowSeen) (s : SetBits) : Type 0 where
  pub there : s.vol < length below.sizes
  pub small : size_of below s.vol ≤ 2 ^ 31
  pub segs : s.bits.segs ≡ seg_count (size_of below s.vol)
  pub slot : s.slot < 16

-- and no two sets have one volume, or one slot
pub record IsOver (below : BelowSeen) (sets : List SetBits) : Type 0 where
  pub few : length sets ≤ 16
  pub each : (set : ℕ) → set < length sets → LiesOver below (set_at sets set)
  pub apart : (set other : ℕ) → set < length sets → other < length sets → (set_at sets other).vol ≡ (set_at sets set).vol → other ≡ set
  pub slots : (set other : ℕ) → set < length sets → other < length sets → (set_at sets other).slot ≡ (set_at sets set).slot → other ≡ set

-- ---- before they are loaded

-- a set has a volume of its own, and a slot of its own
pub record HasOwn (below : BelowSeen) (sets : List MirrorSet) (set : ℕ) : Type 0 where
  pub there : (part_at sets set).vol < length below.sizes
  pub small : size_of below (part_at sets set).vol ≤ 2 ^ 31
  pub slot : (part_at sets set).slot < 16
  pub volume : (other : ℕ) → other < length sets → (part_at sets other).vol ≡ (part_at sets set).vol → other ≡ set
  pub slots : (other : ℕ) → other < length sets → (part_at sets other).slot ≡ (part_at sets set).slot → other ≡ set

-- there are sets, as many as a group may have, each with a volume and a slot
pub record AreLoadable (below : BelowSeen) (sets : List MirrorSet) : Type 0 where
  pub some : 0 < length sets
  pub few : length sets ≤ 16
  pub own : (set : ℕ) → set < length sets → HasOwn below sets set
