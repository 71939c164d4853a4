-- Two sets over volumes of their sizes, and lists of their segments.
use Rattle.std.specs.Prelude.{◌≡◌, ℕ, ◌<◌, List, length, All}
use Rattle.avs_dev.specs.Below.{BelowSeen, size_of}
use Rattle.avs_sync.specs.Parts.{MirrorSet}
use Rattle.avs_halves.specs.SetBits.{set_at}
use Rattle.avs_halves.specs.Found.{part_at}
use Rattle.avs_sender.specs.Held.{SenderHeld}

-- two volumes: the second set's, and the first set's
pub record AreStacked (below : BelowSeen) : Type 0 where
  pub count : length below.sizes ≡ 2
  pub first_size : size_of below 1 ≡ 150
  pub second_size : size_of below 0 ≡ 70

-- two sets, in order, over the second of these and over the first
pub record AreTwoParts (parts : List MirrorSet) : Type 0 where
  pub count : length parts ≡ 2
  pub first_vol : (part_at parts 0).vol ≡ 1
  pub second_vol : (part_at parts 1).vol ≡ 0
  pub first_slot : (part_at parts 0).slot ≡ 3
  pub second_slot : (part_at parts 1).slot ≡ 0

-- a set lies over a volume of so many blocks, and has so many segments
pub record IsSizedAs (h : SenderHeld) (set blocks segs : ℕ) : Type 0 where
  pub there : (set_at h.half.sets set).vol < length h.below.sizes
  pub blocks_are : size_of h.below (set_at h.half.sets set).vol ≡ blocks
  pub segs_are : (set_at h.half.sets set).bits.segs ≡ segs

-- the two sets of a sender
pub record AreTwo (h : SenderHeld) : Type 0 where
  pub count : length h.half.sets ≡ 2
  pub first : IsSizedAs h 0 150 3
  pub second : IsSizedAs h 1 70 2

-- segments below so many
abbrev pub AreBelow : ℕ → List ℕ → Type 0
AreBelow segs list = All (λ seg. seg < segs) list
