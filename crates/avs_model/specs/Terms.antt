-- What a run is under, and what its events are free to choose.
use Rattle.std.specs.Prelude.{◌≡◌, ℕ, Bool, ◌||◌, All, length, slice_index_or}
use Rattle.avs_seg.specs.Image.{Image, tabulate, zero_block}

-- the disks are steady, and fail only where a tear is met; and they tell their blocks
pub record Terms : Type 0 where
  pub steady : Bool
  pub tells : Bool

-- the free choices of one event: the blocks behind a larger shadow whose volume was spent when it was enabled; and, of a disk that is not
-- steady, whether it lets a tear be armed
pub record Chosen : Type 0 where
  pub behind : Image
  pub arms : Bool

-- a steady disk always does
abbrev pub lets_arm : Terms → Chosen → Bool
lets_arm terms chosen = terms.steady || chosen.arms

-- blocks may be chosen freely, but they are blocks
abbrev pub IsFair : Chosen → Type 0
IsFair chosen = All (λ block. length block ≡ 512) chosen.behind

-- so many blocks of those that were chosen
abbrev pub chosen_blocks : Chosen → ℕ → Image
chosen_blocks chosen count = tabulate count (λ i. slice_index_or chosen.behind i zero_block)
