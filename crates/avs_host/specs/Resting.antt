-- Disks of which some are at rest, and which of these has a number.
use Rattle.std.specs.Prelude.{◌≡◌, ℕ, Bool, false, List, length, take, Option, Some, None, slice_get}
use Rattle.std.specs.List.{filter_map}
use Rattle.avs_dev.specs.Seen.{Seen, Arms}
use Rattle.avs_dev.specs.declared.disk.Tear.{Tear}

-- those that are at rest
abbrev pub disks_in : {D : Type 0} → List (Option D) → List D
disks_in disks = filter_map (λ disk. disk) disks

-- at that place is a disk, and before it are as many as its number
pub record IsNumbered {D : Type 0} (disks : List (Option D)) (number place : ℕ) : Type 0 where
  pub there : (disk : D) × (slice_get disks place ≡ Some (Some disk))
  pub before : length (disks_in (take place disks)) ≡ number

-- the disk is armed as its `arm` does, where one is at rest, and stays there
abbrev pub ArmsOne : {D : Type 0} → (D → Seen) → Option D → Tear → Bool → Option D → Type 0
ArmsOne {D} seen (Some old) tear result new = (disk : D) × (new ≡ Some disk) × Arms (seen old) tear result (seen disk)
ArmsOne {D} seen None tear result new = result ≡ false
