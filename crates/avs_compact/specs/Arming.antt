-- The disks that are there, by number.
use Rattle.std.specs.Prelude.{◌≡◌, ℕ, Bool, false, not, IsTrue, List, [], ◌∷◌, Option, None, Some, is_some, slice_get, slice_set}
use Rattle.std.specs.Option.{option_map}
use Rattle.avs_dev.specs.Seen.{Seen, with_tear}
use Rattle.avs_dev.specs.declared.disk.Tear.{Tear}
use Rattle.avs_compact.specs.CompactSet.{CompactSet}

-- the disks that are there, in their order
abbrev pub both_disks : Option Seen → Seen → List Seen
both_disks None bitmap = bitmap ∷ []
both_disks (Some shadow) bitmap = shadow ∷ bitmap ∷ []

abbrev pub disks_there : CompactSet → List Seen
disks_there s = both_disks s.shadow s.areas.disk

-- the blocks written on a disk
abbrev pub written_of : CompactSet → ℕ → Option ℕ
written_of s disk = option_map (λ (d : Seen). d.written) (slice_get (disks_there s) disk)

-- whether there is a disk that lets a tear be armed
abbrev pub lets_arm : Option Seen → Bool
lets_arm None = false
lets_arm (Some d) = d.arms

-- exactly this tear is armed, exactly on a disk that is there and lets one be armed; where none is, nothing changes
pub record ArmsOne (old : CompactSet) (disk : ℕ) (tear : Tear) (result : Bool) (new : CompactSet) : Type 0 where
  pub answer : result ≡ lets_arm (slice_get (disks_there old) disk)
  pub armed : IsTrue result → (d : Seen) → slice_get (disks_there old) disk ≡ Some d → disks_there new ≡ slice_set (disks_there old) disk (with_tear tear d)
  pub rest : new ≡ record old { shadow = new.shadow; areas = record old.areas { disk = new.areas.disk } }
  pub still_there : is_some new.shadow ≡ is_some old.shadow
  pub unarmed : IsTrue (not result) → new ≡ old
  pub sure : (d : Seen) → slice_get (disks_there old) disk ≡ Some d → IsTrue d.steady → IsTrue result
