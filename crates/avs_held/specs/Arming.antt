-- The disks that are there, by number.
use Rattle.std.specs.Prelude.{◌≡◌, ℕ, Bool, IsTrue, not, List, is_some, slice_get, slice_set, Option, Some}
use Rattle.std.specs.Option.{option_map}
use Rattle.avs_dev.specs.Seen.{Seen, with_tear}
use Rattle.avs_dev.specs.declared.disk.Tear.{Tear}
use Rattle.avs_chunks.specs.Arming.{both_disks, lets_arm}
use Rattle.avs_sets.specs.Sets.{SetSeen}

-- the disks of a set that are there, first the shadow's
abbrev pub disks_there : SetSeen → List Seen
disks_there s = both_disks s.shadow s.bitmap

-- the blocks written on a disk
abbrev pub written_of : SetSeen → ℕ → Option ℕ
written_of s disk = option_map (λ (d : Seen). d.written) (slice_get (disks_there s) disk)

-- exactly this tear is armed, exactly on a disk that is there and lets one be armed; where none is, nothing changes
pub record ArmsOne (old : SetSeen) (disk : ℕ) (tear : Tear) (result : Bool) (new : SetSeen) : Type 0 where
  pub answer : result ≡ lets_arm (slice_get (disks_there old) disk)
  pub armed : IsTrue result → (d : Seen) → slice_get (disks_there old) disk ≡ Some d → disks_there new ≡ slice_set (disks_there old) disk (with_tear tear d)
  pub rest : IsTrue result → new ≡ record old { shadow = new.shadow; bitmap = new.bitmap }
  pub still_there : is_some new.shadow ≡ is_some old.shadow
  pub unarmed : IsTrue (not result) → new ≡ old
  pub sure : (d : Seen) → slice_get (disks_there old) disk ≡ Some d → IsTrue d.steady → IsTrue result
