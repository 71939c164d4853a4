-- What contracts see of a rack, and the disks that it makes.
use Rattle.std.specs.Prelude.{◌≡◌, ℕ, ◌+◌, ◌-◌, ◌^◌, ◌≤◌, min, Bool, false, [], if◌then◌else◌, None, Result, Ok, Err, IfOk}
use Rattle.avs_seg.specs.Image.{blank}
use Rattle.avs_seg.specs.Causes.{Rose}
use Rattle.avs_dev.specs.Seen.{Seen}
use Rattle.avs_dev.specs.declared.rack.RackFault.{RackFault}
use Rattle.avs_dev.specs.declared.rack.RackFault.TheVariants.{Refused, NoMemory}

-- a rack: how often it has refused, how many disks it has made, whether its disks tell their blocks, and whether they are steady
pub record RackSeen : Type 0 where
  pub faults : ℕ
  pub made : ℕ
  pub tells : Bool
  pub steady : Bool

-- a disk that it makes: zeros in every block, nothing written, no fault and no tear armed; whether one can be, the disk says
abbrev pub new_disk : RackSeen → ℕ → Bool → Seen
new_disk rack blocks arms = record {
  image = if rack.tells then blank blocks else [];
  size = blocks;
  faults = 0;
  written = 0;
  steady = rack.steady;
  armed = false;
  tear = None;
  arms = arms;
}

-- what a call does to the counts of a rack: a disk is made and none was refused, or a disk was refused and none is made,
-- or there was no memory and neither changes
abbrev pub CountsMake : {D : Type 0} → RackSeen → Result D RackFault → RackSeen → Type 0
CountsMake old (Ok disk) new = (new.made ≡ min (old.made + 1) (2 ^ 64 - 1)) × (new.faults ≡ old.faults)
CountsMake old (Err Refused) new = (new.made ≡ old.made) × Rose old.faults new.faults
CountsMake old (Err NoMemory) new = (new.made ≡ old.made) × (new.faults ≡ old.faults)

-- the disk made is such a one, and the rack refuses only where its faults rose
pub record Makes {D : Type 0} (seen : D → Seen) (old : RackSeen) (blocks : ℕ) (result : Result D RackFault) (new : RackSeen) : Type 0 where
  pub rest : new ≡ record old { faults = new.faults; made = new.made }
  pub later : old.faults ≤ new.faults
  pub made : IfOk result (λ d. seen d ≡ new_disk old blocks (seen d).arms)
  pub refused : result ≡ Err Refused → Rose old.faults new.faults
  pub counts : CountsMake old result new
