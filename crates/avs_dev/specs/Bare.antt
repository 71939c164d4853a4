-- Plain disks beside a state disk, and what each call makes of them.
use Rattle.std.specs.Prelude.{◌≡◌, ℕ, ◌+◌, ◌-◌, ◌/◌, ◌^◌, ◌<◌, ◌==◌, min, Bool, true, false, not, IsTrue, if◌then◌else◌, List, ◌∷◌, [], ◌++◌, length, map, take, drop, replicate, Option, None, Some, Result, is_ok, slice_get, slice_set, slice_index, slice_index_or}
use Rattle.std.specs.List.{list_all}
use Rattle.avs_seg.specs.Image.{Block, block_at}
use Rattle.avs_seg.specs.Causes.{Rose}
use Rattle.avs_dev.specs.Seen.{Seen, IsTold, Reads, Writes, shown, with_tear}
use Rattle.avs_dev.specs.Below.{BelowSeen, IsNoteInStep}
use Rattle.avs_dev.specs.declared.disk.Tear.{Tear}
use Rattle.avs_dev.specs.declared.back.Why.{Why}
use Rattle.avs_dev.specs.declared.back.Why.TheVariants.{Size, BadRecord, NoMemory, Fault}

-- the state disk, the volumes in order, and the note in memory
pub record BareDisks : Type 0 where
  pub state : Seen
  pub volumes : List Seen
  pub note : List ℕ

-- a volume by its number
abbrev pub volume_at : BareDisks → ℕ → Seen
volume_at b vol = slice_index_or b.volumes vol b.state

-- the disks in order, the state disk first
abbrev pub disks_of : BareDisks → List Seen
disks_of b = b.state ∷ b.volumes

-- a disk by its place among these
abbrev pub disk_at : BareDisks → ℕ → Seen
disk_at b disk = slice_index_or (disks_of b) disk b.state

-- the 64 bytes of a note, which begin at byte 400 of the state disk's block 1
abbrev pub note_in : Block → List ℕ
note_in block = take 64 (drop 400 block)

-- a block of zeros but for the note
abbrev pub note_block : List ℕ → Block
note_block note = replicate 400 0 ++ note ++ replicate 48 0

-- the note on a state disk, where it tells its blocks
abbrev pub stored_on : Seen → Option (List ℕ)
stored_on d = if length d.image == d.size then Some (note_in (block_at d.image 1)) else None

-- what they are as volumes to write to: each shows its blocks where its disk tells them
abbrev pub below_of : BareDisks → BelowSeen
below_of b = record {
  images = map shown b.volumes;
  sizes = map (λ d. d.size) b.volumes;
  note = b.note;
  stored = stored_on b.state;
  faults = map (λ d. d.faults) (disks_of b);
  armed = map (λ d. d.armed) (disks_of b);
  steady = list_all (λ d. d.steady) (disks_of b);
}

-- the blocks written on each volume
abbrev pub written_on : BareDisks → List ℕ
written_on b = map (λ d. d.written) b.volumes

-- a write at Ok adds its blocks to those written on its volume, and at Failed it adds none
abbrev pub AddsBlocks : List ℕ → ℕ → ℕ → List ℕ → Bool → List ℕ → Type 0
AddsBlocks old vol at bytes true new = new ≡ slice_set old vol (min (slice_index old vol + length bytes / 512) (2 ^ 64 - 1))
AddsBlocks old vol at bytes false new = new ≡ old

-- the note on the state disk, where it is told, is the one in memory
abbrev pub IsSoundBare : BareDisks → Type 0
IsSoundBare b = IsNoteInStep (below_of b)

-- there is no volume yet, and the note is that of the state disk
pub record Opens (old : Seen) (new : BareDisks) : Type 0 where
  pub kept : new.state ≡ old
  pub rest : new.state ≡ record old { faults = new.state.faults }
  pub none : new.volumes ≡ []
  pub note : IsTold old → new.note ≡ note_in (block_at old.image 1)
  pub step : IsNoteInStep (below_of new)
  pub fits : 1 < new.state.size

-- why the state disk was refused: it failed to read its block 1, which a steady disk does not, or there was no memory
abbrev pub WhyRefused : Seen → Why → Seen → Type 0
WhyRefused old (Size need have) new = ⊥
WhyRefused old (BadRecord field) new = ⊥
WhyRefused old NoMemory new = new ≡ old
WhyRefused old Fault new = Rose old.faults new.faults × IsTrue (not old.steady)

-- the state disk is handed back as it was, but for its faults
pub record OpenRefused (old : Seen) (why : Why) (new : Seen) : Type 0 where
  pub rest : new ≡ record old { faults = new.faults }
  pub cause : WhyRefused old why new

-- a read is one of a volume, and nothing else changes
pub record ReadsVolume {T E : Type 0} (old : BareDisks) (vol at : ℕ) (out : List ℕ) (result : Result T E) (new : BareDisks) : Type 0 where
  pub rest : new ≡ record old { volumes = slice_set old.volumes vol (volume_at new vol) }
  pub reads : Reads (volume_at old vol) at out result (volume_at new vol)

-- a write is one of a volume, and nothing else changes
pub record WritesVolume {T E : Type 0} (old : BareDisks) (vol at : ℕ) (bytes : List ℕ) (result : Result T E) (new : BareDisks) : Type 0 where
  pub rest : new ≡ record old { volumes = slice_set old.volumes vol (volume_at new vol) }
  pub writes : Writes (volume_at old vol) at bytes result (volume_at new vol)

-- block 1 of the state disk is written with zeros around the note, and the note in memory follows at Ok
pub record WritesNote {T E : Type 0} (old : BareDisks) (note : List ℕ) (result : Result T E) (new : BareDisks) : Type 0 where
  pub rest : new ≡ record old { state = new.state; note = if is_ok result then note else old.note }
  pub writes : Writes old.state 1 (note_block note) result new.state

-- exactly this tear is armed, exactly on a disk that is there and lets one be armed; where none is, nothing changes
pub record ArmsBare (old : BareDisks) (disk : ℕ) (tear : Tear) (result : Bool) (new : BareDisks) : Type 0 where
  pub there : IsTrue result → disk < length (disks_of old)
  pub answer : disk < length (disks_of old) → result ≡ (disk_at old disk).arms
  pub armed : IsTrue result → disks_of new ≡ slice_set (disks_of old) disk (with_tear tear (disk_at old disk))
  pub unarmed : IsTrue (not result) → new ≡ old
  pub note : new.note ≡ old.note
  pub sure : disk < length (disks_of old) → IsTrue (disk_at old disk).steady → IsTrue result

-- the blocks written on one of the disks
abbrev pub written_of : BareDisks → ℕ → Option ℕ
written_of b disk = slice_get (map (λ d. d.written) (disks_of b)) disk
