-- Steps on the disk of a landing volume.
use Rattle.std.specs.Prelude.{◌≡◌, ◌⊎◌, ℕ, ◌+◌, ◌*◌, ◌/◌, ◌<◌, ◌≤◌, IsTrue, not, List, length, Some, Result, Ok, Err, OnOk, OnErr}
use Rattle.avs_seg.specs.Image.{Block, Image, block_at, blocks_of, put, IsMix, ChangesWithin}
use Rattle.avs_dev.specs.Seen.{Seen, IsTold, Writes, Fails, GoesOn}
use Rattle.avs_dev.specs.Memory.{counted}
use Rattle.avs_dev.specs.declared.back.Why.{Why}
use Rattle.avs_dev.specs.declared.back.Why.TheVariants.{Size, BadRecord, NoMemory, Fault}
use Rattle.avs_code.specs.Header.{IsLandHeader, land_header_rules}
use Rattle.avs_code.specs.Label.{IsLabel, IsBadLabel}
use Rattle.avs_code.specs.Rules.{first_broken}
use Rattle.avs_code.specs.declared.land_headers.LandHeader.{LandHeader}
use Rattle.avs_land.specs.Landed.{landing_blocks, landing_use, landing_label, no_header, landed_blocks, IsLanding, IsReadable, IsBadLanding}

-- one block that stands for something is written
pub record WritesBlock {T E : Type 0} (Is : Block → Type 0) (at : ℕ) (old : Seen) (result : Result T E) (new : Seen) : Type 0 where
  pub block : Block
  pub is : Is block
  pub size : length block ≡ 512
  pub writes : Writes old at block result new

-- a count of written blocks is as it was, or has risen by so many
abbrev pub WroteOr : ℕ → ℕ → ℕ → Type 0
WroteOr old more new = (new ≡ old) ⊎ (new ≡ counted old more)

-- the label is written before the header: it stands, or the header is as it was
abbrev pub IsLabelFirst : Image → Image → Type 0
IsLabelFirst old new = IsLabel (block_at new 0) landing_label ⊎ (block_at new 1 ≡ block_at old 1)

-- the label and the header of a new landing volume are written
pub record Formats {T E : Type 0} (old : Seen) (result : Result T E) (new : Seen) : Type 0 where
  pub goes : GoesOn old result new
  pub within : IsTold old → ChangesWithin 0 2 old.image new.image
  pub done : IsTold old → OnOk result (IsLanding new.image no_header)
  pub label : IsTold old → OnErr result ((block_at new.image 0 ≡ block_at old.image 0) ⊎ IsLabel (block_at new.image 0) landing_label)
  pub header : IsTold old → OnErr result ((block_at new.image 1 ≡ block_at old.image 1) ⊎ IsLandHeader (block_at new.image 1) no_header)
  pub label_first : IsTold old → OnErr result (IsLabelFirst old.image new.image)
  pub written : OnOk result (new.written ≡ counted old.written 2)
  pub unwritten : OnErr result (WroteOr old.written 1 new.written)

-- blocks are written to an area, or there are none to write
pub record PutsArea {T E : Type 0} (old : Seen) (at : ℕ) (bytes : List ℕ) (result : Result T E) (new : Seen) : Type 0 where
  pub goes : GoesOn old result new
  pub done : IsTold old → OnOk result (new.image ≡ put old.image at (blocks_of bytes))
  pub failed : IsTold old → OnErr result (IsMix old.image at (blocks_of bytes) new.image)
  pub written : OnOk result (WroteOr old.written (length bytes / 512) new.written)
  pub counted : OnOk result (counted new.written 1 ≡ counted old.written (length bytes / 512 + 1))
  pub unwritten : OnErr result (new.written ≡ old.written)

-- a disk was read and told something of its blocks
pub record Tells (old : Seen) (Fact : Type 0) (new : Seen) : Type 0 where
  pub kept : new ≡ old
  pub told : IsTold old → Fact

-- a disk could not be read
pub record IsUnreadable (old new : Seen) : Type 0 where
  pub kept : new ≡ record old { faults = new.faults }
  pub fails : Fails old new
  pub unsteady : IsTrue (not old.steady)

-- a record is read from a disk: its value, or the field that breaks its rule
abbrev pub ReadsAs : {T : Type 0} → (T → Type 0) → (ℕ → Type 0) → Seen → Result T Why → Seen → Type 0
ReadsAs Is Bad old (Ok x) new = Tells old (Is x) new
ReadsAs Is Bad old (Err (Size need have)) new = ⊥
ReadsAs Is Bad old (Err (BadRecord field)) new = Tells old (Bad field) new
ReadsAs Is Bad old (Err NoMemory) new = ⊥
ReadsAs Is Bad old (Err Fault) new = IsUnreadable old new

-- the label is none of a landing volume
pub record IsOtherLabel (img : Image) (field : ℕ) : Type 0 where
  pub bad : IsBadLabel (block_at img 0) landing_use field
  pub none : IsLabel (block_at img 0) landing_label → ⊥

-- the header is none
pub record IsOtherHeader (img : Image) (field : ℕ) : Type 0 where
  pub bad : first_broken (land_header_rules (block_at img 1)) ≡ Some field
  pub none : (h : LandHeader) → IsLandHeader (block_at img 1) h → ⊥

-- the volume is no landing volume
pub record IsOtherVolume (img : Image) (field : ℕ) : Type 0 where
  pub bad : IsBadLanding img field
  pub none : IsReadable img → ⊥

-- why there is no room for the blocks of an entry: the disk is too small, or no memory was left
abbrev pub NoLandingRoom : Seen → Why → Type 0
NoLandingRoom old (Size need have) = (need ≡ landing_blocks) × (have ≡ old.size) × (old.size < landing_blocks)
NoLandingRoom old (BadRecord field) = ⊥
NoLandingRoom old NoMemory = landing_blocks ≤ old.size
NoLandingRoom old Fault = ⊥

-- the blocks of a header's entry are read
pub record ReadsEntry {T E : Type 0} (old : Seen) (h : LandHeader) (result : Result T E) (new : Seen) (bytes : List ℕ) : Type 0 where
  pub goes : GoesOn old result new
  pub kept : new ≡ record old { faults = new.faults }
  pub size : length bytes ≡ 512 * h.len
  pub shows : IsTold old → OnOk result (blocks_of bytes ≡ landed_blocks h old.image)
