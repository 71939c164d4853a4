-- How an import is made and found, and why not.
use Rattle.std.specs.Prelude.{◌≡◌, ◌⊎◌, ℕ, ◌+◌, ◌<◌, ◌≤◌, true, not, IsTrue}
use Rattle.avs_seg.specs.Image.{block_at, ChangesWithin}
use Rattle.avs_seg.specs.Segment.{seg_count}
use Rattle.avs_dev.specs.Seen.{Seen, IsTold, Lasts, IsSpared, Fails}
use Rattle.avs_dev.specs.Memory.{counted}
use Rattle.avs_dev.specs.declared.back.Why.{Why}
use Rattle.avs_dev.specs.declared.back.Why.TheVariants.{Size, BadRecord, NoMemory, Fault}
use Rattle.avs_code.specs.Label.{IsBadLabel}
use Rattle.avs_bits.specs.BitSet.{bitmap_use, IsZeroBehind}
use Rattle.avs_model.specs.Limits.{import_blocks}
use Rattle.avs_model.specs.ShadowSets.{no_chunks}
use Rattle.avs_model.specs.declared.answer.Refusal.{Refusal}
use Rattle.avs_model.specs.declared.answer.Refusal.TheVariants as refusal
use Rattle.avs_join.specs.Imported.{ImportDisks, import_of, IsKnown}
use Rattle.avs_join.specs.Formatting.{IsImportLabel, IsNewBitmap, StopsFormat}

-- why a disk was refused, as a refusal
abbrev pub refusal_of : Why → Refusal
refusal_of (Size need have) = refusal.Size need have
refusal_of (BadRecord field) = refusal.BadRecord field
refusal_of NoMemory = refusal.NoMemory
refusal_of Fault = refusal.Fault

-- a refusal is one of these, with its cause
pub record IsRefusedBy (Cause : Why → Type 0) (answer : Refusal) : Type 0 where
  pub why : Why
  pub is : answer ≡ refusal_of why
  pub cause : Cause why

-- a bitmap is formatted for so many blocks, its label twice
pub record IsFormatted (old : Seen) (blocks : ℕ) (new : Seen) : Type 0 where
  pub lasts : Lasts old new
  pub spared : IsSpared old new
  pub within : IsTold old → ChangesWithin 0 (import_blocks blocks) old.image new.image
  pub written : new.written ≡ counted old.written (import_blocks blocks + 1)

-- a new import: the bitmap is formatted, and no segment is written yet; the volume is not touched
pub record MakesImport (volume bitmap : Seen) (stamp : ℕ) (new : ImportDisks) : Type 0 where
  pub fits : import_blocks volume.size ≤ bitmap.size
  pub volume_same : new.volume ≡ volume
  pub segs : new.bits.segs ≡ seg_count volume.size
  pub formatted : IsFormatted bitmap volume.size new.bits.disk
  pub known : IsTold bitmap → IsKnown new
  pub zeros : IsTold bitmap → IsZeroBehind new.bits.disk.image new.bits.segs
  pub state : IsTold bitmap → import_of new ≡ record { image = volume.image; stamp = stamp; segments = no_chunks }

-- an import as it is found: nothing of the disks changes
pub record LoadsImport (volume bitmap : Seen) (new : ImportDisks) : Type 0 where
  pub fits : import_blocks volume.size ≤ bitmap.size
  pub volume_same : new.volume ≡ volume
  pub bitmap_same : new.bits.disk ≡ bitmap
  pub segs : new.bits.segs ≡ seg_count volume.size
  pub known : IsTold bitmap → IsKnown new

-- ---- why there is none

-- the bitmap is too small for the volume, and nothing was done
pub record IsTooSmall (volume bitmap : Seen) (need have : ℕ) (new : Seen) : Type 0 where
  pub needs : need ≡ import_blocks volume.size
  pub has : have ≡ bitmap.size
  pub less : have < need
  pub kept : new ≡ bitmap

-- the label on the bitmap is not that of an import of a volume of so many blocks, and this is the first field that tells so
pub record IsNoImport (volume bitmap : Seen) (field : ℕ) (new : Seen) : Type 0 where
  pub fits : import_blocks volume.size ≤ bitmap.size
  pub bad : IsTold bitmap → IsBadLabel (block_at bitmap.image 0) (bitmap_use true volume.size) field
  pub none : IsTold bitmap → (stamp : ℕ) → IsImportLabel volume.size stamp (block_at bitmap.image 0) → ⊥
  pub kept : new ≡ bitmap

-- no memory was left, where the bitmap is large enough
pub record IsWithoutMemory (volume bitmap new : Seen) : Type 0 where
  pub fits : import_blocks volume.size ≤ bitmap.size
  pub kept : new ≡ bitmap

-- the bitmap was not read
pub record IsUnread (volume bitmap new : Seen) : Type 0 where
  pub fits : import_blocks volume.size ≤ bitmap.size
  pub kept : new ≡ record bitmap { faults = new.faults }
  pub later : bitmap.faults ≤ new.faults
  pub fails : Fails bitmap new
  pub unsteady : IsTrue (not bitmap.steady)

-- why no import was found on these disks, and what the bitmap's is then; the volume's is as it was
abbrev pub ImportLoadRefused : Seen → Seen → Why → Seen → Type 0
ImportLoadRefused volume bitmap (Size need have) new = IsTooSmall volume bitmap need have new
ImportLoadRefused volume bitmap (BadRecord field) new = IsNoImport volume bitmap field new
ImportLoadRefused volume bitmap NoMemory new = IsWithoutMemory volume bitmap new
ImportLoadRefused volume bitmap Fault new = IsUnread volume bitmap new

-- the bitmap's disk failed: it is as it was, or has no label, or is that of a new import
pub record IsFormattedInPart (volume bitmap : Seen) (stamp : ℕ) (new : Seen) : Type 0 where
  pub fits : import_blocks volume.size ≤ bitmap.size
  pub lasts : Lasts bitmap new
  pub fails : Fails bitmap new
  pub within : IsTold bitmap → ChangesWithin 0 (import_blocks volume.size) bitmap.image new.image
  pub left : IsTold bitmap → StopsFormat volume.size stamp bitmap.image new.image
  pub most : new.written ≤ bitmap.written + (import_blocks volume.size + 1)

-- no memory was left, before the bitmap was formatted or behind
pub record IsFormattedOrNot (volume bitmap : Seen) (stamp : ℕ) (new : Seen) : Type 0 where
  pub fits : import_blocks volume.size ≤ bitmap.size
  pub lasts : Lasts bitmap new
  pub spared : IsSpared bitmap new
  pub within : IsTold bitmap → ChangesWithin 0 (import_blocks volume.size) bitmap.image new.image
  pub left : IsTold bitmap → (new ≡ bitmap) ⊎ IsNewBitmap volume.size stamp new.image

-- the bitmap does not show what was written: no disk that tells its blocks does so
pub record IsUntrue (volume bitmap new : Seen) : Type 0 where
  pub fits : import_blocks volume.size ≤ bitmap.size
  pub lasts : Lasts bitmap new
  pub spared : IsSpared bitmap new
  pub untold : IsTold bitmap → ⊥

-- why no import was made of these disks, and what the bitmap's is then; the volume's is as it was
abbrev pub ImportMakeRefused : Seen → Seen → ℕ → Why → Seen → Type 0
ImportMakeRefused volume bitmap stamp (Size need have) new = IsTooSmall volume bitmap need have new
ImportMakeRefused volume bitmap stamp (BadRecord field) new = IsUntrue volume bitmap new
ImportMakeRefused volume bitmap stamp NoMemory new = IsFormattedOrNot volume bitmap stamp new
ImportMakeRefused volume bitmap stamp Fault new = IsFormattedInPart volume bitmap stamp new
