-- The bitmap of an import is formatted: its label goes, its bits are cleared, and the label of the import comes.
use Rattle.std.specs.Prelude.{◌≡◌, ◌⊎◌, ℕ, ◌+◌, ◌*◌, ◌<◌, ◌≤◌, false, true, length, Result, Ok, Err, OnOk, OnErr}
use Rattle.avs_seg.specs.Image.{Block, Image, block_at, ChangesWithin}
use Rattle.avs_dev.specs.Seen.{Seen, IsTold, Writes, GoesOn}
use Rattle.avs_dev.specs.Memory.{counted}
use Rattle.avs_dev.specs.declared.back.Why.{Why}
use Rattle.avs_dev.specs.declared.back.Why.TheVariants.{Size, BadRecord, NoMemory, Fault}
use Rattle.avs_code.specs.Label.{IsLabel}
use Rattle.avs_code.specs.declared.labels.Label.{Label}
use Rattle.avs_bits.specs.Bit.{disk_bit}
use Rattle.avs_bits.specs.BitSet.{bitmap_label}
use Rattle.avs_model.specs.Limits.{import_blocks}

-- no label stands on a bitmap, so that it serves as none
pub record IsUnlabelled (bitmap : Image) : Type 0 where
  pub none : (x : Label) → IsLabel (block_at bitmap 0) x → ⊥

-- it has the label of an import of a volume of so many blocks, with that stamp
abbrev pub IsImportLabel : ℕ → ℕ → Block → Type 0
IsImportLabel blocks stamp block = IsLabel block (bitmap_label true blocks stamp)

-- all of its bits are clear
pub record IsCleared (bitmap : Image) (blocks : ℕ) : Type 0 where
  pub each : (p : ℕ) → 4096 ≤ p → p < 4096 * import_blocks blocks → disk_bit bitmap p ≡ false

-- it is the bitmap of an import in which no segment was written
pub record IsNewBitmap (blocks stamp : ℕ) (bitmap : Image) : Type 0 where
  pub label : IsImportLabel blocks stamp (block_at bitmap 0)
  pub clear : IsCleared bitmap blocks

-- a stop leaves it as it was, or without a label, or new
abbrev pub StopsFormat : ℕ → ℕ → Image → Image → Type 0
StopsFormat blocks stamp old new = (new ≡ old) ⊎ (IsUnlabelled new ⊎ IsNewBitmap blocks stamp new)

-- the bitmap is formatted, by three writes
pub record Formats {T E : Type 0} (old : Seen) (blocks stamp : ℕ) (result : Result T E) (new : Seen) : Type 0 where
  pub goes : GoesOn old result new
  pub within : IsTold old → ChangesWithin 0 (import_blocks blocks) old.image new.image
  pub done : IsTold old → OnOk result (IsNewBitmap blocks stamp new.image)
  pub stopped : IsTold old → OnErr result (StopsFormat blocks stamp old.image new.image)
  pub counted : OnOk result (new.written ≡ counted old.written (import_blocks blocks + 1))
  pub most : OnErr result (new.written ≤ old.written + (import_blocks blocks + 1))

-- why there is no room for the bits: the disk is too small, or no memory was left
abbrev pub NoImportRoom : Seen → ℕ → Why → Type 0
NoImportRoom old blocks (Size need have) = (need ≡ import_blocks blocks) × (have ≡ old.size) × (old.size < import_blocks blocks)
NoImportRoom old blocks (BadRecord field) = ⊥
NoImportRoom old blocks NoMemory = import_blocks blocks ≤ old.size
NoImportRoom old blocks Fault = ⊥

-- or it is not, where the disk is too small or no memory was left, and then nothing is done
abbrev pub FormatsOrNot : {T : Type 0} → Seen → ℕ → ℕ → Result T Why → Seen → Type 0
FormatsOrNot old blocks stamp (Ok x) new = (import_blocks blocks ≤ old.size) × Formats {E = Why} old blocks stamp (Ok x) new
FormatsOrNot old blocks stamp (Err (Size need have)) new = NoImportRoom old blocks (Size need have) × (new ≡ old)
FormatsOrNot old blocks stamp (Err (BadRecord field)) new = ⊥
FormatsOrNot old blocks stamp (Err NoMemory) new = (import_blocks blocks ≤ old.size) × (new ≡ old)
FormatsOrNot {T} old blocks stamp (Err Fault) new = (import_blocks blocks ≤ old.size) × Formats {T = T} old blocks stamp (Err Fault) new

-- one block that stands for something is written to block 0
pub record WritesFirst {T E : Type 0} (Is : Block → Type 0) (old : Seen) (result : Result T E) (new : Seen) : Type 0 where
  pub block : Block
  pub is : Is block
  pub size : length block ≡ 512
  pub writes : Writes old 0 block result new

-- a block that is no label
pub record IsNoLabel (block : Block) : Type 0 where
  pub none : (x : Label) → IsLabel block x → ⊥

-- the bits behind block 0 are written, where there are some
pub record ClearsBits {T E : Type 0} (old : Seen) (count : ℕ) (result : Result T E) (new : Seen) : Type 0 where
  pub goes : GoesOn old result new
  pub within : IsTold old → ChangesWithin 1 count old.image new.image
  pub clear : IsTold old → OnOk result ((p : ℕ) → 4096 ≤ p → p < 4096 * (count + 1) → disk_bit new.image p ≡ false)
  pub counted : OnOk result (counted new.written 1 ≡ counted old.written (count + 1))
  pub most : new.written ≤ old.written + count
