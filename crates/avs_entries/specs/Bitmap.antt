-- The disk of a bitmap: its label, and two areas of entries behind it. How they are written and read, and why not.
use Rattle.std.specs.Prelude.{◌≡◌, ℕ, ◌+◌, ◌*◌, ◌<◌, Bool, false, List, ◌⊎◌, ◌≤◌, ◌∷◌, Result, OnOk, OnErr}
use Rattle.avs_seg.specs.Image.{Block, Image, block_at, put, blank, IsMix}
use Rattle.avs_seg.specs.Segment.{seg_count}
use Rattle.avs_dev.specs.Seen.{Seen, IsTold, GoesOn}
use Rattle.avs_flip.specs.Areas.{Areas, live}
use Rattle.avs_code.specs.Label.{IsLabel, label_for, IsBadLabel, label_block}
use Rattle.avs_code.specs.declared.labels.Label.{Label}
use Rattle.avs_code.specs.declared.labels.LabelUse.{LabelUse}
use Rattle.avs_seg.specs.Causes.{Rose}
use Rattle.avs_dev.specs.Memory.{counted}
use Rattle.avs_dev.specs.declared.back.Why.{Why}
use Rattle.avs_dev.specs.declared.back.Why.TheVariants.{Size, BadRecord, NoMemory, Fault}
use Rattle.avs_entries.specs.Entries.{entry_in, entry_on, area_len, blocks_for}
use Rattle.avs_entries.specs.Slots.{HasBadEntry}

-- what a bitmap serves as that has the entries of a set of so many blocks
abbrev pub compact_use : ℕ → LabelUse
compact_use blocks = record { kind = 6; blocks = blocks; segments = seg_count blocks }

-- its label
abbrev pub compact_label : ℕ → Label
compact_label blocks = label_for (compact_use blocks) 0

-- the areas of a set of so many blocks on a disk: they lie behind the label
abbrev pub areas_on : Seen → ℕ → Bool → Areas
areas_on disk blocks live_b = record { disk = disk; first = 1; len = area_len (seg_count blocks); live_b = live_b }

-- a bitmap's disk of so many blocks has room for a set
abbrev pub Fits : ℕ → ℕ → Type 0
Fits size blocks = blocks_for (seg_count blocks) ≤ size

-- it has not
pub record IsSmall (size blocks need have : ℕ) : Type 0 where
  pub needs : need ≡ blocks_for (seg_count blocks)
  pub has : have ≡ size
  pub less : have < need

-- the label and both areas of a new set
abbrev pub formatted : ℕ → Image
formatted blocks = label_block (compact_label blocks) ∷ blank (2 * area_len (seg_count blocks))

-- the label is written before the areas: it stands, or no block behind it has changed
abbrev pub IsLabelFirst : Image → ℕ → Image → Type 0
IsLabelFirst old blocks new = (block_at new 0 ≡ label_block (compact_label blocks)) ⊎ ((i : ℕ) → 0 < i → block_at new i ≡ block_at old i)

-- a block is not the label of such a set, and this is the first field that tells so
pub record IsNotLabel (block : Block) (blocks field : ℕ) : Type 0 where
  pub bad : IsBadLabel block (compact_use blocks) field
  pub other : IsLabel block (compact_label blocks) → ⊥

-- The first of these rules is broken: the label is that of the set, and its entries keep their form.
abbrev pub IsBadBitmap : Image → Image → ℕ → ℕ → ℕ → Type 0
IsBadBitmap image area own blocks field = IsNotLabel (block_at image 0) blocks field
    ⊎ (IsLabel (block_at image 0) (compact_label blocks) × (HasBadEntry (entry_on area) own (seg_count blocks) × (field ≡ 64)))

-- a read failed: nothing changes but the count of faults
pub record FailsRead (old new : Seen) : Type 0 where
  pub rest : new ≡ record old { faults = new.faults }
  pub rose : Rose old.faults new.faults
  pub unsteady : old.steady ≡ false

-- why no set was found, and what the bitmap's disk is then
abbrev pub LoadRefused : ℕ → Seen → ℕ → Bool → Why → Seen → Type 0
LoadRefused own bitmap blocks live_b (Size need have) bitmap_new = IsSmall bitmap.size blocks need have × (bitmap_new ≡ bitmap)
LoadRefused own bitmap blocks live_b (BadRecord field) bitmap_new = Fits bitmap.size blocks × ((bitmap_new ≡ bitmap) × (IsTold bitmap → IsBadBitmap bitmap.image (live (areas_on bitmap blocks live_b)) own blocks field))
LoadRefused own bitmap blocks live_b NoMemory bitmap_new = bitmap_new ≡ bitmap
LoadRefused own bitmap blocks live_b Fault bitmap_new = Fits bitmap.size blocks × FailsRead bitmap bitmap_new

-- why there is no room for a set
abbrev pub RoomRefused : ℕ → ℕ → Why → Type 0
RoomRefused size blocks (Size need have) = IsSmall size blocks need have
RoomRefused size blocks (BadRecord field) = ⊥
RoomRefused size blocks NoMemory = Unit {0}
RoomRefused size blocks Fault = ⊥

-- the label and both areas of a set are written
pub record Formats {T E : Type 0} (old : Seen) (blocks : ℕ) (result : Result T E) (new : Seen) : Type 0 where
  pub goes : GoesOn old result new
  pub counted : OnOk result (new.written ≡ counted old.written (blocks_for (seg_count blocks)))
  pub most : new.written ≤ old.written + blocks_for (seg_count blocks)
  pub done : IsTold old → OnOk result (new.image ≡ put old.image 0 (formatted blocks))
  pub stopped : IsTold old → OnErr result (IsMix old.image 0 (formatted blocks) new.image)
  pub label_first : IsTold old → OnErr result (IsLabelFirst old.image blocks new.image)

-- why the label was not read
abbrev pub ReadRefused : Seen → ℕ → Why → Seen → Type 0
ReadRefused old blocks (Size need have) new = ⊥
ReadRefused old blocks (BadRecord field) new = (new ≡ old) × (IsTold old → IsNotLabel (block_at old.image 0) blocks field)
ReadRefused old blocks NoMemory new = ⊥
ReadRefused old blocks Fault new = FailsRead old new

-- the entries in memory are those of an area
pub record HasArea (area : Image) (chunks : ℕ) (memory : List ℕ) : Type 0 where
  pub each : (c : ℕ) → c < chunks → entry_in memory c ≡ entry_on area c
