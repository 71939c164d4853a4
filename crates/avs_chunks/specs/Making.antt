-- How a set is made on disks and found again, and why not.
use Rattle.std.specs.Prelude.{◌≡◌, ◌⊎◌, ℕ, ◌+◌, ◌*◌, ◌<◌, ◌≤◌, Bool, false, List, ◌∷◌, length, Option, Some, Result, OnOk, OnErr}
use Rattle.avs_seg.specs.Image.{Image, Block, block_at, put, blank, IsMix}
use Rattle.avs_seg.specs.Segment.{seg_count}
use Rattle.avs_seg.specs.Causes.{Rose}
use Rattle.avs_dev.specs.Seen.{Seen, IsTold, Lasts, IsSpared, Fails, GoesOn}
use Rattle.avs_dev.specs.Memory.{counted}
use Rattle.avs_dev.specs.declared.back.Why.{Why}
use Rattle.avs_dev.specs.declared.back.Why.TheVariants.{Size, BadRecord, NoMemory, Fault}
use Rattle.avs_code.specs.Label.{IsLabel, IsBadLabel, label_block}
use Rattle.avs_flip.specs.Areas.{Areas}
use Rattle.avs_model.specs.declared.shadow.Kind.{Kind}
use Rattle.avs_chunks.specs.States.{on_master, area_len, blocks_for, state_in, state_on}
use Rattle.avs_chunks.specs.ChunkSet.{ChunkSet, state_of, chunks_of, shadow_image, master_image, IsInStep, HasLabel, shadow_use, shadow_label}

-- the areas of a set of so many blocks on a disk: they lie behind the label
abbrev pub areas_on : Seen → ℕ → Bool → Areas
areas_on disk blocks live_b = record { disk = disk; first = 1; len = area_len (seg_count blocks); live_b = live_b }

-- the disks have room for a set of so many blocks
pub record Fits (shadow_disk : Option Seen) (bitmap_disk : Seen) (blocks : ℕ) : Type 0 where
  pub shadow : (d : Seen) → shadow_disk ≡ Some d → blocks ≤ d.size
  pub bitmap : blocks_for (seg_count blocks) ≤ bitmap_disk.size

-- the shadow's disk is too small
pub record IsSmallShadow (shadow : Option Seen) (blocks need have : ℕ) : Type 0 where
  pub disk : Seen
  pub there : shadow ≡ Some disk
  pub needs : need ≡ blocks
  pub has : have ≡ disk.size
  pub less : have < need

-- the shadow's disk is large enough where it is there, and the bitmap's disk is too small
pub record IsSmallBitmap (shadow : Option Seen) (bitmap : Seen) (blocks need have : ℕ) : Type 0 where
  pub fits : (d : Seen) → shadow ≡ Some d → blocks ≤ d.size
  pub needs : need ≡ blocks_for (seg_count blocks)
  pub has : have ≡ bitmap.size
  pub less : have < need

abbrev pub IsSmall : Option Seen → Seen → ℕ → ℕ → ℕ → Type 0
IsSmall shadow bitmap blocks need have = IsSmallShadow shadow blocks need have ⊎ IsSmallBitmap shadow bitmap blocks need have

-- the label and both areas of a new set
abbrev pub formatted : ℕ → Image
formatted blocks = label_block (shadow_label blocks) ∷ blank (2 * area_len (seg_count blocks))

-- a set of a kind and so many blocks stands on these disks, with one of both areas live
pub record StandsOn (kind : Kind) (shadow : Option Seen) (bitmap : Seen) (blocks : ℕ) (live_b : Bool) (new : ChunkSet) : Type 0 where
  pub is : new ≡ record { kind = kind; shadow = shadow; areas = areas_on bitmap blocks live_b; memory = new.memory; next = new.next; blocks = blocks }
  pub kind_is : new.kind ≡ kind
  pub blocks_is : new.blocks ≡ blocks
  pub shadow_same : new.shadow ≡ shadow

-- the label and both areas were written on a disk, which has not failed
pub record IsFormatted (old : Seen) (blocks : ℕ) (new : Seen) : Type 0 where
  pub lasts : Lasts old new
  pub spared : IsSpared old new
  pub counted : new.written ≡ counted old.written (blocks_for (seg_count blocks))
  pub written : IsTold old → new.image ≡ put old.image 0 (formatted blocks)

-- both images are that of the master's disk
pub record ShowsMaster (s : ChunkSet) (m : Image) : Type 0 where
  pub shadow : shadow_image s m ≡ m
  pub master : master_image s m ≡ m

-- A new set: the label and both areas are written, and nothing of the shadow is. Each chunk stands on the master
-- alone, so both images are the master's.
pub record Makes (kind : Kind) (shadow bitmap : Seen) (blocks : ℕ) (new : ChunkSet) : Type 0 where
  pub stands : StandsOn kind (Some shadow) new.areas.disk blocks false new
  pub fits : Fits (Some shadow) bitmap blocks
  pub bitmap_is : IsFormatted bitmap blocks new.areas.disk
  pub label : IsTold bitmap → HasLabel new
  pub states : (c : ℕ) → c < chunks_of new → state_of new c ≡ on_master
  pub step : IsTold bitmap → IsInStep new
  pub images : IsTold bitmap → (m : Image) → length m ≡ blocks → ShowsMaster new m

-- the label is written before the areas: it stands, or no block behind it has changed
abbrev pub IsLabelFirst : Image → ℕ → Image → Type 0
IsLabelFirst old blocks new = (block_at new 0 ≡ label_block (shadow_label blocks)) ⊎ ((i : ℕ) → 0 < i → block_at new i ≡ block_at old i)

-- the bitmap's disk failed while it was formatted
pub record FailsFormat (old : Seen) (blocks : ℕ) (new : Seen) : Type 0 where
  pub lasts : Lasts old new
  pub fails : Fails old new
  pub mix : IsTold old → IsMix old.image 0 (formatted blocks) new.image
  pub label_first : IsTold old → IsLabelFirst old.image blocks new.image
  pub counted : new.written ≤ old.written + blocks_for (seg_count blocks)

-- why no set was made of these disks, and what they are then
abbrev pub MakeRefused : Seen → Seen → ℕ → Why → Seen → Seen → Type 0
MakeRefused shadow bitmap blocks (Size need have) shadow_new bitmap_new = IsSmall (Some shadow) bitmap blocks need have × ((shadow_new ≡ shadow) × (bitmap_new ≡ bitmap))
MakeRefused shadow bitmap blocks (BadRecord field) shadow_new bitmap_new = ⊥
MakeRefused shadow bitmap blocks NoMemory shadow_new bitmap_new = (shadow_new ≡ shadow) × (bitmap_new ≡ bitmap)
MakeRefused shadow bitmap blocks Fault shadow_new bitmap_new = Fits (Some shadow) bitmap blocks × ((shadow_new ≡ shadow) × FailsFormat bitmap blocks bitmap_new)

-- a block is not the label of such a set, and this is the first field that tells so
pub record IsNotLabel (block : Block) (blocks field : ℕ) : Type 0 where
  pub bad : IsBadLabel block (shadow_use blocks) field
  pub other : IsLabel block (shadow_label blocks) → ⊥

-- a set that is found on disks: nothing of them changes
pub record Loads (kind : Kind) (shadow : Option Seen) (bitmap : Seen) (blocks : ℕ) (live_b : Bool) (new : ChunkSet) : Type 0 where
  pub stands : StandsOn kind shadow bitmap blocks live_b new
  pub fits : Fits shadow bitmap blocks
  pub label : IsTold bitmap → HasLabel new
  pub step : IsTold bitmap → IsInStep new

-- a read failed: nothing changes but the count of faults
pub record FailsRead (old new : Seen) : Type 0 where
  pub rest : new ≡ record old { faults = new.faults }
  pub rose : Rose old.faults new.faults
  pub unsteady : old.steady ≡ false

-- why no set was found on these disks: nothing changes but the count of faults where the bitmap's failed
abbrev pub LoadRefused : Option Seen → Seen → ℕ → Why → Seen → Type 0
LoadRefused shadow bitmap blocks (Size need have) bitmap_new = IsSmall shadow bitmap blocks need have × (bitmap_new ≡ bitmap)
LoadRefused shadow bitmap blocks (BadRecord field) bitmap_new = Fits shadow bitmap blocks × ((IsTold bitmap → IsNotLabel (block_at bitmap.image 0) blocks field) × (bitmap_new ≡ bitmap))
LoadRefused shadow bitmap blocks NoMemory bitmap_new = bitmap_new ≡ bitmap
LoadRefused shadow bitmap blocks Fault bitmap_new = Fits shadow bitmap blocks × (FailsRead bitmap bitmap_new)

-- disks with so many blocks have room for a set
pub record HaveRoom (shadow_size : Option ℕ) (bitmap_size blocks : ℕ) : Type 0 where
  pub shadow : (n : ℕ) → shadow_size ≡ Some n → blocks ≤ n
  pub bitmap : blocks_for (seg_count blocks) ≤ bitmap_size

-- the shadow's disk has too few blocks, or the bitmap's has
pub record LacksShadow (shadow_size : Option ℕ) (blocks need have : ℕ) : Type 0 where
  pub there : shadow_size ≡ Some have
  pub needs : need ≡ blocks
  pub less : have < need

pub record LacksBitmap (shadow_size : Option ℕ) (bitmap_size blocks need have : ℕ) : Type 0 where
  pub shadow : (n : ℕ) → shadow_size ≡ Some n → blocks ≤ n
  pub needs : need ≡ blocks_for (seg_count blocks)
  pub has : have ≡ bitmap_size
  pub less : have < need

-- why there is no room
abbrev pub RoomRefused : Option ℕ → ℕ → ℕ → Why → Type 0
RoomRefused shadow bitmap blocks (Size need have) = LacksShadow shadow blocks need have ⊎ LacksBitmap shadow bitmap blocks need have
RoomRefused shadow bitmap blocks (BadRecord field) = ⊥
RoomRefused shadow bitmap blocks NoMemory = Unit {0}
RoomRefused shadow bitmap blocks Fault = ⊥

-- the label and both areas of a set are written
pub record Formats {T E : Type 0} (old : Seen) (blocks : ℕ) (result : Result T E) (new : Seen) : Type 0 where
  pub goes : GoesOn old result new
  pub counted : OnOk result (new.written ≡ counted old.written (blocks_for (seg_count blocks)))
  pub most : new.written ≤ old.written + blocks_for (seg_count blocks)
  pub done : IsTold old → OnOk result (new.image ≡ put old.image 0 (formatted blocks))
  pub stopped : IsTold old → OnErr result (IsMix old.image 0 (formatted blocks) new.image)
  pub label_first : IsTold old → OnErr result (IsLabelFirst old.image blocks new.image)

-- why the label or the states were not read
abbrev pub ReadRefused : Seen → ℕ → Why → Seen → Type 0
ReadRefused old blocks (Size need have) new = ⊥
ReadRefused old blocks (BadRecord field) new = (IsTold old → IsNotLabel (block_at old.image 0) blocks field) × (new ≡ old)
ReadRefused old blocks NoMemory new = ⊥
ReadRefused old blocks Fault new = FailsRead old new

-- the states in memory are those of an area
pub record HasArea (area : Image) (chunks : ℕ) (memory : List ℕ) : Type 0 where
  pub each : (c : ℕ) → c < chunks → state_in memory c ≡ state_on area c

-- why no set was found
abbrev pub StatesRefused : Option ℕ → Seen → ℕ → Why → Seen → Type 0
StatesRefused shadow old blocks (Size need have) new = (LacksShadow shadow blocks need have ⊎ LacksBitmap shadow old.size blocks need have) × (new ≡ old)
StatesRefused shadow old blocks (BadRecord field) new = HaveRoom shadow old.size blocks × ((IsTold old → IsNotLabel (block_at old.image 0) blocks field) × (new ≡ old))
StatesRefused shadow old blocks NoMemory new = new ≡ old
StatesRefused shadow old blocks Fault new = HaveRoom shadow old.size blocks × FailsRead old new
