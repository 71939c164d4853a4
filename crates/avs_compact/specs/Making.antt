-- How a set is made on disks and found again, and why not.
use Rattle.std.specs.Prelude.{◌≡◌, ℕ, ◌+◌, ◌≤◌, Bool, false, length, Option, None, Some}
use Rattle.avs_seg.specs.Image.{Image, put, IsMix}
use Rattle.avs_seg.specs.Segment.{seg_count}
use Rattle.avs_dev.specs.Seen.{Seen, IsTold, Lasts, IsSpared, Fails}
use Rattle.avs_dev.specs.Memory.{counted}
use Rattle.avs_dev.specs.declared.back.Why.{Why}
use Rattle.avs_dev.specs.declared.back.Why.TheVariants.{Size, BadRecord, NoMemory, Fault}
use Rattle.avs_over.specs.Over.{OverSet}
use Rattle.avs_entries.specs.Entries.{blocks_for}
use Rattle.avs_entries.specs.Slots.{AreEntries}
use Rattle.avs_entries.specs.Bitmap.{areas_on, Fits, IsSmall, formatted, IsLabelFirst}
use Rattle.avs_compact.specs.CompactSet.{CompactSet, entry_of, disk_entry, chunks_of, own_slots, shadow_image, master_image, IsInStep, HasLabel}
use Rattle.avs_compact.specs.Keeping.{OwnFirst, UsesOwnFirst}

-- the own slots of a set whose shadow's disk may be there
abbrev pub own_of : Option Seen → ℕ
own_of None = 0
own_of (Some d) = own_slots d.size

-- a bitmap's disk once the label and both areas of a set were written
pub record IsFormatted (old : Seen) (blocks : ℕ) (new : Seen) : Type 0 where
  pub lasts : Lasts old new
  pub spared : IsSpared old new
  pub counted : new.written ≡ counted old.written (blocks_for (seg_count blocks))

-- A new set: the label and both areas are written, and nothing of the shadow is. No chunk has a slot, so both images are the
-- master's.
pub record Makes (set : ℕ) (shadow bitmap : Seen) (blocks : ℕ) (new : CompactSet) : Type 0 where
  pub is : new ≡ record { set = set; own = own_slots shadow.size; shadow = Some shadow; areas = areas_on new.areas.disk blocks false; memory = new.memory; next = new.next; blocks = blocks; low = 0; ahead = 0 }
  pub fits : Fits bitmap.size blocks
  pub written : IsFormatted bitmap blocks new.areas.disk
  pub on_disk : IsTold bitmap → HasLabel new × (new.areas.disk.image ≡ put bitmap.image 0 (formatted blocks))
  pub entries : (c : ℕ) → entry_of new c ≡ 0
  pub step : IsTold bitmap → IsInStep new
  pub images : IsTold bitmap → (o : OverSet) (m : Image) → length m ≡ blocks → (shadow_image new o m ≡ m) × (master_image new o m ≡ m)

-- the bitmap's disk failed while it was formatted
pub record FailsFormat (old : Seen) (blocks : ℕ) (new : Seen) : Type 0 where
  pub lasts : Lasts old new
  pub fails : Fails old new
  pub mix : IsTold old → IsMix old.image 0 (formatted blocks) new.image
  pub label_first : IsTold old → IsLabelFirst old.image blocks new.image
  pub counted : new.written ≤ old.written + blocks_for (seg_count blocks)

-- why no set was made, and what the bitmap's disk is then
abbrev pub MakeRefused : Seen → ℕ → Why → Seen → Type 0
MakeRefused bitmap blocks (Size need have) bitmap_new = IsSmall bitmap.size blocks need have × (bitmap_new ≡ bitmap)
MakeRefused bitmap blocks (BadRecord field) bitmap_new = ⊥
MakeRefused bitmap blocks NoMemory bitmap_new = bitmap_new ≡ bitmap
MakeRefused bitmap blocks Fault bitmap_new = Fits bitmap.size blocks × FailsFormat bitmap blocks bitmap_new

-- A set that is found on disks: nothing of them changes. It uses own slots first where the entries on the disk do.
pub record Loads (set : ℕ) (shadow : Option Seen) (bitmap : Seen) (blocks : ℕ) (live_b : Bool) (new : CompactSet) : Type 0 where
  pub is : new ≡ record { set = set; own = own_of shadow; shadow = shadow; areas = areas_on bitmap blocks live_b; memory = new.memory; next = new.next; blocks = blocks; low = 0; ahead = 0 }
  pub fits : Fits bitmap.size blocks
  pub label : IsTold bitmap → HasLabel new
  pub entries : AreEntries (entry_of new) new.own (chunks_of new)
  pub step : IsTold bitmap → IsInStep new
  pub own_first : IsTold bitmap → OwnFirst (disk_entry new) new.own (chunks_of new) 0 → UsesOwnFirst new
