-- A set of segments: what its disk holds, and what each call makes of it.
use Rattle.std.specs.Prelude.{◌≡◌, ◌⊎◌, ℕ, ◌+◌, ◌-◌, ◌*◌, ◌/◌, ◌<◌, ◌≤◌, min, ◌==◌, ◌&&◌, nat_lt, Bool, true, false, not, IsTrue, List, length, ◌^◌, if◌then◌else◌, Option, Some, None, Result, OnOk, OnErr, IsOk}
use Rattle.avs_seg.specs.Image.{Image, block_at, blocks_of, IsMix, ChangesWithin, is_inside}
use Rattle.avs_seg.specs.Segment.{seg_count}
use Rattle.avs_seg.specs.Causes.{HasCause, Rose}
use Rattle.avs_dev.specs.Seen.{Seen, IsTold, UsesTear, GoesOn, with_tear}
use Rattle.avs_dev.specs.declared.disk.Tear.{Tear}
use Rattle.avs_dev.specs.declared.back.Why.{Why}
use Rattle.avs_dev.specs.declared.back.Why.TheVariants.{Size, BadRecord, NoMemory, Fault}
use Rattle.avs_code.specs.Label.{IsLabel, IsBadLabel, label_for}
use Rattle.avs_code.specs.declared.labels.Label.{Label}
use Rattle.avs_code.specs.declared.labels.LabelUse.{LabelUse}
use Rattle.avs_bits.specs.Bit.{bit_of, disk_bit, IsPut, is_due, due_below, due_count, raised, IsPart}

-- the bits of segments lie behind the block of the label
abbrev pub place : ℕ → ℕ
place seg = 4096 + seg

-- the label and the bits of so many segments have so many blocks
abbrev pub blocks_for : ℕ → ℕ
blocks_for segs = 1 + (segs + 4095) / 4096

-- a set of segments: its disk, the label and the bits in memory, how many segments there are, and the stamp of the label
pub record BitSet : Type 0 where
  pub disk : Seen
  pub bytes : List ℕ
  pub segs : ℕ
  pub stamp : ℕ

-- whether a segment is in the set
abbrev pub set_of : BitSet → ℕ → Bool
set_of b seg = bit_of b.bytes (place seg)

-- a disk holds this set of so many segments
pub record IsOnDisk (img : Image) (segs : ℕ) (set : ℕ → Bool) : Type 0 where
  pub each : (s : ℕ) → s < segs → disk_bit img (place s) ≡ set s

-- the disk of a set holds it
abbrev pub IsInStep : BitSet → Type 0
IsInStep b = IsOnDisk b.disk.image b.segs (set_of b)

-- a disk holds the set that is had by a change of segments, from `first` up to `end`, to what `on` says
pub record IsChangedOnDisk (old : ℕ → Bool) (first end : ℕ) (on : Bool) (img : Image) (segs : ℕ) : Type 0 where
  pub set : ℕ → Bool
  pub put : IsPut old set first end on
  pub held : IsOnDisk img segs set

-- a change stopped at block k of the bits, which had to change: in memory it was made up to the end of that block, and
-- the blocks below it were written where they changed. A disk that was in step holds the change up to the beginning of
-- the block, or up to its end
pub record StopsIn (old : BitSet) (first end : ℕ) (on : Bool) (new : BitSet) : Type 0 where
  pub block : ℕ
  pub due : is_due (set_of old) first end on block ≡ true
  pub set : IsPut (set_of old) (set_of new) first (min (4096 * (block + 1)) end) on
  pub written : new.disk.written ≡ raised old.disk.written (due_below (set_of old) first end on block)
  pub disk : IsTold old.disk → IsInStep old → IsChangedOnDisk (set_of old) first (min (4096 * block) end) on new.disk.image old.segs ⊎ IsInStep new

-- a disk holds a set of which some of these segments are as `on` says, and the others as before
pub record HoldsPart (keys : ℕ → Bool) (on : Bool) (old : ℕ → Bool) (img : Image) (segs : ℕ) : Type 0 where
  pub set : ℕ → Bool
  pub part : IsPart keys on old set
  pub held : IsOnDisk img segs set

-- Done or stopped, of the segments from `first` up to `end` some are as `on` says, and the others are as before: in memory,
-- and on a disk that was in step.
pub record LeavesPart (old : BitSet) (first end : ℕ) (on : Bool) (new : BitSet) : Type 0 where
  pub memory : IsPart (is_inside first (end - first)) on (set_of old) (set_of new)
  pub disk : IsTold old.disk → IsInStep old → HoldsPart (is_inside first (end - first)) on (set_of old) new.disk.image old.segs

-- nothing was done, and the answer is Ok
pub record IsIdle {T E : Type 0} (old : BitSet) (result : Result T E) (new : BitSet) : Type 0 where
  pub answer : IsOk result
  pub kept : new ≡ old

-- the bits of a disk behind the last segment, as far as their block goes, are zeros
pub record IsZeroBehind (img : Image) (segs : ℕ) : Type 0 where
  pub each : (p : ℕ) → place segs ≤ p → p < 4096 * blocks_for segs → disk_bit img p ≡ false

-- the segments from `first` up to `end` become as `on` says, and of the blocks of their bits those are written in which
-- one was not
pub record Changes {T E : Type 0} (old : BitSet) (first end : ℕ) (on : Bool) (result : Result T E) (new : BitSet) : Type 0 where
  pub segs : new.segs ≡ old.segs
  pub stamp : new.stamp ≡ old.stamp
  pub size : new.disk.size ≡ old.disk.size
  pub steady : new.disk.steady ≡ old.disk.steady
  pub cause : HasCause old.disk.faults new.disk.faults result
  pub told : IsTold old.disk → IsTold new.disk
  pub within : IsTold old.disk → ChangesWithin (place first / 4096) ((place end + 4095) / 4096 - place first / 4096) old.disk.image new.disk.image
  pub label : IsTold old.disk → block_at new.disk.image 0 ≡ block_at old.disk.image 0
  pub still : IsTold old.disk → (k : ℕ) → is_due (set_of old) first end on k ≡ false → block_at new.disk.image (k + 1) ≡ block_at old.disk.image (k + 1)
  pub zeros : IsTold old.disk → IsInStep old → IsZeroBehind old.disk.image old.segs → IsZeroBehind new.disk.image old.segs
  pub only : (s : ℕ) → (s < first) ⊎ (end ≤ s) → set_of new s ≡ set_of old s
  pub set : OnOk result (IsPut (set_of old) (set_of new) first end on)
  pub written : OnOk result (new.disk.written ≡ raised old.disk.written (due_count (set_of old) first end on))
  pub still_armed : OnOk result (new.disk.armed ≡ old.disk.armed)
  pub done : IsTold old.disk → IsInStep old → OnOk result (IsInStep new)
  pub stopped : OnErr result (StopsIn old first end on new)
  pub spent : IsTrue old.disk.steady → OnErr result (UsesTear old.disk new.disk)
  pub idle : ((s : ℕ) → first ≤ s → s < end → set_of old s ≡ on) → IsIdle old result new
  pub goes : GoesOn old.disk result new.disk
  pub part : LeavesPart old first end on new

-- a disk that is too small is refused before anything is done
pub record IsSmall (old : Seen) (segs need have : ℕ) (new : Seen) : Type 0 where
  pub needs : need ≡ blocks_for segs
  pub has : have ≡ old.size
  pub less : have < need
  pub kept : new ≡ old

-- what the label of an import bitmap, or of a mirror bitmap, says of a volume of so many blocks
abbrev pub bitmap_use : Bool → ℕ → LabelUse
bitmap_use import blocks = record { kind = if import then 9 else 4; blocks = blocks; segments = seg_count blocks }

-- the label of such a bitmap
abbrev pub bitmap_label : Bool → ℕ → ℕ → Label
bitmap_label import blocks stamp = label_for (bitmap_use import blocks) stamp

-- the bits behind the last segment are zeros
pub record IsClean (bytes : List ℕ) (segs : ℕ) : Type 0 where
  pub each : (p : ℕ) → place segs ≤ p → bit_of bytes p ≡ false

-- the bytes of a new set: its label, behind it the bits of every segment or none, and zeros
pub record AreNew (bytes : List ℕ) (blocks : ℕ) (full : Bool) (stamp : ℕ) : Type 0 where
  pub len : length bytes ≡ 512 * blocks_for (seg_count blocks)
  pub label : IsLabel (block_at (blocks_of bytes) 0) (bitmap_label (nat_lt 0 stamp) blocks stamp)
  pub set : (s : ℕ) → s < seg_count blocks → bit_of bytes (place s) ≡ full
  pub clean : IsClean bytes (seg_count blocks)

-- the blocks of a new set were not all written: each of them is old or new
pub record IsMadeInPart (old : Seen) (blocks : ℕ) (full : Bool) (stamp : ℕ) (new : Seen) : Type 0 where
  pub fits : blocks_for (seg_count blocks) ≤ old.size
  pub later : old.faults ≤ new.faults
  pub rose : Rose old.faults new.faults
  pub size : new.size ≡ old.size
  pub steady : new.steady ≡ old.steady
  pub written : new.written ≡ old.written
  pub told : IsTold old → IsTold new
  pub bytes : List ℕ
  pub are_new : AreNew bytes blocks full stamp
  pub torn : IsTold old → IsMix old.image 0 (blocks_of bytes) new.image
  pub spent : IsTrue old.steady → UsesTear old new

-- no memory was left for a set, for which the disk has room
pub record IsUnmade (old : Seen) (segs : ℕ) (new : Seen) : Type 0 where
  pub fits : blocks_for segs ≤ old.size
  pub kept : new ≡ old

-- why there is no room for a set
abbrev pub NoRoom : Seen → ℕ → Why → Seen → Type 0
NoRoom old segs (Size need have) new = IsSmall old segs need have new
NoRoom old segs (BadRecord field) new = ⊥
NoRoom old segs NoMemory new = IsUnmade old segs new
NoRoom old segs Fault new = ⊥

-- why no set was made, and what stands then: Size exactly where the disk is too small
abbrev pub MakeRefused : Seen → ℕ → Bool → ℕ → Why → Seen → Type 0
MakeRefused old blocks full stamp (Size need have) new = IsSmall old (seg_count blocks) need have new
MakeRefused old blocks full stamp (BadRecord field) new = ⊥
MakeRefused old blocks full stamp NoMemory new = IsUnmade old (seg_count blocks) new
MakeRefused old blocks full stamp Fault new = IsMadeInPart old blocks full stamp new

-- the label on the disk is not that of such a bitmap
pub record IsMislabelled (old : Seen) (import : Bool) (blocks field : ℕ) (new : Seen) : Type 0 where
  pub fits : blocks_for (seg_count blocks) ≤ old.size
  pub later : old.faults ≤ new.faults
  pub bad : IsTold old → IsBadLabel (block_at old.image 0) (bitmap_use import blocks) field
  pub none : IsTold old → (stamp : ℕ) → IsLabel (block_at old.image 0) (bitmap_label import blocks stamp) → ⊥
  pub kept : new ≡ old

-- the label and the bits were not all read
pub record IsUnread (old : Seen) (segs : ℕ) (new : Seen) : Type 0 where
  pub fits : blocks_for segs ≤ old.size
  pub later : old.faults ≤ new.faults
  pub rose : Rose old.faults new.faults
  pub unsteady : IsTrue (not old.steady)

-- why no set was loaded: Size exactly where the disk is too small
abbrev pub LoadRefused : Seen → Bool → ℕ → Why → Seen → Type 0
LoadRefused old import blocks (Size need have) new = IsSmall old (seg_count blocks) need have new
LoadRefused old import blocks (BadRecord field) new = IsMislabelled old import blocks field new
LoadRefused old import blocks NoMemory new = IsUnmade old (seg_count blocks) new
LoadRefused old import blocks Fault new = IsUnread old (seg_count blocks) new

-- exactly this tear is armed, exactly on the disk with number 0, and where it lets one be armed; where none is, nothing
-- changes
pub record ArmsDisk (old : BitSet) (disk : ℕ) (tear : Tear) (result : Bool) (new : BitSet) : Type 0 where
  pub answer : result ≡ ((disk == 0) && old.disk.arms)
  pub armed : IsTrue result → new ≡ record old { disk = with_tear tear old.disk }
  pub unarmed : IsTrue (not result) → new ≡ old
  pub sure : disk ≡ 0 → IsTrue old.disk.steady → IsTrue result

-- the blocks written on a disk, whose number is 0
abbrev pub written_of : BitSet → ℕ → Option ℕ
written_of b disk = if disk == 0 then Some b.disk.written else None

-- what the memory of a set keeps
pub record IsKept (bytes : List ℕ) (segs size : ℕ) : Type 0 where
  pub len : length bytes ≡ 512 * blocks_for segs
  pub fits : blocks_for segs ≤ size
  pub small : segs ≤ 2 ^ 26
  pub clean : IsClean bytes segs
