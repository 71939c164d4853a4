-- The state disk of a group, and what each call makes of it.
use Rattle.std.specs.Prelude.{◌≡◌, ◌⊎◌, ℕ, ◌<◌, ◌≤◌, ◌==◌, Bool, not, IsTrue, if◌then◌else◌, List, [], ◌∷◌, replicate, Option, None, Some, Result, Ok, Err, OnOk, OnErr}
use Rattle.avs_seg.specs.Causes.{Rose}
use Rattle.avs_seg.specs.declared.fault.Failed.{Failed}
use Rattle.avs_seg.specs.Image.{block_at, blocks_of}
use Rattle.avs_dev.specs.Seen.{Seen, IsTold, GoesOn, Writes, with_tear}
use Rattle.avs_dev.specs.Memory.{counted}
use Rattle.avs_dev.specs.declared.disk.Tear.{Tear}
use Rattle.avs_dev.specs.declared.back.Why.{Why}
use Rattle.avs_dev.specs.declared.back.Why.TheVariants.{Size, BadRecord, NoMemory, Fault}
use Rattle.avs_code.specs.Label.{IsLabel, IsBadLabel, label_for, label_block}
use Rattle.avs_code.specs.Slot.{no_slot}
use Rattle.avs_code.specs.Rules.{first_broken}
use Rattle.avs_code.specs.GroupBlock.{GroupBlockKeeps, GroupBlockFits, IsGroupBlock, group_block, group_block_at, group_block_rules}
use Rattle.avs_code.specs.declared.labels.Label.{Label}
use Rattle.avs_code.specs.declared.labels.LabelUse.{LabelUse}
use Rattle.avs_code.specs.declared.group_blocks.GroupBlock.{GroupBlock}
use Rattle.avs_model.specs.GroupStates.{next_sequence}
use Rattle.avs_state.specs.Saying.{says_of, said_on}

-- a state disk: the disk, and its block in memory
pub record StateSeen : Type 0 where
  pub disk : Seen
  pub block : GroupBlock

-- what it keeps, whatever fails
pub record IsKept (s : StateSeen) : Type 0 where
  pub room : 64 ≤ s.disk.size
  pub keeps : GroupBlockKeeps s.block
  pub fits : GroupBlockFits s.block

-- how many blocks it has at least
abbrev pub state_blocks : ℕ
state_blocks = 64

-- what its label says that it serves as, and the label
abbrev pub state_use : LabelUse
state_use = record { kind = 2; blocks = 0; segments = 0 }

abbrev pub state_label : Label
state_label = label_for state_use 0

-- the block of a new group: no set, and a note of zeros
abbrev pub empty_block : GroupBlock
empty_block = record { version = 1; sequence = 0; slots = replicate 16 no_slot; note = replicate 64 0 }

-- the disk tells its blocks, the first is the label, and the second is a block of a group
pub record IsStateDisk (disk : Seen) : Type 0 where
  pub told : IsTold disk
  pub label : IsLabel (block_at disk.image 0) state_label
  pub block : IsGroupBlock (block_at disk.image 1) (group_block_at (block_at disk.image 1))

-- the memory repeats what is on the disk
abbrev pub IsInStep : StateSeen → Type 0
IsInStep s = said_on s.disk ≡ says_of s.block

-- ---- making

-- the label and the block of a new group are written by one write
pub record Formats {T E : Type 0} (old : Seen) (result : Result T E) (new : Seen) : Type 0 where
  pub bytes : List ℕ
  pub blocks : blocks_of bytes ≡ label_block state_label ∷ group_block empty_block ∷ []
  pub writes : Writes old 0 bytes result new

pub record Makes (old : Seen) (new : StateSeen) : Type 0 where
  pub wrote : Formats {T = Unit {0}} {E = Failed} old (Ok tt) new.disk
  pub block : new.block ≡ empty_block
  pub state : IsTold old → IsStateDisk new.disk
  pub step : IsTold old → IsInStep new

-- the write failed
pub record IsNotMade (old : Seen) (why : Why) (new : Seen) : Type 0 where
  pub answer : why ≡ Fault
  pub failed : Formats {T = Unit {0}} {E = Failed} old (Err (record {})) new

-- ---- finding

-- it is found on a disk, of which nothing changes
pub record Loads (old : Seen) (new : StateSeen) : Type 0 where
  pub kept : new.disk ≡ old
  pub room : state_blocks ≤ old.size
  pub state : IsTold old → IsStateDisk old
  pub step : IsTold old → IsInStep new

-- The first rule that breaks: the disk has its blocks, the first is the label, the second a block of a group.
pub record IsSmall (disk : Seen) (field : ℕ) : Type 0 where
  pub less : disk.size < state_blocks
  pub between : field ≡ 64

pub record IsOtherwise (disk : Seen) (field : ℕ) : Type 0 where
  pub room : state_blocks ≤ disk.size
  pub label : IsTold disk → IsBadLabel (block_at disk.image 0) state_use field

pub record IsBadBlock (disk : Seen) (field : ℕ) : Type 0 where
  pub room : state_blocks ≤ disk.size
  pub label : IsTold disk → IsLabel (block_at disk.image 0) state_label
  pub broken : IsTold disk → first_broken (group_block_rules (block_at disk.image 1)) ≡ Some field

abbrev pub IsBadState : Seen → ℕ → Type 0
IsBadState disk field = IsSmall disk field ⊎ (IsOtherwise disk field ⊎ IsBadBlock disk field)

abbrev pub LoadRefused : Seen → Why → Seen → Type 0
LoadRefused old (Size need have) new = ⊥
LoadRefused old (BadRecord field) new = (new ≡ old) × IsBadState old field
LoadRefused old NoMemory new = ⊥
LoadRefused old Fault new = (new ≡ record old { faults = new.faults }) × (Rose old.faults new.faults × IsTrue (not old.steady))

-- ---- the block that comes next

-- the block in memory with the next number
abbrev pub next_block : GroupBlock → GroupBlock
next_block block = record block { sequence = next_sequence block.sequence }

-- ---- the commit

-- what the write of the block leaves of the disk
pub record CommitsDisk {T E : Type 0} (old : Seen) (block : GroupBlock) (result : Result T E) (new : Seen) : Type 0 where
  pub goes : GoesOn old result new
  pub label : IsTold old → block_at new.image 0 ≡ block_at old.image 0
  pub others : IsTold old → (i : ℕ) → 2 ≤ i → block_at new.image i ≡ block_at old.image i
  pub done : IsTold old → OnOk result (said_on new ≡ says_of block)
  pub stopped : IsTold old → OnErr result ((said_on new ≡ said_on old) ⊎ (said_on new ≡ says_of block))
  pub state : IsStateDisk old → IsStateDisk new
  pub counted : OnOk result (new.written ≡ counted old.written 1)
  pub uncounted : OnErr result (new.written ≡ old.written)

-- The block is written: at Ok it is the one on the disk and in memory, at a failure the disk has the old one or this one, and the memory the
-- old one.
pub record Commits {T E : Type 0} (old : StateSeen) (block : GroupBlock) (result : Result T E) (new : StateSeen) : Type 0 where
  pub disk : CommitsDisk old.disk block result new.disk
  pub now : OnOk result (new.block ≡ block)
  pub unchanged : OnErr result (new.block ≡ old.block)

-- ---- arming

-- exactly this tear is armed, exactly on the disk with number 0, and where it lets one be armed; where none is, nothing changes
pub record ArmsDisk (old : StateSeen) (disk : ℕ) (tear : Tear) (result : Bool) (new : StateSeen) : Type 0 where
  pub answer : IsTrue result → (disk ≡ 0) × IsTrue old.disk.arms
  pub armed : IsTrue result → new ≡ record old { disk = with_tear tear old.disk }
  pub unarmed : IsTrue (not result) → new ≡ old
  pub sure : disk ≡ 0 → IsTrue old.disk.arms → IsTrue result

abbrev pub written_of : StateSeen → ℕ → Option ℕ
written_of s disk = if disk == 0 then Some s.disk.written else None
