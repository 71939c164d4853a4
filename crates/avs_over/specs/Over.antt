-- An overflow volume: its disk and its slots, and what each call makes of them.
use Rattle.std.specs.Prelude.{◌≡◌, ◌≢◌, ◌⊎◌, ℕ, ◌+◌, ◌*◌, ◌/◌, ◌<◌, ◌≤◌, ◌==◌, Bool, ◌&&◌, true, not, IsTrue, if◌then◌else◌, List, length, map, replicate, Option, None, Some, IfSome, IfNone, Result, Ok, Err, slice_set}
use Rattle.avs_seg.specs.Causes.{Rose}
use Rattle.avs_seg.specs.declared.fault.Failed.{Failed}
use Rattle.avs_seg.specs.Image.{block_at}
use Rattle.avs_dev.specs.Seen.{Seen, IsTold, Reads, Writes, with_tear}
use Rattle.avs_dev.specs.declared.disk.Tear.{Tear}
use Rattle.avs_dev.specs.declared.back.Why.{Why}
use Rattle.avs_dev.specs.declared.back.Why.TheVariants.{Size, BadRecord, NoMemory, Fault}
use Rattle.avs_code.specs.Label.{IsLabel, IsBadLabel, label_for, label_block}
use Rattle.avs_code.specs.declared.labels.Label.{Label}
use Rattle.avs_code.specs.declared.labels.LabelUse.{LabelUse}
use Rattle.avs_over.specs.Slots.{Owners, Taken, owner_at, slots_of, used_in, given_to, without, FindsFree, AreApart, HasBadSlot, AreGiven}

-- an overflow volume: its disk, and the owners of its slots
pub record OverSet : Type 0 where
  pub disk : Seen
  pub owners : Owners

-- how many slots it has, and how many of them are given to sets
abbrev pub slots : OverSet → ℕ
slots o = length o.owners

abbrev pub used : OverSet → ℕ
used o = used_in o.owners

-- the first block of a slot
abbrev pub slot_from : ℕ → ℕ
slot_from slot = 1 + 64 * slot

-- the blocks of each slot lie on the disk
pub record AreOnDisk (o : OverSet) : Type 0 where
  pub each : (slot : ℕ) → slot < slots o → slot_from slot + 64 ≤ o.disk.size

-- the blocks of a slice from one of a slot on are whole, one or more, and lie inside the slot
pub record IsInSlot (o : OverSet) (slot at len : ℕ) : Type 0 where
  pub there : slot < slots o
  pub some : 0 < len
  pub whole : 512 * (len / 512) ≡ len
  pub inside : at + len / 512 ≤ 64

-- what an overflow volume serves as: for no one volume
abbrev pub over_use : LabelUse
over_use = record { kind = 7; blocks = 0; segments = 0 }

abbrev pub over_label : Label
over_label = label_for over_use 0

-- the disk has the label of an overflow volume
abbrev pub HasLabel : Seen → Type 0
HasLabel disk = IsLabel (block_at disk.image 0) over_label

-- blocks were written, or the write of them failed
abbrev pub Wrote : Seen → ℕ → List ℕ → Seen → Type 0
Wrote old at bytes new = Writes {T = Unit {0}} {E = Failed} old at bytes (Ok tt) new

abbrev pub FailedToWrite : Seen → ℕ → List ℕ → Seen → Type 0
FailedToWrite old at bytes new = Writes {T = Unit {0}} {E = Failed} old at bytes (Err (record {})) new

-- a new overflow volume: its label was written, and every slot is free
pub record Makes (old : Seen) (new : OverSet) : Type 0 where
  pub label : Wrote old 0 (label_block over_label) new.disk
  pub labelled : IsTold old → HasLabel new.disk
  pub slots : slots new ≡ slots_of old.size
  pub free : new.owners ≡ replicate (slots_of old.size) None

-- why none was made, and what the disk is then: it failed as its label was written, or there was no memory
abbrev pub MakeRefused : Seen → Why → Seen → Type 0
MakeRefused old (Size need have) new = ⊥
MakeRefused old (BadRecord field) new = ⊥
MakeRefused old NoMemory new = new ≡ old
MakeRefused old Fault new = FailedToWrite old 0 (label_block over_label) new

-- an overflow volume that is found on a disk, of which nothing changes, with the slots given as a list says
pub record Loads (old : Seen) (taken : Taken) (new : OverSet) : Type 0 where
  pub kept : new.disk ≡ old
  pub labelled : IsTold old → HasLabel old
  pub slots : slots new ≡ slots_of old.size
  pub apart : AreApart taken (length taken) (slots_of old.size)
  pub given : AreGiven taken (length taken) new.owners

-- The first of these rules is broken: the disk has a block, in it is the label of an overflow volume, and the list names
-- slots that are there, each once.
pub record IsBadLabelled (old : Seen) (field : ℕ) : Type 0 where
  pub some : 0 < old.size
  pub bad : IsTold old → IsBadLabel (block_at old.image 0) over_use field

pub record IsBadTaken (old : Seen) (taken : Taken) (field : ℕ) : Type 0 where
  pub some : 0 < old.size
  pub label : IsTold old → HasLabel old
  pub bad : HasBadSlot taken (slots_of old.size)
  pub between : field ≡ 64

abbrev pub IsBadVolume : Seen → Taken → ℕ → Type 0
IsBadVolume old taken field = (old.size ≡ 0 × field ≡ 64) ⊎ (IsBadLabelled old field ⊎ IsBadTaken old taken field)

-- why none was found, and what the disk is then: all but the count of faults is as before
abbrev pub LoadRefused : Seen → Taken → Why → Seen → Type 0
LoadRefused old taken (Size need have) new = ⊥
LoadRefused old taken (BadRecord field) new = (new ≡ old) × IsBadVolume old taken field
LoadRefused old taken NoMemory new = new ≡ old
LoadRefused old taken Fault new = (new ≡ record old { faults = new.faults }) × (Rose old.faults new.faults × IsTrue (not old.steady))

-- the least free slot is given to a set, and none exactly where all are used
pub record Takes (old : OverSet) (set : ℕ) (result : Option ℕ) (new : OverSet) : Type 0 where
  pub least : FindsFree old.owners 0 result
  pub given : IfSome result (λ slot. new ≡ record old { owners = slice_set old.owners slot (Some set) })
  pub more : IfSome result (λ _. used new ≡ used old + 1)
  pub none : IfNone result ((used old ≡ slots old) × (new ≡ old))
  pub exact : used old ≡ slots old → IfSome result (λ _. ⊥)

-- the slots of a set are free, and those of others are as before
pub record Releases (old : OverSet) (set : ℕ) (new : OverSet) : Type 0 where
  pub is : new ≡ record old { owners = map (without set) old.owners }
  pub fewer : used new + given_to set old.owners ≡ used old

-- blocks of a slot are read by one read of the disk, and the owners are as before
pub record ReadsSlot {T E : Type 0} (old : OverSet) (slot at : ℕ) (out : List ℕ) (result : Result T E) (new : OverSet) : Type 0 where
  pub rest : new ≡ record old { disk = new.disk }
  pub reads : Reads old.disk (slot_from slot + at) out result new.disk

-- blocks of a slot are written by one write of the disk, and the owners are as before
pub record WritesSlot {T E : Type 0} (old : OverSet) (slot at : ℕ) (bytes : List ℕ) (result : Result T E) (new : OverSet) : Type 0 where
  pub rest : new ≡ record old { disk = new.disk }
  pub writes : Writes old.disk (slot_from slot + at) bytes result new.disk

-- exactly this tear is armed, exactly on the disk with number 0, and where it lets one be armed; where none is, nothing
-- changes
pub record ArmsDisk (old : OverSet) (disk : ℕ) (tear : Tear) (result : Bool) (new : OverSet) : Type 0 where
  pub answer : result ≡ ((disk == 0) && old.disk.arms)
  pub armed : IsTrue result → new ≡ record old { disk = with_tear tear old.disk }
  pub unarmed : IsTrue (not result) → new ≡ old
  pub sure : disk ≡ 0 → IsTrue old.disk.steady → IsTrue result

-- the blocks written on a disk, whose number is 0
abbrev pub written_of : OverSet → ℕ → Option ℕ
written_of o disk = if disk == 0 then Some o.disk.written else None

-- what an overflow volume keeps, whatever fails
pub record IsKept (disk : Seen) (owners : Owners) (count low : ℕ) : Type 0 where
  pub some : 0 < disk.size
  pub long : length owners ≡ slots_of disk.size
  pub counted : count ≡ used_in owners
  pub taken : (k : ℕ) → k < low → k < length owners → owner_at owners k ≢ None
