-- How many blocks are written on each of the four disks.
use Rattle.std.specs.Prelude.{◌≡◌, ℕ, ◌+◌, ◌/◌, ◌≤◌, ◌==◌, nat_lt, Bool, if◌then◌else◌, Result, OnOk, OnErr}
use Rattle.std.specs.List.{range_with_len, sum_by}
use Rattle.avs_seg.specs.Segment.{first_segment, touch_count, seg_len}
use Rattle.avs_dev.specs.Seen.{Seen}
use Rattle.avs_entries.specs.Entries.{on_master, split, on_shadow, state_by, slot_by}
use Rattle.avs_compact.specs.CompactSet.{CompactSet, entry_of, next_of}
use Rattle.avs_compact.specs.Disks.{CompactDisk, Master, Shadow, Bitmap, Over, raised}

-- so many blocks are written on each disk, and where the call fails at most so many
pub record AddsUpTo {T E : Type 0} (old : CompactDisk → Seen) (work most : CompactDisk → ℕ) (result : Result T E) (new : CompactDisk → Seen) : Type 0 where
  pub done : OnOk result ((d : CompactDisk) → (new d).written ≡ raised (old d).written (work d))
  pub stopped : OnErr result ((d : CompactDisk) → (new d).written ≤ (old d).written + most d)

-- ---- one chunk

-- blocks in a slot: the set's own ones are numbered first; and at most in any slot
abbrev pub slot_work : ℕ → ℕ → ℕ → CompactDisk → ℕ
slot_work own slot len Master = 0
slot_work own slot len Shadow = if nat_lt slot own then len else 0
slot_work own slot len Bitmap = 0
slot_work own slot len Over = if nat_lt slot own then 0 else len

abbrev pub slot_most : ℕ → CompactDisk → ℕ
slot_most len Master = 0
slot_most len Shadow = len
slot_most len Bitmap = 0
slot_most len Over = len

-- blocks on the master's disk
abbrev pub out_work : ℕ → CompactDisk → ℕ
out_work len Master = len
out_work len Shadow = 0
out_work len Bitmap = 0
out_work len Over = 0

-- the blocks of a chunk in a state, of so many blocks, that is copied where its contents stand on one side alone
abbrev pub copy_work : ℕ → ℕ → ℕ → ℕ → CompactDisk → ℕ
copy_work own state slot len d = if state == on_master then slot_work own slot len d else (if state == on_shadow then out_work len d else 0)

abbrev pub copy_most : ℕ → ℕ → CompactDisk → ℕ
copy_most state len d = if state == on_master then slot_most len d else (if state == on_shadow then out_work len d else 0)

-- the copy, and then the block with its entry
abbrev pub settle_work : ℕ → ℕ → ℕ → ℕ → CompactDisk → ℕ
settle_work own state slot len Master = copy_work own state slot len Master
settle_work own state slot len Shadow = copy_work own state slot len Shadow
settle_work own state slot len Bitmap = 1
settle_work own state slot len Over = copy_work own state slot len Over

abbrev pub settle_most : ℕ → ℕ → CompactDisk → ℕ
settle_most state len Master = copy_most state len Master
settle_most state len Shadow = copy_most state len Shadow
settle_most state len Bitmap = 1
settle_most state len Over = copy_most state len Over

-- the same of a chunk that is saved: nothing where it is split
abbrev pub save_work : ℕ → ℕ → ℕ → ℕ → CompactDisk → ℕ
save_work own state slot len d = if state == split then 0 else settle_work own state slot len d

abbrev pub save_most : ℕ → ℕ → CompactDisk → ℕ
save_most state len d = if state == split then 0 else settle_most state len d

-- ---- of a set: the chunks stand in the slots that they have once they are settled, or that are kept for them

abbrev pub settled_work : CompactSet → CompactSet → ℕ → CompactDisk → ℕ
settled_work old new c d = settle_work old.own (state_by (entry_of old c)) (slot_by (entry_of new c)) (seg_len c old.blocks) d

abbrev pub settled_most : CompactSet → ℕ → CompactDisk → ℕ
settled_most old c d = settle_most (state_by (entry_of old c)) (seg_len c old.blocks) d

-- the n chunks from one on are saved
abbrev pub saved_work : CompactSet → CompactSet → ℕ → ℕ → CompactDisk → ℕ
saved_work old new first n d =
    sum_by (λ c. save_work old.own (state_by (entry_of old c)) (slot_by (entry_of new c)) (seg_len c old.blocks) d) (range_with_len first n)

abbrev pub saved_most : CompactSet → ℕ → ℕ → CompactDisk → ℕ
saved_most old first n d = sum_by (λ c. save_most (state_by (entry_of old c)) (seg_len c old.blocks) d) (range_with_len first n)

-- those that are told are copied ahead
abbrev pub ahead_work : CompactSet → CompactSet → (ℕ → Bool) → ℕ → ℕ → CompactDisk → ℕ
ahead_work old new told first n d =
    sum_by (λ c. if told c then slot_work old.own (slot_by (next_of new c)) (seg_len c old.blocks) d else 0) (range_with_len first n)

abbrev pub ahead_most : CompactSet → (ℕ → Bool) → ℕ → ℕ → CompactDisk → ℕ
ahead_most old told first n d = sum_by (λ c. if told c then slot_most (seg_len c old.blocks) d else 0) (range_with_len first n)

-- blocks of the shadow, each in the slot of its chunk
abbrev pub put_work : CompactSet → ℕ → ℕ → CompactDisk → ℕ
put_work s at len d = sum_by (λ i. slot_work s.own (slot_by (entry_of s (i / 64))) 1 d) (range_with_len at len)

-- and before that the chunks of their range are saved
abbrev pub write_work : CompactSet → CompactSet → ℕ → ℕ → CompactDisk → ℕ
write_work old new at len d = saved_work old new (first_segment at) (touch_count at len) d + put_work new at len d

abbrev pub write_most : CompactSet → ℕ → ℕ → CompactDisk → ℕ
write_most old at len d = saved_most old (first_segment at) (touch_count at len) d + slot_most len d
