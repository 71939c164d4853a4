-- A compact set: its disks, and the two images that they stand for over an image of the master's disk and an overflow volume.
use Rattle.std.specs.Prelude.{◌≡◌, ℕ, ◌+◌, ◌-◌, ◌*◌, ◌/◌, ◌%◌, ◌<◌, ◌==◌, nat_lt, true, false, if◌then◌else◌, List, [], Option, None, Some}
use Rattle.avs_seg.specs.Image.{Block, Image, block_at, tabulate}
use Rattle.avs_seg.specs.Segment.{seg_count}
use Rattle.avs_dev.specs.Seen.{Seen}
use Rattle.avs_flip.specs.Areas.{Areas, live, staged}
use Rattle.avs_over.specs.Slots.{given_to}
use Rattle.avs_over.specs.Over.{OverSet, slots, used, slot_from}
use Rattle.avs_code.specs.Label.{IsLabel}
use Rattle.avs_entries.specs.Entries.{on_shadow, state_by, slot_by, entry_in, entry_on}
use Rattle.avs_entries.specs.Counting.{is_touched, is_own, is_over, count_of}
use Rattle.avs_entries.specs.Bitmap.{compact_label}

-- a set: the number by which it takes slots of an overflow volume, how many slots its shadow's disk has, that disk where it is
-- there, the areas of the entries on the bitmap's disk, the entries in memory, those that are staged, how many blocks it has, and the
-- slots that are kept for chunks that were copied ahead: of its own ones below `low` those that no chunk has, which are so many
pub record CompactSet : Type 0 where
  pub set : ℕ
  pub own : ℕ
  pub shadow : Option Seen
  pub areas : Areas
  pub memory : List ℕ
  pub next : List ℕ
  pub blocks : ℕ
  pub low : ℕ
  pub ahead : ℕ

-- a disk that is not there: it has no block and never fails
abbrev pub absent : Seen
absent = record { image = []; size = 0; faults = 0; written = 0; steady = true; armed = false; tear = None; arms = false }

-- the disk, where it is there
abbrev pub disk_of : Option Seen → Seen
disk_of None = absent
disk_of (Some d) = d

-- the overflow volume, where it is there: else it has no slot
abbrev pub over_of : Option OverSet → OverSet
over_of None = record { disk = absent; owners = [] }
over_of (Some o) = o

-- the entry of a chunk in memory
abbrev pub entry_of : CompactSet → ℕ → ℕ
entry_of s c = entry_in s.memory c

-- the entry of a chunk on the disk
abbrev pub disk_entry : CompactSet → ℕ → ℕ
disk_entry s c = entry_on (live s.areas) c

-- the entry of a chunk that is staged, in memory and on the disk
abbrev pub next_of : CompactSet → ℕ → ℕ
next_of s c = entry_in s.next c

abbrev pub staged_entry : CompactSet → ℕ → ℕ
staged_entry s c = entry_on (staged s.areas) c

-- how many chunks it has
abbrev pub chunks_of : CompactSet → ℕ
chunks_of s = seg_count s.blocks

-- how many slots of 64 whole blocks a disk of so many blocks has
abbrev pub own_slots : ℕ → ℕ
own_slots size = size / 64

-- block k of a slot: the set's own slots are numbered first, and those of the overflow volume follow
abbrev pub in_slot : ℕ → Image → Image → ℕ → ℕ → Block
in_slot own shadow over slot k = if nat_lt slot own then block_at shadow (64 * slot + k) else block_at over (slot_from (slot - own) + k)

-- the shadow's image, by the entries: a chunk without a slot is the master's
unfoldable pub shadow_by : ℕ → ℕ → Image → Image → Image → Image → Image
shadow_by blocks own area shadow over master =
    tabulate blocks (λ i. if entry_on area (i / 64) == 0 then block_at master i else in_slot own shadow over (slot_by (entry_on area (i / 64))) (i % 64))

-- the image of its master, by the entries: a chunk whose contents stand in its slot alone is the shadow's
unfoldable pub master_by : ℕ → ℕ → Image → Image → Image → Image → Image
master_by blocks own area shadow over master =
    tabulate blocks (λ i. if state_by (entry_on area (i / 64)) == on_shadow then in_slot own shadow over (slot_by (entry_on area (i / 64))) (i % 64) else block_at master i)

-- the shadow's image over an overflow volume and an image of the master's disk
abbrev pub shadow_image : CompactSet → OverSet → Image → Image
shadow_image s o master = shadow_by s.blocks s.own (live s.areas) (disk_of s.shadow).image o.disk.image master

-- the master's image over these
abbrev pub master_image : CompactSet → OverSet → Image → Image
master_image s o master = master_by s.blocks s.own (live s.areas) (disk_of s.shadow).image o.disk.image master

-- the memory repeats the entries on the disk
pub record IsInStep (s : CompactSet) : Type 0 where
  pub each : (c : ℕ) → c < chunks_of s → entry_of s c ≡ disk_entry s c

-- what the set needs: a slot for each chunk that was touched
abbrev pub need_of : CompactSet → ℕ
need_of s = count_of is_touched (entry_of s) (chunks_of s)

-- how many slots of its overflow volume it uses
abbrev pub over_used : CompactSet → ℕ
over_used s = count_of (is_over s.own) (entry_of s) (chunks_of s)

-- how many of the set's own slots it uses
abbrev pub own_used : CompactSet → ℕ
own_used s = count_of (is_own s.own) (entry_of s) (chunks_of s)

-- the slots of an overflow volume that other sets have taken
abbrev pub others_use : ℕ → OverSet → ℕ
others_use set o = used o - given_to set o.owners

-- the room of a set: its own slots and those of its overflow volume, less what every other set has taken there
abbrev pub room_by_rule : CompactSet → OverSet → ℕ
room_by_rule s o = s.own + (slots o - others_use s.set o)

-- Of its overflow volume the set has taken as many slots as it uses, and it keeps none of its own. This holds where no call on the two
-- has failed, but while chunks are copied ahead for an update, and between the turn of one that gives slots up and `release_set`.
abbrev pub HasTaken : CompactSet → OverSet → Type 0
HasTaken s o = (given_to s.set o.owners ≡ over_used s) × (s.ahead ≡ 0)

-- the room of a set: its own slots but those that are kept, and of its overflow volume those that it uses and those that are free
abbrev pub room_of : CompactSet → OverSet → ℕ
room_of s o = s.own - s.ahead + over_used s + (slots o - used o)

-- the bitmap's disk has the label of the set
pub record HasLabel (s : CompactSet) : Type 0 where
  pub label : IsLabel (block_at s.areas.disk.image 0) (compact_label s.blocks)
