-- What holds of a group between calls: of its disks alone, of its memory beside them, and of what
-- it keeps whatever fails.
use Rattle.std.specs.Prelude.{◌≡◌, ◌≢◌, ℕ, ◌<◌, ◌≤◌, ◌&&◌, Bool, true, false, IsTrue, Option, None, Some, is_some, List, length, slice_index_or}
use Rattle.avs_seg.specs.Image.{Block, block_at}
use Rattle.avs_dev.specs.Seen.{Seen, IsTold, shown}
use Rattle.avs_model.specs.ShadowSets.{is_online, is_offline, is_exported, is_compact, is_independent}
use Rattle.avs_model.specs.GroupStates.{slot_count}
use Rattle.avs_model.specs.GroupWork.{GroupSpot, StateDisk, BitmapDisk, OverDisk}
use Rattle.avs_sets.specs.Says.{BlockSays}
use Rattle.avs_sets.specs.Sets.{on_master, split, on_shadow, OverSlot, ChunkMap, SetSeen, chunks_of, shadow_disk, IsAlike}
use Rattle.avs_sets.specs.Meaning.{GroupSeen, disk_in, image_in, set_of, disk_at, slot_of, is_enabled, standing_of, chunks_by, read}

-- ---- of the disks

-- of two sets of one master: where the contents stand on the shadow of the first alone, the second
-- is split, if it is not offline, and its contents stand elsewhere too
pub record IsApart (says : BlockSays) (s t : SetSeen) : Type 0 where
  pub splits : is_enabled says s ≡ true → is_enabled says t ≡ true → is_offline (standing_of says t)
      ≡ false → s.master ≡ t.master
      → (c : ℕ) → c < chunks_of s → (chunks_by says s).state c ≡ on_shadow
      → (chunks_by says t).state c ≡ split
  pub alone : is_enabled says s ≡ true → is_enabled says t ≡ true → s.master ≡ t.master
      → (c : ℕ) → c < chunks_of s → (chunks_by says s).state c ≡ on_shadow
      → (chunks_by says t).state c ≢ on_shadow

-- no chunk of the set that has contents of its own stands in that slot of that overflow volume
pub record IsFree (says : BlockSays) (t : SetSeen) (over : Option ℕ) (slot : ℕ) : Type 0 where
  pub each : is_enabled says t ≡ true → t.over ≡ over → (c : ℕ) → (chunks_by says t).state c
      ≢ on_master → (chunks_by says t).place c ≢ OverSlot slot

-- two sets of one overflow volume have slots of their own in it
pub record AreSlotsApart (says : BlockSays) (s t : SetSeen) : Type 0 where
  pub each : is_enabled says s ≡ true → is_enabled says t ≡ true → s.over ≡ t.over → (c d slot : ℕ)
      → (chunks_by says s).state c ≢ on_master → (chunks_by says s).place c ≡ OverSlot slot
      → (chunks_by says t).state d ≢ on_master → (chunks_by says t).place d ≢ OverSlot slot

-- the chunks of a set that have contents of their own have each its own place
pub record IsPlaced (says : BlockSays) (s : SetSeen) : Type 0 where
  pub each : (c d : ℕ) → c ≢ d → (chunks_by says s).state c ≢ on_master → (chunks_by says s).state d
      ≢ on_master
      → (chunks_by says s).place c ≢ (chunks_by says s).place d

-- of one set: its disks tell their blocks, its kind is what its slot says, only a compact set is
-- offline, and of a set that is online what is the same on both is
pub record IsWholeSet (says : BlockSays) (volumes overs : List (Option Seen))
    (s : SetSeen) : Type 0 where
  pub shadow : IsTold (shadow_disk s)
  pub bitmap : IsTold s.bitmap
  pub kind : is_enabled says s ≡ true → (slot_of says s).kind ≡ s.kind
  pub off : is_enabled says s ≡ true → is_offline (standing_of says s) ≡ true → is_compact s.kind
      ≡ true
  pub placed : is_enabled says s ≡ true → IsPlaced says s
  pub alike : is_enabled says s ≡ true → is_online (standing_of says s) ≡ true
      → IsAlike (read says overs s) (image_in volumes s.master)

pub record AreWhole (says : BlockSays) (volumes overs : List (Option Seen))
    (sets : List SetSeen) : Type 0 where
  pub volumes_told : (v : ℕ) → IsTold (disk_in volumes v)
  pub overs_told : (o : ℕ) → IsTold (disk_in overs o)
  pub each : (k : ℕ) → k < length sets → IsWholeSet says volumes overs (set_of sets k)
  pub apart : (j k : ℕ) → j < length sets → k < length sets → j ≢ k
      → IsApart says (set_of sets j) (set_of sets k)
  pub slots_apart : (j k : ℕ) → j < length sets → k < length sets → j ≢ k
      → AreSlotsApart says (set_of sets j) (set_of sets k)

pub record IsWhole (g : GroupSeen) : Type 0 where
  pub state : IsTold g.state
  pub disks : AreWhole g.says g.volumes g.overs g.sets

-- Of the disks a group can be found again by reading alone: they tell their blocks, and the first
-- block of the state disk, of the bitmap of each enabled set and of each overflow volume that is
-- there is what `rule` asks of it.
pub record IsReadable (rule : GroupSpot → Block → Type 0) (g : GroupSeen) : Type 0 where
  pub told : (spot : GroupSpot) → IsTold (disk_at g spot)
  pub state : rule StateDisk (block_at (shown g.state) 0)
  pub bitmaps : (k : ℕ) → k < length g.sets → is_enabled g.says (set_of g.sets k) ≡ true
      → rule (BitmapDisk (set_of g.sets k).slot) (block_at (shown (set_of g.sets k).bitmap) 0)
  pub overs : (o : ℕ) → IsTrue (is_some (slice_index_or g.overs o None))
      → rule (OverDisk o) (block_at (shown (disk_in g.overs o)) 0)

-- ---- of the memory: it repeats what is on the disks. Ok keeps this, and Failed may end it.

pub record AreSame (old new : ChunkMap) (chunks : ℕ) : Type 0 where
  pub state : (c : ℕ) → c < chunks → new.state c ≡ old.state c
  pub place : (c : ℕ) → c < chunks → old.state c ≢ on_master → new.place c ≡ old.place c

-- of a set that is enabled: of one that is pending nothing may have been read
pub record IsStep (says : BlockSays) (s : SetSeen) : Type 0 where
  pub area : is_enabled says s ≡ true → s.live_b ≡ (slot_of says s).area_b
  pub chunks : is_enabled says s ≡ true → AreSame (s.area s.live_b) s.memory (chunks_of s)

pub record IsInStep (g : GroupSeen) : Type 0 where
  pub block : g.memory ≡ g.says
  pub each : (k : ℕ) → k < length g.sets → IsStep g.memory (set_of g.sets k)

-- ---- of what is kept whatever fails

pub record IsHeld (volumes overs : List (Option Seen)) (s : SetSeen) : Type 0 where
  pub slot : s.slot < slot_count
  pub master : IsTrue (is_some (slice_index_or volumes s.master None))
  pub blocks : (disk_in volumes s.master).size ≡ s.size.blocks
  pub over : (o : ℕ) → s.over ≡ Some o → IsTrue (is_some (slice_index_or overs o None))

pub record IsKept (volumes overs : List (Option Seen)) (sets : List SetSeen) : Type 0 where
  pub few : length sets ≤ slot_count
  pub held : (k : ℕ) → k < length sets → IsHeld volumes overs (set_of sets k)
  pub distinct : (j k : ℕ) → j < length sets → k < length sets
      → (set_of sets j).slot ≡ (set_of sets k).slot → j ≡ k

-- By the memory: a set is given away; and none of the chunks of an independent set has its contents
-- on one disk alone.
abbrev pub is_away : BlockSays → SetSeen → Bool
is_away says s = is_enabled says s && is_exported (standing_of says s)

pub record IsSettled (s : SetSeen) : Type 0 where
  pub kind : is_independent s.kind ≡ true
  pub each : (c : ℕ) → c < chunks_of s
      → (s.memory.state c ≢ on_master) × (s.memory.state c ≢ on_shadow)

-- The shadow's disk is there, or the set is given away and needs it for no chunk.
pub record IsHere (memory : BlockSays) (s : SetSeen) : Type 0 where
  pub there : is_away memory s ≡ false → IsTrue (is_some s.shadow)
  pub settled : is_away memory s ≡ true → IsSettled s

pub record AreHere (memory : BlockSays) (sets : List SetSeen) : Type 0 where
  pub each : (k : ℕ) → k < length sets → IsHere memory (set_of sets k)
