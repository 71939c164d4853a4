-- What a step of one set gives its group, whatever the kind of the set: each crate of sets gives
-- these relations of its calls.
use Rattle.std.specs.Prelude.{◌≡◌, ◌≢◌, ◌⊎◌, ℕ, ◌+◌, ◌*◌, ◌/◌, ◌<◌, ◌≤◌, true, false, IsTrue, Option, None, Some, is_some, List, length, slice_index_or, Result, OnOk, OnErr}
use Rattle.avs_seg.specs.Image.{Image, block_at}
use Rattle.avs_dev.specs.Seen.{Seen, IsTold, shown}
use Rattle.avs_dev.specs.Devices.{AllGoOn}
use Rattle.avs_sets.specs.Says.{BlockSays}
use Rattle.avs_sets.specs.Sets.{on_master, split, on_shadow, OwnSlot, OverSlot, SetSeen, chunks_of, shadow_disk, SetRead, read_from, KeepsMaster, KeepsShadow}
use Rattle.avs_seg.specs.Segment.{seg_count}
use Rattle.avs_seg.specs.Image.{IsMix, put}
use Rattle.avs_model.specs.ShadowSets.{is_offline}
use Rattle.avs_sets.specs.Meaning.{GroupSeen, set_of, slot_of, is_enabled, standing_of, chunks_by, shadow_over, behind_of}
use Rattle.avs_sets.specs.Whole.{IsPlaced, AreSame, IsSettled}
use Rattle.avs_sets.specs.Goes.{IsSameSet}

-- the disks of a step: of the master, of the shadow, of the bitmap, and of the overflow volume
pub data SetSpot : Type 0 where
  OfMaster : SetSpot
  OfShadow : SetSpot
  OfBitmap : SetSpot
  OfOver : SetSpot

abbrev pub set_disks : Seen → SetSeen → Seen → SetSpot → Seen
set_disks m s over OfMaster = m
set_disks m s over OfShadow = shadow_disk s
set_disks m s over OfBitmap = s.bitmap
set_disks m s over OfOver = over

-- of some disks at most that of one number changes, and it stays there
pub record OnlyDisk (old new : List (Option Seen)) (number : Option ℕ) : Type 0 where
  pub long : length new ≡ length old
  pub others : (n : ℕ) → Some n ≢ number → slice_index_or new n None ≡ slice_index_or old n None
  pub seat : (n : ℕ) → number ≡ Some n → IsTrue (is_some (slice_index_or new n None))

-- what is read of a set over its overflow volume
abbrev pub read_over : BlockSays → SetSeen → Seen → SetRead
read_over says s over =
    read_from (chunks_by says s) s.size.blocks (shown (shadow_disk s)) (shown over)

-- the disks of a set and its master tell their blocks, and its memory is in step
pub record IsKnown (says : BlockSays) (s : SetSeen) (m over : Seen) : Type 0 where
  pub master : IsTold m
  pub shadow : IsTold (shadow_disk s)
  pub bitmap : IsTold s.bitmap
  pub over_told : IsTold over
  pub area : s.live_b ≡ (slot_of says s).area_b
  pub chunks : AreSame (chunks_by says s) s.memory (chunks_of s)

-- of no set are these the slots: a set that is not compact writes none
abbrev pub no_slot : ℕ → Type 0
no_slot slot = ⊥

-- of an overflow volume nothing changes but in slots that are the set's
pub record KeepsSlots (mine : ℕ → Type 0) (old new : Image) : Type 0 where
  pub outside : (slot i : ℕ) → i < 64 → (mine slot → ⊥) → block_at new (1 + (64 * slot + i))
      ≡ block_at old (1 + (64 * slot + i))

-- each chunk with contents of its own has them where it had them, or in one of the set's own slots,
-- or in such a slot of its overflow volume
pub record TakesPlaces (says : BlockSays) (mine : ℕ → Type 0) (old new : SetSeen) : Type 0 where
  pub each : (c : ℕ) → (chunks_by says new).state c ≢ on_master
      → (((chunks_by says old).state c ≢ on_master)
      × ((chunks_by says new).place c ≡ (chunks_by says old).place c))
      ⊎ (((slot : ℕ) × ((chunks_by says new).place c ≡ OwnSlot slot))
      ⊎ ((slot : ℕ) × (mine slot × ((chunks_by says new).place c ≡ OverSlot slot))))

-- what a step keeps of what a set's master, its overflow volume and other sets stand for
pub record KeepsRead (says : BlockSays) (mine : ℕ → Type 0) (old : SetSeen) (m over : Seen)
    (new : SetSeen) (m_new over_new : Seen) : Type 0 where
  pub master : KeepsMaster (read_over says old over) (shown m)
      (read_over says new over_new) (shown m_new)
  pub behind : behind_of new ≡ behind_of old
  pub slots : KeepsSlots mine (shown over) (shown over_new)
  pub takes : TakesPlaces says mine old new
  pub placed : IsPlaced says old → IsPlaced says new

-- What each call that works on a set and its master keeps, at both exits. `mine` are the slots of
-- the overflow volume that it may write: they are this set's, or no set's.
pub record KeepsSet {T E : Type 0} (says : BlockSays) (mine : ℕ → Type 0) (old : SetSeen)
    (m over : Seen) (result : Result T E) (new : SetSeen) (m_new over_new : Seen) : Type 0 where
  pub same : IsSameSet old new
  pub live_b : new.live_b ≡ old.live_b
  pub disks : AllGoOn (set_disks m old over) result (set_disks m_new new over_new)
  pub known : IsKnown says old m over → OnOk result (IsKnown says new m_new over_new)
  pub read : IsKnown says old m over → KeepsRead says mine old m over new m_new over_new

-- What each of these calls keeps of a set beside, with no premise: its shadow's disk is there as
-- before, by the memory no chunk comes to have its contents on one disk alone, and the labels of
-- its bitmap and of its overflow volume stay.
pub record KeepsRest (old : SetSeen) (over : Seen) (new : SetSeen) (over_new : Seen) : Type 0 where
  pub there : is_some new.shadow ≡ is_some old.shadow
  pub settled : IsSettled old → IsSettled new
  pub label : IsTold old.bitmap → block_at new.bitmap.image 0 ≡ block_at old.bitmap.image 0
  pub over_label : IsTold over → block_at over_new.image 0 ≡ block_at over.image 0

-- of a set one state is another, or all states are as before
pub record SetsOne (old new : ℕ → ℕ) (chunks chunk state : ℕ) : Type 0 where
  pub now : new chunk ≡ state
  pub others : (c : ℕ) → c < chunks → c ≢ chunk → new c ≡ old c

pub record StatesSame (old new : ℕ → ℕ) (chunks : ℕ) : Type 0 where
  pub each : (c : ℕ) → c < chunks → new c ≡ old c

-- a step that changes nothing that is seen: blocks are read, or copied ahead, or staged
pub record ShowsSame {T E : Type 0} (says : BlockSays) (mine : ℕ → Type 0) (old : SetSeen)
    (m over : Seen) (result : Result T E) (new : SetSeen) (m_new over_new : Seen) : Type 0 where
  pub keeps : KeepsSet says mine old m over result new m_new over_new
  pub shadow : IsKnown says old m over
      → KeepsShadow (read_over says old over) (shown m) (read_over says new over_new) (shown m_new)
  pub same : IsKnown says old m over
      → StatesSame (chunks_by says old).state (chunks_by says new).state (chunks_of old)

-- the contents of a chunk are copied where they stand on one disk alone, and then it has a state:
-- split, or the same on both
pub record Settles {T E : Type 0} (says : BlockSays) (mine : ℕ → Type 0) (old : SetSeen)
    (m over : Seen) (chunk target : ℕ) (result : Result T E) (new : SetSeen)
    (m_new over_new : Seen) : Type 0 where
  pub keeps : KeepsSet says mine old m over result new m_new over_new
  pub shadow : IsKnown says old m over
      → KeepsShadow (read_over says old over) (shown m) (read_over says new over_new) (shown m_new)
  pub done : IsKnown says old m over
      → OnOk result (SetsOne (chunks_by says old).state (chunks_by says new).state
      (chunks_of old) chunk target)
  pub stopped : IsKnown says old m over
      → OnErr result (StatesSame (chunks_by says old).state (chunks_by says new).state
      (chunks_of old)
      ⊎ SetsOne (chunks_by says old).state (chunks_by says new).state (chunks_of old) chunk target)

-- of so many chunks those from `first` up to `end` are split, and the others are in the states that
-- they were in; and some of those, from the first on
pub record Splits (old new : ℕ → ℕ) (chunks first end : ℕ) : Type 0 where
  pub inside : (c : ℕ) → c < chunks → first ≤ c → c < end → new c ≡ split
  pub outside : (c : ℕ) → c < chunks → (c < first) ⊎ (end ≤ c) → new c ≡ old c

pub record SplitsFirst (old new : ℕ → ℕ) (chunks first end : ℕ) : Type 0 where
  pub upto : ℕ
  pub low : first ≤ upto
  pub high : upto ≤ end
  pub splits : Splits old new chunks first upto

-- Chunks are saved one after another, from `first` up to `end`: each is copied where it stands on
-- one disk alone, and is split then. Where that fails some of them are, from the first on.
pub record SavesRange {T E : Type 0} (says : BlockSays) (mine : ℕ → Type 0) (old : SetSeen)
    (m over : Seen) (first end : ℕ) (result : Result T E) (new : SetSeen)
    (m_new over_new : Seen) : Type 0 where
  pub keeps : KeepsSet says mine old m over result new m_new over_new
  pub shadow : IsKnown says old m over
      → KeepsShadow (read_over says old over) (shown m) (read_over says new over_new) (shown m_new)
  pub done : IsKnown says old m over
      → OnOk result (Splits (chunks_by says old).state (chunks_by says new).state
      (chunks_of old) first end)
  pub stopped : IsKnown says old m over
      → OnErr result (SplitsFirst (chunks_by says old).state (chunks_by says new).state
      (chunks_of old) first end)

-- blocks of the shadow are written whose chunks are split: no state changes
pub record PutsShadow {T E : Type 0} (says : BlockSays) (mine : ℕ → Type 0) (old : SetSeen)
    (m over : Seen) (at : ℕ) (bs : Image) (result : Result T E) (new : SetSeen)
    (m_new over_new : Seen) : Type 0 where
  pub keeps : KeepsSet says mine old m over result new m_new over_new
  pub same : IsKnown says old m over
      → StatesSame (chunks_by says old).state (chunks_by says new).state (chunks_of old)
  pub done : IsKnown says old m over
      → OnOk result (shadow_over (read_over says new over_new) (shown m_new)
      ≡ put (shadow_over (read_over says old over) (shown m)) at bs)
  pub stopped : IsKnown says old m over
      → OnErr result (IsMix (shadow_over (read_over says old over) (shown m)) at bs
      (shadow_over (read_over says new over_new) (shown m_new)))

-- by the memory the chunks of a range of a volume are saved in all its sets: split, and in a set
-- that is offline not on the shadow alone
pub record AreSaved (g : GroupSeen) (volume at n : ℕ) : Type 0 where
  pub online : (k : ℕ) → k < length g.sets → is_enabled g.memory (set_of g.sets k) ≡ true
      → is_offline (standing_of g.memory (set_of g.sets k)) ≡ false → (set_of g.sets k).master
      ≡ volume
      → (c : ℕ) → at / 64 ≤ c → c < seg_count (at + n) → c < chunks_of (set_of g.sets k)
      → (set_of g.sets k).memory.state c ≡ split
  pub none : (k : ℕ) → k < length g.sets → is_enabled g.memory (set_of g.sets k) ≡ true
      → (set_of g.sets k).master ≡ volume
      → (c : ℕ) → at / 64 ≤ c → c < seg_count (at + n) → c < chunks_of (set_of g.sets k)
      → (set_of g.sets k).memory.state c ≢ on_shadow
