-- How a group is made on a state disk and found on its parts, and why not.
use Rattle.std.specs.Prelude.{◌≡◌, ◌⊎◌, ◌≢◌, ℕ, ◌^◌, ◌<◌, ◌≤◌, ◌==◌, Bool, true, false, not, ◌&&◌, IsTrue, List, [], ◌∷◌, ◌++◌, length, map, replicate, All, None, Some, Result}
use Rattle.std.specs.List.{flat_map, list_all}
use Rattle.std.specs.Option.{option_map}
use Rattle.avs_seg.specs.Image.{Image, block_at, put, blocks_of, IsMix}
use Rattle.avs_seg.specs.Segment.{seg_count}
use Rattle.avs_seg.specs.Causes.{Rose}
use Rattle.avs_dev.specs.Seen.{Seen, IsTold, UsesTear, Writes}
use Rattle.avs_dev.specs.Devices.{NoneFell, OneRose}
use Rattle.avs_dev.specs.Memory.{counted}
use Rattle.avs_dev.specs.declared.back.Why.{Why}
use Rattle.avs_dev.specs.declared.back.Why.TheVariants.{Size, BadRecord, NoMemory, Fault}
use Rattle.avs_code.specs.Label.{IsLabel, IsBadLabel, label_block}
use Rattle.avs_code.specs.GroupBlock.{IsGroupBlock, group_block, group_block_rules}
use Rattle.avs_code.specs.Slot.{no_slot}
use Rattle.avs_code.specs.Rules.{first_broken}
use Rattle.avs_code.specs.declared.slot_table.Slot.{Slot}
use Rattle.avs_code.specs.declared.group_blocks.GroupBlock.{GroupBlock}
use Rattle.avs_model.specs.Shadows.{GroupState, bare_group, slot_count}
use Rattle.avs_model.specs.declared.shadow.Kind.{Kind}
use Rattle.avs_model.specs.declared.shadow.Kind.TheVariants.{Ind, Dep, Compact}
use Rattle.avs_flip.specs.Areas.{live}
use Rattle.avs_chunk.specs.States.{on_master, on_shadow, state_on, blocks_for}
use Rattle.avs_chunk.specs.Disks.{IsSameDisk}
use Rattle.avs_chunk.specs.ChunkSet.{shadow_label, disk_of, state_of, chunks_of, both_disks}
use Rattle.avs_chunk.specs.Making as chunk
use Rattle.avs_ii.specs.Held.{HeldSet, IiDisks, disks_of, slot_in, is_live, has_flag, area_b, offline, exported, pending_in}
use Rattle.avs_ii.specs.Meaning.{meaning, kept_on}
use Rattle.avs_ii.specs.Sound.{IsSound, IsFresh, HoldsBlock, state_label, state_use}
use Rattle.avs_ii.specs.SetDisks.{SetDisks}
use Rattle.avs_ii.specs.Shape.{shape_of, parts_shape}
use Rattle.avs_ii.specs.Parts.{PartDisks, size_of, set_parts, parts_of, meaning_of_parts}

-- the blocks of a state disk
abbrev pub state_blocks : ℕ
state_blocks = 64

-- the block of a new group
abbrev pub empty_block : GroupBlock
empty_block = record { version = 1; sequence = 0; slots = replicate 16 no_slot; note = replicate 64 0 }

-- no volumes, no sets, and a note of zeros
abbrev pub empty_group : GroupState
empty_group = bare_group []

-- the label and a block are written by one write
pub record Formats {T E : Type 0} (old : Seen) (block : GroupBlock) (result : Result T E) (new : Seen) : Type 0 where
  pub bytes : List ℕ
  pub len : length bytes ≡ 1024
  pub blocks : blocks_of bytes ≡ label_block state_label ∷ group_block block ∷ []
  pub writes : Writes old 0 bytes result new

-- all disks of a set, and of a group, tell their blocks
pub record IsSetTold (s : SetDisks) : Type 0 where
  pub shadow : IsTold (disk_of s.shadow)
  pub bitmap : IsTold s.bitmap

pub record AreTold (parts : PartDisks) : Type 0 where
  pub state : IsTold parts.state
  pub volumes : All IsTold parts.volumes
  pub sets : All IsSetTold parts.sets

-- a new group: the label and the empty block are written on its state disk
pub record Opens (state : Seen) (new : IiDisks) : Type 0 where
  pub is : new ≡ record { state = new.state; block = empty_block; volumes = []; sets = [] }
  pub disk : IsSameDisk state new.state
  pub armed : new.state.armed ≡ state.armed
  pub counted : new.state.written ≡ counted state.written 2
  pub written : IsTold state → new.state.image ≡ put state.image 0 (label_block state_label ∷ group_block empty_block ∷ [])
  pub sound : IsTold state → IsSound new
  pub group : IsTold state → meaning new ≡ empty_group
  pub told : IsTold state → AreTold (parts_of new)

-- the state disk failed while it was written
pub record FailsOpening (old new : Seen) : Type 0 where
  pub disk : IsSameDisk old new
  pub rose : Rose old.faults new.faults
  pub used : IsTrue old.steady → UsesTear old new
  pub mix : IsTold old → IsMix old.image 0 (label_block state_label ∷ group_block empty_block ∷ []) new.image
  pub uncounted : new.written ≡ old.written

-- why no group was made, and what the state disk is then
abbrev pub OpenRefused : Seen → Why → Seen → Type 0
OpenRefused old (Size need have) new = ⊥
OpenRefused old (BadRecord field) new = ⊥
OpenRefused old NoMemory new = new ≡ old
OpenRefused old Fault new = FailsOpening old new

-- the number of a rule between records and disks
abbrev pub between : ℕ
between = 64

-- the kind of a set in its slot
abbrev pub kind_number : Kind → ℕ
kind_number Ind = 1
kind_number Dep = 2
kind_number Compact = 3

-- whether an enabled set of a kind may have the slot, which no set does that is offline or exported yet
abbrev pub fits_slot : Slot → Kind → Bool
fits_slot slot kind = slot.kind == kind_number kind && (not (has_flag offline slot) && not (has_flag exported slot))

-- a set may stand in a group: its slot and its master are there, its disks are there and large enough, its master has a block, and it is one
-- without slots of its own, which no set is yet
pub record IsPlaced (slots : List Slot) (volumes : List Seen) (s : SetDisks) : Type 0 where
  pub slot : s.slot < slot_count
  pub master : s.master < length volumes
  pub there : s.shadow ≡ Some (disk_of s.shadow)
  pub shadow : size_of volumes s.master ≤ (disk_of s.shadow).size
  pub bitmap : blocks_for (seg_count (size_of volumes s.master)) ≤ s.bitmap.size
  pub some : 0 < size_of volumes s.master
  pub whole : (s.kind ≡ Ind) ⊎ (s.kind ≡ Dep)
  pub plain : s.over ≡ None
  pub fits : is_live slots s.slot ≡ true → fits_slot (slot_in slots s.slot) s.kind ≡ true

-- the parts of a group keep the rules between them. It has one set at most, and no overflow volume yet. A number has 32 bits
pub record ArePlaced (slots : List Slot) (parts : PartDisks) : Type 0 where
  pub each : All (IsPlaced slots parts.volumes) parts.sets
  pub one : length parts.sets ≤ 1
  pub count : length parts.volumes < 2 ^ 32
  pub none : parts.overs ≡ []

-- the bitmap of an enabled set has its label
pub record IsLabelled (slots : List Slot) (volumes : List Seen) (s : SetDisks) : Type 0 where
  pub label : is_live slots s.slot ≡ true → IsLabel (block_at s.bitmap.image 0) (shadow_label (size_of volumes s.master))

-- by a live area on a bitmap, none of the chunks of so many blocks stands on the shadow alone
pub record IsSettledOn (bitmap : Seen) (blocks : ℕ) (live_b : Bool) : Type 0 where
  pub none : (c : ℕ) → c < seg_count blocks → state_on (live (chunk.areas_on bitmap blocks live_b)) c ≢ on_shadow

-- no chunk of an enabled set stands on the shadow alone, which none does yet
pub record IsSetSettled (slots : List Slot) (volumes : List Seen) (s : SetDisks) : Type 0 where
  pub none_back : is_live slots s.slot ≡ true → IsSettledOn s.bitmap (size_of volumes s.master) (has_flag area_b (slot_in slots s.slot))

-- parts that a group is found on
pub record AreWhole (parts : PartDisks) : Type 0 where
  pub state : state_blocks ≤ parts.state.size
  pub label : IsLabel (block_at parts.state.image 0) state_label
  pub block : IsGroupBlock (block_at parts.state.image 1) (kept_on parts.state)
  pub placed : ArePlaced (kept_on parts.state).slots parts
  pub labelled : All (IsLabelled (kept_on parts.state).slots parts.volumes) parts.sets
  pub settled : All (IsSetSettled (kept_on parts.state).slots parts.volumes) parts.sets

-- the label is right, and the block behind it breaks the rule of this field
pub record IsBadBlock (image : Image) (field : ℕ) : Type 0 where
  pub label : IsLabel (block_at image 0) state_label
  pub block : first_broken (group_block_rules (block_at image 1)) ≡ Some field

-- the field by which an image is not that of a state disk: of its label, or, where that is right, of its block
abbrev pub IsBadState : Image → ℕ → Type 0
IsBadState image field = IsBadLabel (block_at image 0) state_use field ⊎ IsBadBlock image field

-- the image is that of a state disk
pub record IsGoodState (image : Image) : Type 0 where
  pub block : GroupBlock
  pub label : IsLabel (block_at image 0) state_label
  pub holds : IsGroupBlock (block_at image 1) block

-- a disk is too small for a state disk
pub record IsSmallState (state : Seen) (field : ℕ) : Type 0 where
  pub less : state.size < state_blocks
  pub number : field ≡ between

-- why the state disk was not read
abbrev pub StateRefused : Seen → Why → Seen → Type 0
StateRefused old (Size need have) new = ⊥
StateRefused old (BadRecord field) new = IsSmallState old field ⊎ ((state_blocks ≤ old.size) × (IsTold old → IsBadState old.image field × (IsGoodState old.image → ⊥)))
StateRefused old NoMemory new = ⊥
StateRefused old Fault new = Rose old.faults new.faults × (old.steady ≡ false)

-- The number of the first rule that parts break, in the order in which they are read: the size of the state disk, its label, its
-- block, the rules between the parts, and then, set by set in order, the label of the bitmap and the states on it. So each of
-- these cases says that what comes before it is right.

-- the disk is large enough, but by this field its image is not that of a state disk
pub record IsOtherState (state : Seen) (field : ℕ) : Type 0 where
  pub room : state_blocks ≤ state.size
  pub bad : IsBadState state.image field

-- it is a state disk
pub record IsStateDisk (state : Seen) : Type 0 where
  pub room : state_blocks ≤ state.size
  pub good : IsGoodState state.image

-- the parts break a rule between them
pub record AreAtOdds (parts : PartDisks) (field : ℕ) : Type 0 where
  pub state : IsStateDisk parts.state
  pub broken : ArePlaced (kept_on parts.state).slots parts → ⊥
  pub number : field ≡ between

-- the label of a bitmap is right, and by its live area a chunk stands on the shadow alone
pub record IsUnsettled (bitmap : Seen) (blocks : ℕ) (live_b : Bool) (field : ℕ) : Type 0 where
  pub label : IsLabel (block_at bitmap.image 0) (shadow_label blocks)
  pub broken : IsSettledOn bitmap blocks live_b → ⊥
  pub number : field ≡ between

-- the number by which the bitmap of an enabled set is refused
abbrev pub IsBadBitmap : Seen → ℕ → Bool → ℕ → Type 0
IsBadBitmap bitmap blocks live_b field = chunk.IsNotLabel (block_at bitmap.image 0) blocks field ⊎ IsUnsettled bitmap blocks live_b field

pub record IsBadSet (slots : List Slot) (volumes : List Seen) (field : ℕ) (s : SetDisks) : Type 0 where
  pub live : is_live slots s.slot ≡ true
  pub bitmap : IsBadBitmap s.bitmap (size_of volumes s.master) (has_flag area_b (slot_in slots s.slot)) field

-- the bitmap of a set is not refused
pub record IsGoodSet (slots : List Slot) (volumes : List Seen) (s : SetDisks) : Type 0 where
  pub label : IsLabelled slots volumes s
  pub settled : IsSetSettled slots volumes s

-- the parts keep the rules between them, and the bitmap of one set is refused, but of none before it
pub record HaveBadSet (parts : PartDisks) (field : ℕ) : Type 0 where
  pub state : IsStateDisk parts.state
  pub placed : ArePlaced (kept_on parts.state).slots parts
  pub before : List SetDisks
  pub set : SetDisks
  pub behind : List SetDisks
  pub order : parts.sets ≡ before ++ set ∷ behind
  pub good : All (IsGoodSet (kept_on parts.state).slots parts.volumes) before
  pub bad : IsBadSet (kept_on parts.state).slots parts.volumes field set

abbrev pub AreBad : PartDisks → ℕ → Type 0
AreBad parts field = IsSmallState parts.state field ⊎ (IsOtherState parts.state field ⊎ (AreAtOdds parts field ⊎ HaveBadSet parts field))

-- a disk, a set and parts without their counts of faults
abbrev pub no_faults : Seen → Seen
no_faults d = record d { faults = 0 }

abbrev pub set_no_faults : SetDisks → SetDisks
set_no_faults s = record s { shadow = option_map no_faults s.shadow; bitmap = no_faults s.bitmap }

abbrev pub parts_no_faults : PartDisks → PartDisks
parts_no_faults parts = record { state = no_faults parts.state; volumes = map no_faults parts.volumes; sets = map set_no_faults parts.sets; overs = map no_faults parts.overs }

-- all disks of parts, in order
abbrev pub disks_in : PartDisks → List Seen
disks_in parts = parts.state ∷ parts.volumes ++ flat_map (λ s. both_disks s.shadow s.bitmap) parts.sets ++ parts.overs

-- the disks of a set as `enable` leaves them: they tell their blocks, the bitmap has the label, and by its first area each
-- chunk stands on the master alone
pub record IsMade (volumes : List Seen) (s : SetDisks) : Type 0 where
  pub told : IsSetTold s
  pub label : IsLabel (block_at s.bitmap.image 0) (shadow_label (size_of volumes s.master))
  pub states : (c : ℕ) → c < seg_count (size_of volumes s.master) → state_on (live (chunk.areas_on s.bitmap (size_of volumes s.master) false)) c ≡ on_master

-- a set that is fresh is made on its disks
pub record StaysMade (volumes : List Seen) (s : HeldSet) : Type 0 where
  pub made : IsFresh s → IsMade volumes (set_parts s)

-- A pending set as it is found. Nothing is read of its bitmap: its first area is live, and each chunk stands in memory on the
-- master alone. So it is fresh where it is made on its disks.
pub record IsFoundPending (volumes : List Seen) (s : HeldSet) : Type 0 where
  pub area : s.chunks.areas.live_b ≡ false
  pub memory : (c : ℕ) → c < chunks_of s.chunks → state_of s.chunks c ≡ on_master
  pub fresh : IsMade volumes (set_parts s) → IsFresh s

-- a group that is found on its parts
pub record Loads (parts : PartDisks) (new : IiDisks) : Type 0 where
  pub disks : parts_no_faults (parts_of new) ≡ parts_no_faults parts
  pub later : NoneFell (map (λ d. d.faults) (disks_in parts)) (map (λ d. d.faults) (disks_of new))
  pub whole : AreTold parts → AreWhole parts
  pub group : meaning new ≡ meaning_of_parts parts
  pub block : IsTold parts.state → new.block ≡ kept_on parts.state
  pub holds : IsTold parts.state → HoldsBlock new.state new.block
  pub pending : All (IsFoundPending parts.volumes) (pending_in new.block.slots new.sets)
  pub sound : AreTold parts → IsSound new
  pub told : AreTold parts → AreTold (parts_of new)
  pub shape : shape_of new ≡ parts_shape parts
  pub same : map no_faults (disks_of new) ≡ map no_faults (disks_in parts)

-- why no group was found; the parts are handed back as they were, but for the counts of faults, and stand for the same group
abbrev pub WhyNotFound : PartDisks → Why → PartDisks → Type 0
WhyNotFound old (Size need have) new = ⊥
WhyNotFound old (BadRecord field) new = AreTold old → AreBad old field × (AreWhole old → ⊥)
WhyNotFound old NoMemory new = Unit {0}
WhyNotFound old Fault new = OneRose (map (λ d. d.faults) (disks_in old)) (map (λ d. d.faults) (disks_in new)) × (list_all (λ d. d.steady) (disks_in old) ≡ false)

pub record LoadRefused (old : PartDisks) (why : Why) (new : PartDisks) : Type 0 where
  pub parts : parts_no_faults new ≡ parts_no_faults old
  pub later : NoneFell (map (λ d. d.faults) (disks_in old)) (map (λ d. d.faults) (disks_in new))
  pub cause : WhyNotFound old why new
  pub told : AreTold old → AreTold new
  pub whole : AreWhole old → AreWhole new
  pub group : meaning_of_parts new ≡ meaning_of_parts old
  pub shape : parts_shape new ≡ parts_shape old
  pub same : map no_faults (disks_in new) ≡ map no_faults (disks_in old)
