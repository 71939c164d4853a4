-- Commands: what the block of each says of the slots, and what is staged in a set before the block
-- is written.
use Rattle.std.specs.Prelude.{◌≡◌, ◌≢◌, ℕ, ◌/◌, ◌<◌, ◌≤◌, ◌==◌, ◌||◌, Bool, true, false, not, if◌then◌else◌, Option, None, List, length}
use Rattle.std.specs.Option.{unwrap_or}
use Rattle.avs_seg.specs.Image.{block_at}
use Rattle.avs_dev.specs.Seen.{Seen}
use Rattle.avs_model.specs.ShadowSets.{ChunkList, Online, Offline, Exported, is_online, is_offline, is_exported, is_independent, is_compact}
use Rattle.avs_model.specs.GroupStates.{next_sequence}
use Rattle.avs_model.specs.declared.shadow.Kind.{Kind}
use Rattle.avs_sets.specs.Says.{SlotSays, BlockSays}
use Rattle.avs_sets.specs.Sets.{on_master, split, on_shadow, SetSeen, chunks_of, IsAlike}
use Rattle.avs_sets.specs.Meaning.{set_of, image_in, slot_of, is_enabled, standing_of, chunks_by, read}

-- ---- the block

-- the note that is given, or the one that stands; and the next number
pub record IsNext (says block : BlockSays) (given : Option (List ℕ)) : Type 0 where
  pub note : block.note ≡ unwrap_or given says.note
  pub sequence : block.sequence ≡ next_sequence says.sequence

-- a slot of which all is said again but the live area, its copying and its standing
pub record KeepsSlot (old new : SlotSays) : Type 0 where
  pub enabled : new.enabled ≡ old.enabled
  pub kind : new.kind ≡ old.kind

-- ---- the states of a set behind a command

-- the shadow becomes its master: of an independent set what was split stands on the master alone,
-- by a full copy all does; of another set all does
abbrev pub renewed : Bool → Kind → ℕ → ℕ
renewed whole kind state =
    if not (is_independent kind) || whole then on_master
    else if state == split then on_master else state

-- the master becomes the shadow: what was split stands on the shadow alone
abbrev pub restored : ℕ → ℕ
restored state = if state == split then on_shadow else state

-- in another set of that master what was split in the one that it becomes is split
abbrev pub overtaken : ℕ → ℕ → ℕ
overtaken from state = if from == split then split else state

-- the states of the chunks of a set by one block are these by another; behind its last chunk none
-- has contents of its own; and what has contents of its own stands where it stood
pub record HasStates (says block : BlockSays) (s : SetSeen) (to : ℕ → ℕ → ℕ) : Type 0 where
  pub states : (c : ℕ) → c < chunks_of s → (chunks_by block s).state c
      ≡ to c ((chunks_by says s).state c)
  pub none : (c : ℕ) → chunks_of s ≤ c → (chunks_by block s).state c ≡ on_master

pub record KeepsPlaces (says block : BlockSays) (s : SetSeen) : Type 0 where
  pub each : (c : ℕ) → (chunks_by block s).state c ≢ on_master → (chunks_by block s).place c
      ≡ (chunks_by says s).place c

-- By the block the shadow of a set, which is not given away, is its master.
pub record Renews (says block : BlockSays) (s : SetSeen) (whole : Bool) : Type 0 where
  pub live : is_enabled says s ≡ true
  pub here : is_exported (standing_of says s) ≡ false
  pub slot : KeepsSlot (slot_of says s) (slot_of block s)
  pub goes_on : (slot_of block s).stopped ≡ false
  pub online : standing_of block s ≡ Online
  pub states : HasStates says block s (λ chunk state. renewed whole s.kind state)
  pub places : KeepsPlaces says block s

-- By the block the master of a set, which is online, is its shadow.
pub record Restores (says block : BlockSays) (s : SetSeen) : Type 0 where
  pub live : is_enabled says s ≡ true
  pub online : standing_of says s ≡ Online
  pub slot : KeepsSlot (slot_of says s) (slot_of block s)
  pub goes_on : (slot_of block s).stopped ≡ false
  pub standing : standing_of block s ≡ standing_of says s
  pub states : HasStates says block s (λ chunk state. restored state)
  pub places : KeepsPlaces says block s

-- Another set of that master, which is not offline: what is split in the one that the master
-- becomes is split in it, and what of that stood on the master alone has been copied.
pub record Overtaken (says block : BlockSays) (volumes overs : List (Option Seen))
    (from s : SetSeen) : Type 0 where
  pub live : is_enabled says s ≡ true
  pub here : is_offline (standing_of says s) ≡ false
  pub slot : KeepsSlot (slot_of says s) (slot_of block s)
  pub stopped : (slot_of block s).stopped ≡ (slot_of says s).stopped
  pub standing : standing_of block s ≡ standing_of says s
  pub states : HasStates says block s
      (λ chunk state. overtaken ((chunks_by says from).state chunk) state)
  pub places : (c : ℕ) → (chunks_by says s).state c ≢ on_master → (chunks_by block s).place c
      ≡ (chunks_by says s).place c
  pub copied : is_online (standing_of says s) ≡ true → (i : ℕ) → i < s.size.blocks
      → (chunks_by says from).state (i / 64) ≡ split → (chunks_by says s).state (i / 64) ≡ on_master
      → (read block overs s).stands i ≡ block_at (image_in volumes s.master) i

-- A set goes offline, with what it would need and what there is: nothing else is said of its slot.
pub record PutOffline (says block : BlockSays) (s : SetSeen) (needed slots : ℕ) : Type 0 where
  pub live : is_enabled says s ≡ true
  pub online : standing_of says s ≡ Online
  pub compact : is_compact s.kind ≡ true
  pub slot : slot_of block s ≡ record (slot_of says s) { standing = Offline needed slots }

-- ---- commands of one set

-- of every other set the slot is said as before
pub record KeepsOthers (says block : BlockSays) (sets : List SetSeen) (k : ℕ) : Type 0 where
  pub each : (j : ℕ) → j < length sets → j ≢ k
      → slot_of block (set_of sets j) ≡ slot_of says (set_of sets j)

-- copying stops
pub record Aborts (says block : BlockSays) (s : SetSeen) : Type 0 where
  pub live : is_enabled says s ≡ true
  pub slot : slot_of block s ≡ record (slot_of says s) { stopped = true }

-- the shadow is given away with a stamp, of a set that is not offline
pub record Exports (says block : BlockSays) (s : SetSeen) (stamp : ℕ) : Type 0 where
  pub live : is_enabled says s ≡ true
  pub here : is_offline (standing_of says s) ≡ false
  pub slot : slot_of block s ≡ record (slot_of says s) { standing = Exported stamp }

-- the set is there no more; none of its chunks stands on its shadow alone
pub record Disables (says block : BlockSays) (s : SetSeen) : Type 0 where
  pub live : is_enabled says s ≡ true
  pub gone : is_enabled block s ≡ false
  pub none : (c : ℕ) → c < chunks_of s → (chunks_by says s).state c ≢ on_shadow

-- A set that was given away, which is independent and has no chunk on one disk alone, comes back.
-- The chunks of a list are split in it; where it is the same on both, it is.
pub record Joins (says block : BlockSays) (volumes overs : List (Option Seen)) (s : SetSeen)
    (chunks : ChunkList) : Type 0 where
  pub live : is_enabled says s ≡ true
  pub independent : is_independent s.kind ≡ true
  pub settled : (c : ℕ) → c < chunks_of s
      → ((chunks_by says s).state c ≢ on_master) × ((chunks_by says s).state c ≢ on_shadow)
  pub within : (c : ℕ) → chunks_of s ≤ c → chunks c ≡ false
  pub slot : slot_of block s
      ≡ record (slot_of says s) { area_b = (slot_of block s).area_b; standing = Online }
  pub states : HasStates says block s (λ chunk state. if chunks chunk then split else state)
  pub places : KeepsPlaces says block s
  pub alike : IsAlike (read block overs s) (image_in volumes s.master)

-- a set as it is made: none of its chunks has contents of its own
pub record IsFresh (s : SetSeen) : Type 0 where
  pub each : (c : ℕ) → (s.area false).state c ≡ on_master

-- A pending set is enabled, behind all others that are; no chunk of a set of its master stands on
-- its shadow alone.
pub record Confirms (says block : BlockSays) (sets : List SetSeen) (k : ℕ) : Type 0 where
  pub pending : is_enabled says (set_of sets k) ≡ false
  pub slot : slot_of block (set_of sets k) ≡ record {
    enabled = true;
    area_b = false;
    stopped = false;
    standing = Online;
    kind = (set_of sets k).kind;
  }
  pub over : (set_of sets k).over ≡ None
  pub fresh : IsFresh (set_of sets k)
  pub last : (j : ℕ) → k < j → j < length sets → is_enabled says (set_of sets j) ≡ false
  pub none : (j : ℕ) → j < length sets → is_enabled says (set_of sets j) ≡ true
      → (set_of sets j).master ≡ (set_of sets k).master
      → (c : ℕ) → c < chunks_of (set_of sets j) → (chunks_by says (set_of sets j)).state c
      ≢ on_shadow
