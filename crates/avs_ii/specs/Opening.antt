-- How one set is opened on its disks, and why not.
use Rattle.std.specs.Prelude.{◌≡◌, ◌⊎◌, ℕ, ◌^◌, ◌<◌, ◌≤◌, Bool, true, false, not, ◌&&◌, ◌||◌, nat_lt, if◌then◌else◌, List, [], ◌∷◌, length, Option, None, Some, is_some}
use Rattle.avs_seg.specs.Causes.{Rose}
use Rattle.avs_dev.specs.Seen.{Seen, IsTold}
use Rattle.avs_dev.specs.declared.back.Why.{Why}
use Rattle.avs_dev.specs.declared.back.Why.TheVariants.{Size, BadRecord, NoMemory, Fault}
use Rattle.avs_code.specs.declared.slot_table.Slot.{Slot}
use Rattle.avs_model.specs.Shadows.{slot_count}
use Rattle.avs_model.specs.declared.shadow.Kind.{Kind}
use Rattle.avs_model.specs.declared.shadow.Kind.TheVariants.{Ind, Dep, Compact}
use Rattle.avs_chunk.specs.States.{on_master}
use Rattle.avs_chunk.specs.ChunkSet.{ChunkSet, disk_of, state_of, chunks_of, IsInStep, HasLabel}
use Rattle.avs_chunk.specs.Making.{Fits, IsSmall, areas_on}
use Rattle.avs_ii.specs.Held.{HeldSet, slot_in, is_live, has_flag, area_b}
use Rattle.avs_ii.specs.SetDisks.{SetDisks}
use Rattle.avs_ii.specs.Parts.{size_of}
use Rattle.avs_ii.specs.Saved.{IsSettledInMemory}
use Rattle.avs_ii.specs.Making.{IsPlaced, IsBadBitmap, IsBadSet, fits_slot, between}

-- a set of the kind has no slots of its own
abbrev pub is_whole : Kind → Bool
is_whole Ind = true
is_whole Dep = true
is_whole Compact = false

-- whether a set may stand among so many volumes, before its disks are looked at
abbrev pub is_placed : List Slot → ℕ → SetDisks → Bool
is_placed slots volumes s =
    nat_lt s.slot slot_count && (nat_lt s.master volumes && (is_whole s.kind && (not (is_some s.over) && (not (is_live slots s.slot) || fits_slot (slot_in slots s.slot) s.kind))))

-- a set may stand among volumes, before its disks are looked at, and its master has so many blocks, one or more
pub record IsPlacedOn (slots : List Slot) (volumes : List Seen) (s : SetDisks) (blocks : ℕ) : Type 0 where
  pub placed : is_placed slots (length volumes) s ≡ true
  pub slot : s.slot < slot_count
  pub size : blocks ≡ size_of volumes s.master
  pub some : 0 < blocks

-- a disk that is too small breaks a rule between the parts
abbrev pub between_parts : Why → Why
between_parts (Size need have) = BadRecord between
between_parts (BadRecord field) = BadRecord field
between_parts NoMemory = NoMemory
between_parts Fault = Fault

-- whether area B is live of a set that opens
abbrev pub live_area : List Slot → ℕ → Bool
live_area slots slot = if is_live slots slot then has_flag area_b (slot_in slots slot) else false

-- the chunks of a set, which are read where it is enabled
pub record OpensChunks (slots : List Slot) (slot : ℕ) (kind : Kind) (shadow : Option Seen) (bitmap : Seen) (blocks : ℕ) (new : ChunkSet) : Type 0 where
  pub is : new ≡ record { kind = kind; shadow = shadow; areas = areas_on new.areas.disk blocks (live_area slots slot); memory = new.memory; blocks = blocks }
  pub there : shadow ≡ Some (disk_of shadow)
  pub fits : Fits shadow bitmap blocks
  pub disk : new.areas.disk ≡ record bitmap { faults = new.areas.disk.faults }
  pub later : bitmap.faults ≤ new.areas.disk.faults
  pub label : is_live slots slot ≡ true → IsTold bitmap → HasLabel new
  pub step : is_live slots slot ≡ true → IsTold bitmap → IsInStep new
  pub settled : IsSettledInMemory new
  pub pending : is_live slots slot ≡ false → (c : ℕ) → c < chunks_of new → state_of new c ≡ on_master

-- the disks of an enabled set have room for it, and its bitmap is refused
pub record RefusesBitmap (slots : List Slot) (slot : ℕ) (shadow : Option Seen) (bitmap : Seen) (blocks field : ℕ) : Type 0 where
  pub live : is_live slots slot ≡ true
  pub there : shadow ≡ Some (disk_of shadow)
  pub fits : Fits shadow bitmap blocks
  pub bad : IsTold bitmap → IsBadBitmap bitmap blocks (has_flag area_b (slot_in slots slot)) field

-- why they are not opened
abbrev pub ChunksRefused : List Slot → ℕ → Option Seen → Seen → ℕ → Why → Seen → Type 0
ChunksRefused slots slot shadow bitmap blocks (Size need have) new = IsSmall shadow bitmap blocks need have
ChunksRefused slots slot shadow bitmap blocks (BadRecord field) new = ((field ≡ between) × (shadow ≡ None)) ⊎ RefusesBitmap slots slot shadow bitmap blocks field
ChunksRefused slots slot shadow bitmap blocks NoMemory new = Unit {0}
ChunksRefused slots slot shadow bitmap blocks Fault new = Rose bitmap.faults new.faults × (bitmap.steady ≡ false)

-- a set that opens
pub record OpensSet (slots : List Slot) (volumes : List Seen) (s : SetDisks) (new : HeldSet) : Type 0 where
  pub placed : IsPlaced slots volumes s
  pub slot : new.slot ≡ s.slot
  pub master : new.master ≡ s.master
  pub chunks : OpensChunks slots s.slot s.kind s.shadow s.bitmap (size_of volumes s.master) new.chunks

-- why a set does not open: it is not placed; or it is, and its bitmap is refused
abbrev pub WhyNotOpened : List Slot → List Seen → SetDisks → Why → Seen → Type 0
WhyNotOpened slots volumes s (Size need have) new = ⊥
WhyNotOpened slots volumes s (BadRecord field) new =
    ((field ≡ between) × (IsPlaced slots volumes s → ⊥)) ⊎ (IsPlaced slots volumes s × (IsTold s.bitmap → IsBadSet slots volumes field s))
WhyNotOpened slots volumes s NoMemory new = Unit {0}
WhyNotOpened slots volumes s Fault new = Rose s.bitmap.faults new.faults × (s.bitmap.steady ≡ false)

-- a set that does not open is handed back as it was, but for the count of faults
pub record SetRefused (slots : List Slot) (volumes : List Seen) (s : SetDisks) (why : Why) (new : SetDisks) : Type 0 where
  pub is : new ≡ record s { bitmap = record s.bitmap { faults = new.bitmap.faults } }
  pub later : s.bitmap.faults ≤ new.bitmap.faults
  pub cause : WhyNotOpened slots volumes s why new.bitmap

-- a group may have so many volumes, sets and overflow volumes
pub record AreFew (volumes sets overs : ℕ) : Type 0 where
  pub count : volumes < 2 ^ 32
  pub one : sets ≤ 1
  pub none : overs ≡ 0

-- the disks of a set have room for it, and its areas lie behind the label
pub record IsOnDisks (s : HeldSet) : Type 0 where
  pub fits : Fits s.chunks.shadow s.chunks.areas.disk s.chunks.blocks
  pub areas : s.chunks.areas ≡ areas_on s.chunks.areas.disk s.chunks.blocks s.chunks.areas.live_b

-- the only set of some parts, where there is one, opens or does not
abbrev pub OpensOne : List Slot → List Seen → List SetDisks → List HeldSet → Type 0
OpensOne slots volumes [] held = held ≡ []
OpensOne slots volumes (s ∷ rest) held = (h : HeldSet) × ((held ≡ h ∷ []) × OpensSet slots volumes s h)

abbrev pub RefusesOne : List Slot → List Seen → List SetDisks → Why → List SetDisks → Type 0
RefusesOne slots volumes [] why new = ⊥
RefusesOne slots volumes (s ∷ rest) why new = (s' : SetDisks) × ((new ≡ s' ∷ []) × SetRefused slots volumes s why s')
