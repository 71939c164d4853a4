-- Sets that are held with their disks, as their group sees them.
use Rattle.std.specs.Prelude.{◌≡◌, ℕ, ◌-◌, ◌*◌, ◌^◌, ◌%◌, ◌≤◌, ◌==◌, ◌&&◌, ◌||◌, nat_lt, if◌then◌else◌, Bool, false, Some}
use Rattle.avs_seg.specs.Image.{Image, range}
use Rattle.avs_seg.specs.Segment.{seg_count}
use Rattle.avs_dev.specs.Seen.{Seen, shown}
use Rattle.avs_flip.specs.Areas.{Areas, live_from}
use Rattle.avs_model.specs.ShadowSets.{ChunkLists, is_compact}
use Rattle.avs_model.specs.declared.shadow.Kind.TheVariants as kinds
use Rattle.avs_chunks.specs.States.{state_in, state_on}
use Rattle.avs_chunks.specs.ChunkSet.{ChunkSet}
use Rattle.avs_entries.specs.Entries.{state_by, slot_by, entry_in, entry_on}
use Rattle.avs_compact.specs.CompactSet.{CompactSet}
use Rattle.avs_sets.specs.Sets.{on_master, ChunkMap, ChunkPlace, OwnSlot, OverSlot, SetSeen}
use Rattle.avs_sets.specs.Meaning.{lists_by}
use Rattle.avs_held.specs.declared.held.Seat.{Seat}

-- one of two areas, of which `true` is the second: a disk that does not tell its blocks shows none there
abbrev pub area_of : Areas → Bool → Image
area_of areas b = range (shown areas.disk) (live_from (record areas { live_b = b })) areas.len

-- ---- a set in chunks

-- of a set that is not compact each chunk has the slot of its number
abbrev pub own_map : (ℕ → ℕ) → ChunkMap
own_map states = record { state = states; place = λ c. OwnSlot c }

-- a set in chunks, in its seat
abbrev pub chunk_set : Seat → ChunkSet → SetSeen
chunk_set seat s = record {
  slot = seat.slot;
  kind = s.kind;
  master = seat.master;
  size = record { blocks = s.blocks; own = seat.own };
  over = seat.over;
  shadow = s.shadow;
  bitmap = s.areas.disk;
  area = λ b. own_map (λ c. state_on (area_of s.areas b) c);
  memory = own_map (λ c. state_in s.memory c);
  next = own_map (λ c. state_in s.next c);
  live_b = s.areas.live_b;
}

-- it is not compact, and the shadow's disk, where it is there, has room for it
pub record HasRoom (s : ChunkSet) : Type 0 where
  pub kind : is_compact s.kind ≡ false
  pub disk : (d : Seen) → s.shadow ≡ Some d → s.blocks ≤ d.size

-- ---- a compact set

-- whether an entry keeps its form: it is 0, or tells a state and a slot
abbrev pub has_form : ℕ → Bool
has_form entry = (entry == 0) || (nat_lt 0 (state_by entry) && nat_lt 0 (entry % 2 ^ 30))

-- The state that an entry tells, and the place: one of the set's own slots, or one behind these of the overflow volume. An entry without
-- its form tells none of the four states, and no slot that there is.
abbrev pub told_state : ℕ → ℕ
told_state entry = if has_form entry then state_by entry else 4

abbrev pub slot_place : ℕ → ℕ → ChunkPlace
slot_place own slot = if nat_lt slot own then OwnSlot slot else OverSlot (slot - own)

abbrev pub told_place : ℕ → ℕ → ChunkPlace
told_place own entry = if has_form entry then slot_place own (slot_by entry) else OverSlot (2 ^ 30)

-- n chunks by their entries: behind the last one none has contents of its own
abbrev pub slot_map : ℕ → ℕ → (ℕ → ℕ) → ChunkMap
slot_map own n entries = record {
  state = λ c. if nat_lt c n then told_state (entries c) else on_master;
  place = λ c. told_place own (entries c);
}

-- a compact set, in its seat
abbrev pub compact_set : Seat → CompactSet → SetSeen
compact_set seat s = record {
  slot = s.set;
  kind = kinds.Compact;
  master = seat.master;
  size = record { blocks = s.blocks; own = s.own };
  over = seat.over;
  shadow = s.shadow;
  bitmap = s.areas.disk;
  area = λ b. slot_map s.own (seg_count s.blocks) (λ c. entry_on (area_of s.areas b) c);
  memory = slot_map s.own (seg_count s.blocks) (λ c. entry_in s.memory c);
  next = slot_map s.own (seg_count s.blocks) (λ c. entry_in s.next c);
  live_b = s.areas.live_b;
}

-- It takes slots of the overflow volume by the number of its own slot, has its seat's slots, and its shadow's disk has no block behind
-- those of the set.
pub record IsSeated (seat : Seat) (s : CompactSet) : Type 0 where
  pub slot : s.set ≡ seat.slot
  pub own : s.own ≡ seat.own
  pub disk : (d : Seen) → s.shadow ≡ Some d → d.size ≤ s.blocks

-- ---- as they are held

-- A set in chunks that is held: its seat, and what it keeps of its chunks.
pub record Held : Type 0 where
  pub seat : Seat
  pub chunks : ChunkSet

-- the set as its group sees it
abbrev pub seen_of : Held → SetSeen
seen_of h = chunk_set h.seat h.chunks

-- A compact set that is held.
pub record HeldSlots : Type 0 where
  pub seat : Seat
  pub slots : CompactSet

abbrev pub slots_seen : HeldSlots → SetSeen
slots_seen h = compact_set h.seat h.slots

-- a disk can be the shadow's of a compact set: it has the blocks of its slots, and none behind the set
abbrev pub CanShadow : CompactSet → Seen → Type 0
CanShadow s d = (64 * s.own ≤ d.size) × (d.size ≤ s.blocks)

-- the lists of chunks of a set, by the memory
abbrev pub lists_of : SetSeen → ChunkLists
lists_of s = lists_by s.kind s.size.blocks s.memory.state false
