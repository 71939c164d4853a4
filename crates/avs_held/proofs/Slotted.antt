-- A compact set as its group sees it: its disks, what is read of it, and the slots that are its own.
use Rattle.std.proofs.Common.{◌≡◌, ◌≢◌, ◌⊎◌, inl, inr, ℕ, ◌-◌, ◌/◌, ◌<◌, ◌≤◌, Bool, cond, eqb, Option, None, Some, [], length, drop, Result, ◌∙◌, sym, refl, ap, subst, arith}
use Rattle.std.proofs.lemmas.Bool.{cases_eq, ne_eqb}
use Rattle.std.proofs.lemmas.List.{drop_all}
use Rattle.avs_seg.specs.Image.{Image, block_at}
use Rattle.avs_seg.specs.Segment.{seg_count}
use Rattle.avs_dev.specs.Seen.{Seen, IsTold, shown}
use Rattle.avs_dev.specs.Devices.{AllGoOn}
use Rattle.avs_dev.proofs.Going.{shown_told}
use Rattle.avs_over.specs.Slots.{owner_at}
use Rattle.avs_over.specs.Over.{OverSet, slots}
use Rattle.avs_entries.specs.Entries.{IsEntry, state_by, slot_by, entry_on}
use Rattle.avs_compact.specs.CompactSet as compact
use Rattle.avs_compact.specs.CompactSet.{CompactSet, disk_of, entry_of, disk_entry, in_slot}
use Rattle.avs_compact.specs.Disks.{CompactDisk, Master, Shadow, Bitmap, Over, disk_at}
use Rattle.avs_compact.specs.Calls as calls
use Rattle.avs_compact.specs.Keeping as keeping
use Rattle.avs_sets.specs.Says.{BlockSays}
use Rattle.avs_sets.specs.Sets as sets
use Rattle.avs_sets.specs.Sets.{ChunkPlace, OwnSlot, OverSlot, ChunkMap, SetSeen, SetRead, chunks_of, read_from, block_in, KeepsMaster, KeepsShadow}
use Rattle.avs_sets.specs.Meaning.{chunks_by}
use Rattle.avs_sets.specs.Whole.{AreSame}
use Rattle.avs_sets.specs.Steps.{SetSpot, OfMaster, OfShadow, OfBitmap, OfOver, set_disks, read_over, IsKnown}
use Rattle.avs_sets.specs.Owners.{OwnsPlaces, IsServed, LacksSlot}
use Rattle.avs_sets.proofs.Spots.{all_among}
use Rattle.avs_held.specs.declared.held.Seat.{Seat}
use Rattle.avs_held.specs.Held.{told_state, told_place, slot_place, slot_map, compact_set}
use Rattle.avs_held.specs.Rooms.{owners_of}
use Rattle.avs_held.proofs.Projected.{live_is}
use Rattle.avs_held.proofs.Told.{state_formed, place_formed, same_zero, same_entry, slot_is, over_slot, over_place, place_block, in_map, some_entry, some_state}

-- ---- disks

pub same_disk : (o : Option Seen) → sets.disk_of o ≡ disk_of o
same_disk None = refl
same_disk (Some d) = refl

abbrev pub spot_of : CompactDisk → SetSpot
spot_of Master = OfMaster
spot_of Shadow = OfShadow
spot_of Bitmap = OfBitmap
spot_of Over = OfOver

pub spot_is : (seat : Seat) (s : CompactSet) (m : Seen) (o : OverSet) (d : CompactDisk) → set_disks m (compact_set seat s) o.disk (spot_of d) ≡ disk_at s o m d
spot_is seat s m o Master = refl
spot_is seat s m o Shadow = same_disk s.shadow
spot_is seat s m o Bitmap = refl
spot_is seat s m o Over = refl

-- they go on
pub all_spots : (seat : Seat) (s s' : CompactSet) (m m' : Seen) (o o' : OverSet) {T E : Type 0} (r : Result T E) → AllGoOn (disk_at s o m) r (disk_at s' o' m')
    → AllGoOn (set_disks m (compact_set seat s) o.disk) r (set_disks m' (compact_set seat s') o'.disk)
all_spots seat s s' m m' o o' r go = all_among (disk_at s o m) (disk_at s' o' m') (set_disks m (compact_set seat s) o.disk) (set_disks m' (compact_set seat s') o'.disk) spot_of
    (record { was = spot_is seat s m o; now = spot_is seat s' m' o'; others = other }) r go
  where
    other : (n : SetSpot) → ((d : CompactDisk) × (n ≡ spot_of d)) ⊎ (set_disks m' (compact_set seat s') o'.disk n ≡ set_disks m (compact_set seat s) o.disk n)
    other OfMaster = inl (Master, refl)
    other OfShadow = inl (Shadow, refl)
    other OfBitmap = inl (Bitmap, refl)
    other OfOver = inl (Over, refl)

-- no block of the shadow's disk is behind those of the set
shown_few : (d : Seen) (n : ℕ) → d.size ≤ n → length (shown d) ≤ n
shown_few d n few = elim (cases_eq (length d.image) d.size) [
  | inl told ↦ subst (λ (l : Image). length l ≤ n) (sym (shown_told d told)) (omega (arith, told, few))
  | inr ne ↦ subst (λ (b : Bool). length (cond b d.image []) ≤ n) (sym (ne_eqb (length d.image) d.size ne)) (omega arith)
]

pub none_behind : (n : ℕ) (o : Option Seen) → ((d : Seen) → o ≡ Some d → d.size ≤ n) → drop n (shown (sets.disk_of o)) ≡ []
none_behind n None few = drop_all n (shown sets.absent) (omega arith)
none_behind n (Some d) few = drop_all n (shown d) (shown_few d n (few d refl))

-- ---- what is read

-- of a set whose disks tell their blocks
abbrev pub disk_map : CompactSet → ChunkMap
disk_map s = slot_map s.own (compact.chunks_of s) (disk_entry s)

abbrev pub memory_map : CompactSet → ChunkMap
memory_map s = slot_map s.own (compact.chunks_of s) (entry_of s)

abbrev pub plain_read : CompactSet → OverSet → SetRead
plain_read s o = read_from (disk_map s) s.blocks (disk_of s.shadow).image o.disk.image

pub shown_is : (o : Option Seen) → IsTold (disk_of o) → shown (sets.disk_of o) ≡ (disk_of o).image
shown_is o told = ap (λ (d : Seen). shown d) (same_disk o) ∙ shown_told (disk_of o) told

module _ (says : BlockSays) (seat : Seat) (s : CompactSet) (bitmap : IsTold s.areas.disk) (area : (says.slots s.set).area_b ≡ s.areas.live_b) where
  pub map_is : chunks_by says (compact_set seat s) ≡ disk_map s
  map_is = ap (λ (img : Image). slot_map s.own (seg_count s.blocks) (λ c. entry_on img c)) (live_is s.areas (says.slots s.set).area_b bitmap area)

  pub read_is : (o : OverSet) → IsTold (disk_of s.shadow) → IsTold o.disk → read_over says (compact_set seat s) o.disk ≡ plain_read s o
  read_is o shadow over = λ p. read_from (map_is p) s.blocks (shown_is s.shadow shadow p) (shown_told o.disk over p)

-- the entries in memory keep their form, and those on the disk
abbrev pub AreFormed : (ℕ → ℕ) → ℕ → Type 0
AreFormed entries n = (c : ℕ) → c < n → IsEntry (entries c)

module _ (says : BlockSays) (seat : Seat) (s : CompactSet) (m : Seen) (o : OverSet) where
  -- the disks tell their blocks, and the memory is in step: of the set itself
  module _ (form : AreFormed (entry_of s) (compact.chunks_of s)) (kn : IsKnown says (compact_set seat s) m o.disk) where
    pub told_shadow : IsTold (disk_of s.shadow)
    told_shadow = subst (λ (d : Seen). IsTold d) (same_disk s.shadow) kn.shadow

    chunks : AreSame (disk_map s) (memory_map s) (compact.chunks_of s)
    chunks = subst (λ (x : ChunkMap). AreSame x (memory_map s) (compact.chunks_of s)) (map_is says seat s kn.bitmap (sym kn.area)) kn.chunks

    step : (c : ℕ) → c < compact.chunks_of s → disk_entry s c ≡ entry_of s c
    step c lt = same_entry s.own (entry_of s c) (disk_entry s c) (form c lt)
        (sym (in_map s.own (compact.chunks_of s) (entry_of s) c lt) ∙ chunks.state c lt ∙ in_map s.own (compact.chunks_of s) (disk_entry s) c lt)
        (λ some. chunks.place c lt (λ is. some (sym (in_map s.own (compact.chunks_of s) (disk_entry s) c lt) ∙ is)))

    pub known_set : calls.IsKnown s o
    known_set = record { shadow = told_shadow; bitmap = kn.bitmap; over = kn.over_told; step = record { each = λ c lt. sym (step c lt) } }

    pub disk_form : AreFormed (disk_entry s) (compact.chunks_of s)
    disk_form c lt = subst (λ (e : ℕ). IsEntry e) (sym (step c lt)) (form c lt)

    pub known_read : read_over says (compact_set seat s) o.disk ≡ plain_read s o
    known_read = read_is says seat s kn.bitmap (sym kn.area) o told_shadow kn.over_told

    pub master_shown : shown m ≡ m.image
    master_shown = shown_told m kn.master

  -- and back
  pub set_known : IsTold m → s.areas.live_b ≡ (says.slots s.set).area_b → calls.IsKnown s o → IsKnown says (compact_set seat s) m o.disk
  set_known master area k = record {
    master = master;
    shadow = subst (λ (d : Seen). IsTold d) (sym (same_disk s.shadow)) k.shadow;
    bitmap = k.bitmap;
    over_told = k.over;
    area = area;
    chunks = subst (λ (x : ChunkMap). AreSame x (memory_map s) (compact.chunks_of s)) (sym (map_is says seat s k.bitmap (sym area))) (record {
      state = λ c lt. in_map s.own (compact.chunks_of s) (entry_of s) c lt ∙ ap told_state (k.step.each c lt) ∙ sym (in_map s.own (compact.chunks_of s) (disk_entry s) c lt);
      place = λ c lt some. ap (λ (e : ℕ). told_place s.own e) (k.step.each c lt);
    });
  }

-- ---- blocks

below : (i n : ℕ) → i < n → i / 64 < seg_count n
below i n lt = omega (arith, lt)

module _ (s : CompactSet) (o : OverSet) (form : AreFormed (disk_entry s) (compact.chunks_of s)) where
  pub state_at : (c : ℕ) → c < compact.chunks_of s → (disk_map s).state c ≡ state_by (disk_entry s c)
  state_at c lt = in_map s.own (compact.chunks_of s) (disk_entry s) c lt ∙ state_formed (disk_entry s c) (form c lt)

  pub stands_at : (i : ℕ) → i < s.blocks → (plain_read s o).stands i ≡ keeping.stands s o i
  stands_at i lt = ap (λ (p : ChunkPlace). block_in (disk_of s.shadow).image o.disk.image p i) (place_formed s.own (disk_entry s (i / 64)) (form (i / 64) (below i s.blocks lt)))
      ∙ place_block s.own (slot_by (disk_entry s (i / 64))) (disk_of s.shadow).image o.disk.image i

  pub master_at : (m : Image) (i : ℕ) → i < s.blocks → sets.master_block (plain_read s o) m i ≡ keeping.master_block s o m i
  master_at m i lt = λ p. cond (eqb (state_at (i / 64) (below i s.blocks lt) p) 3) (stands_at i lt p) (block_at m i)

  pub shadow_at : (m : Image) (i : ℕ) → i < s.blocks → sets.shadow_block (plain_read s o) m i ≡ keeping.shadow_block s o m i
  shadow_at m i lt =
      (λ p. cond (eqb (in_map s.own (compact.chunks_of s) (disk_entry s) (i / 64) (below i s.blocks lt) p) 0) (block_at m i) (stands_at i lt p))
      ∙ ap (λ (b : Bool). cond b (block_at m i) (keeping.stands s o i)) (same_zero (disk_entry s (i / 64)))

  pub alike_plain : (m : Image) → keeping.IsAlike s o m → sets.IsAlike (plain_read s o) m
  alike_plain m a = record { same = λ i lt is. stands_at i lt ∙ a.same i lt (sym (state_at (i / 64) (below i s.blocks lt)) ∙ is) }

  pub plain_alike : (m : Image) → sets.IsAlike (plain_read s o) m → keeping.IsAlike s o m
  plain_alike m a = record { same = λ i lt is. sym (stands_at i lt) ∙ a.same i lt (state_at (i / 64) (below i s.blocks lt) ∙ is) }

module _ (s s' : CompactSet) (o o' : OverSet) (m m' : Image) (blocks : s'.blocks ≡ s.blocks) (form : AreFormed (disk_entry s) (compact.chunks_of s)) (form' : AreFormed (disk_entry s') (compact.chunks_of s'))
    (k : keeping.KeepsBlocks s o m s' o' m') where
  now : (i : ℕ) → i < s.blocks → i < s'.blocks
  now i lt = omega (arith, blocks, lt)

  chunk_now : (c : ℕ) → c < compact.chunks_of s → c < compact.chunks_of s'
  chunk_now c lt = subst (λ (n : ℕ). c < seg_count n) (sym blocks) lt

  pub plain_master : KeepsMaster (plain_read s o) m (plain_read s' o') m'
  plain_master = record {
    master = λ i lt. master_at s' o' form' m' i (now i lt) ∙ k.master i lt ∙ sym (master_at s o form m i lt);
    only = λ i lt ne. k.only i lt (λ is. ne (state_at s o form (i / 64) (below i s.blocks lt) ∙ is));
    alike = λ a. alike_plain s' o' form' m' (k.alike (plain_alike s o form m a));
    back = λ c lt is. state_at s o form c lt ∙ k.back c lt (sym (state_at s' o' form' c (chunk_now c lt)) ∙ is);
    splits = λ c lt is. state_at s' o' form' c (chunk_now c lt) ∙ k.splits c lt (sym (state_at s o form c lt) ∙ is);
  }

  pub plain_shadow : KeepsShadow (plain_read s o) m (plain_read s' o') m'
  plain_shadow = record { shadow = λ i lt. shadow_at s' o' form' m' i (now i lt) ∙ k.shadow i lt ∙ sym (shadow_at s o form m i lt) }

-- ---- its slots

module _ (seat : Seat) (s : CompactSet) (o : OverSet) (form : AreFormed (entry_of s) (compact.chunks_of s)) where
  place_is : (c : ℕ) → c < compact.chunks_of s → (memory_map s).place c ≡ slot_place s.own (slot_by (entry_of s c))
  place_is c lt = place_formed s.own (entry_of s c) (form c lt)

  some_now : (c : ℕ) → c < compact.chunks_of s → entry_of s c ≢ 0 → (memory_map s).state c ≢ 0
  some_now c lt ne = some_state s.own (compact.chunks_of s) (entry_of s) c lt ne

  some_was : (c : ℕ) → (memory_map s).state c ≢ 0 → entry_of s c ≢ 0
  some_was c some = some_entry s.own (compact.chunks_of s) (entry_of s) c some

  pub placed_set : OwnsPlaces (owners_of o) (compact_set seat s) → keeping.IsPlaced s o
  placed_set owns = record {
    form = form;
    apart = λ c d lt lt' ne some some' same. owns.apart c d lt lt' ne (some_now c lt some) (some_now d lt' some')
        (place_is d lt' ∙ ap (λ (n : ℕ). slot_place s.own n) same ∙ sym (place_is c lt));
    mine = λ c lt some le. owns.taken c (slot_by (entry_of s c) - s.own) lt (some_now c lt some) (place_is c lt ∙ over_place s.own (slot_by (entry_of s c)) le);
  }

  pub set_placed : keeping.IsPlaced s o → OwnsPlaces (owners_of o) (compact_set seat s)
  set_placed p = record {
    apart = λ c d lt lt' ne some some' same. p.apart c d lt lt' ne (some_was c some) (some_was d some')
        (slot_is s.own (slot_by (entry_of s d)) (slot_by (entry_of s c)) (sym (place_is d lt') ∙ same ∙ place_is c lt));
    taken = λ c slot lt some at.
        let is = over_slot s.own (slot_by (entry_of s c)) slot (sym (place_is c lt) ∙ at) in
        ap (λ (n : ℕ). owner_at o.owners n) (sym is.1) ∙ p.mine c lt (some_was c some) is.0;
  }

  pub served_set : IsServed (slots o) (compact_set seat s) → calls.AreThere s o
  served_set served = record { each = λ c lt some le. served.each c (slot_by (entry_of s c) - s.own) lt (some_now c lt some) (place_is c lt ∙ over_place s.own (slot_by (entry_of s c)) le) }

  pub set_served : calls.AreThere s o → IsServed (slots o) (compact_set seat s)
  set_served t = record {
    each = λ c slot lt some at.
        let is = over_slot s.own (slot_by (entry_of s c)) slot (sym (place_is c lt) ∙ at) in
        subst (λ (n : ℕ). n < slots o) is.1 (t.each c lt (some_was c some) is.0);
  }

  pub lacks_set : calls.LacksSlot s o → LacksSlot (slots o) (compact_set seat s)
  lacks_set l = record {
    chunk = l.chunk;
    slot = slot_by (entry_of s l.chunk) - s.own;
    there = l.there;
    some = some_now l.chunk l.there l.some;
    at = place_is l.chunk l.there ∙ over_place s.own (slot_by (entry_of s l.chunk)) l.past;
    lacks = l.lacks;
  }
